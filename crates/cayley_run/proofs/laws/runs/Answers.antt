use Rattle.cayley_run.proofs.EndAlike.{runs_end_alike}
use Rattle.cayley_run.proofs.RunBounds.{run_is_within}
use Rattle.cayley_run.proofs.RunMeaning.{run_means}
use Rattle.cayley_run.proofs.RunTurns.{run_takes_few_turns}
use Rattle.cayley_run.proofs.laws.runs.Goals as goal

pub returns-clause-means : goal.returns-clause-means
returns-clause-means c = run_means

pub returns-clause-within : goal.returns-clause-within
returns-clause-within c = run_is_within

pub returns-clause-turns : goal.returns-clause-turns
returns-clause-turns c = run_takes_few_turns

pub returns-clause-alike : goal.returns-clause-alike
returns-clause-alike c = runs_end_alike
