use Rattle.straightening.proofs.BoundLaws.{run_is_bounded}
use Rattle.straightening.proofs.TurnableLaws.{turnable_are, run_takes_at_most}
use Rattle.straightening.proofs.laws.bounds.Goals as goal

pub returns-clause-turns : goal.returns-clause-turns
returns-clause-turns c = run_is_bounded

pub returns-clause-listed : goal.returns-clause-listed
returns-clause-listed c = turnable_are

pub returns-clause-most : goal.returns-clause-most
returns-clause-most c = run_takes_at_most
