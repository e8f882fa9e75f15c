use Rattle.cayley_run.proofs.ObjectMeaning.{object_means}
use Rattle.cayley_run.proofs.ObjectRuns.{next_is_by_itself, run_is_by_objects}
use Rattle.cayley_run.proofs.laws.objects.Goals as goal

pub returns-clause-next : goal.returns-clause-next
returns-clause-next c = next_is_by_itself

pub returns-clause-all : goal.returns-clause-all
returns-clause-all c = run_is_by_objects

pub returns-clause-means : goal.returns-clause-means
returns-clause-means c = object_means
