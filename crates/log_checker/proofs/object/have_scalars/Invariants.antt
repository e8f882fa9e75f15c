use Rattle.log_checker.proofs.Paired.{SameFrom}
use Rattle.log_checker.proofs.object.have_scalars.Given as goal

abbrev pub invariant-loop-number : goal.invariant-loop-number
invariant-loop-number g l = SameFrom l.starts l.sections l.number
