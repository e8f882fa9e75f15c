use Rattle.log_checker.proofs.LeastKeys.{StandardSoFar}
use Rattle.log_checker.proofs.standard.nonstandard.Given as goal

abbrev pub invariant-loop-key : goal.invariant-loop-key
invariant-loop-key g l = StandardSoFar g.row.D l.poly.tracked.sum.terms l.key-iterator
