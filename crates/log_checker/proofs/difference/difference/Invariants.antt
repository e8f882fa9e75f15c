use Rattle.log_checker.proofs.LeastKeys.{SameSoFar}
use Rattle.log_checker.proofs.difference.difference.Given as goal

abbrev pub invariant-loop-key : goal.invariant-loop-key
invariant-loop-key g l =
    SameSoFar l.computed.tracked.sum.terms l.written.tracked.sum.terms l.key-iterator l.others
