use Rattle.std.proofs.Common.{length}
use Rattle.straightening.specs.Queues.{Covers}
use Rattle.straightening.proofs.turn.next_use.Given as goal

abbrev pub invariant-loop-key : goal.invariant-loop-key
invariant-loop-key g l = Covers g.row.D l.queue l.poly.tracked.sum

abbrev pub decreases-loop-key : goal.decreases-loop-key
decreases-loop-key g l = length l.queue
