use Rattle.std.proofs.Common.{◌-◌}
use Rattle.straightening.specs.Queues.{Covers}
use Rattle.straightening.proofs.SoFar.{SoFar}
use Rattle.straightening.proofs.run.make_turns.Given as goal

abbrev pub invariant-loop-uses : goal.invariant-loop-uses
invariant-loop-uses g l =
    SoFar l.budget l.turns l.fn.poly.tracked l.poly.tracked l.uses.items × Covers g.row.D l.queue l.poly.tracked.sum

abbrev pub decreases-loop-uses : goal.decreases-loop-uses
decreases-loop-uses g l = l.budget - l.turns
