use Rattle.std.proofs.Common.{length}
use Rattle.contraction.proofs.PassesSoFar.{SoFar}
use Rattle.contraction.proofs.passes.contract.Given as goal

abbrev pub invariant-loop-uses : goal.invariant-loop-uses
invariant-loop-uses g l = SoFar l.fn.poly.tracked l.poly.tracked l.uses.items

abbrev pub decreases-loop-uses : goal.decreases-loop-uses
decreases-loop-uses g l = length l.poly.tracked.sum.terms
