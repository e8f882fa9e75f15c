use Rattle.std.proofs.Common.{map, drop}
use Rattle.bracket_terms.specs.LogUses.{use_of}
use Rattle.log_checker.proofs.UseSteps.{UsesSoFar}
use Rattle.log_checker.proofs.uses.add_uses.Given as goal

abbrev pub invariant-loop-done : goal.invariant-loop-done
invariant-loop-done g l =
    UsesSoFar l.fn.sum.tracked (map use_of l.uses) (map use_of (drop l.done l.uses)) l.done l.sum.tracked
