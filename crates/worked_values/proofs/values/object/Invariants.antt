use Rattle.worked_values.specs.Objects.{IsScaled}
use Rattle.worked_values.proofs.values.object.Given as goal

abbrev pub invariant-loop-i : goal.invariant-loop-i
invariant-loop-i g l = IsScaled l.object
