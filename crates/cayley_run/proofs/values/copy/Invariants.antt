use Rattle.std.proofs.Common.{◌≡◌, take}
use Rattle.cayley_run.proofs.values.copy.Given as goal

abbrev pub invariant-loop-extensor : goal.invariant-loop-extensor
invariant-loop-extensor g l = l.entries.items ≡ take l.extensor-index l.value.entries
