use Rattle.std.proofs.Common.{◌≡◌, take}
use Rattle.log_checker.proofs.values.copy.Given as goal

abbrev pub invariant-loop-extensor : goal.invariant-loop-extensor
invariant-loop-extensor g l = l.entries.items ≡ take l.extensor-index l.value.entries
