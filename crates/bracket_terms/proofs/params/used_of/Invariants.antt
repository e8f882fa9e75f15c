use Rattle.std.proofs.Common.{◌≡◌, ◌≤◌, take}
use Rattle.bracket_terms.specs.Exponents.{in_use}
use Rattle.bracket_terms.proofs.params.used_of.Given as goal

abbrev pub invariant-loop-used : goal.invariant-loop-used
invariant-loop-used l = (l.used ≤ 64) × (in_use (take l.used l.exponents) ≡ in_use l.exponents)

abbrev pub decreases-loop-used : goal.decreases-loop-used
decreases-loop-used l = l.used
