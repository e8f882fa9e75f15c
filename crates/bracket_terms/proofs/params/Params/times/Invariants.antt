use Rattle.std.proofs.Common.{◌≡◌, take}
use Rattle.coordinate_model.specs.Key.{add_exponents}
use Rattle.bracket_terms.proofs.params.Params.times.Given as goal

abbrev pub invariant-loop-i : goal.invariant-loop-i
invariant-loop-i l = l.exponents ≡ add_exponents l.initial.exponents (take l.i l.more-items)
