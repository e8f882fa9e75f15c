use Rattle.std.proofs.Common.{◌≡◌}
use Rattle.std.specs.List.{list_all}
use Rattle.proof_text.specs.Numbers.{is_counted}
use Rattle.proof_text.specs.Seen.{powers_seen}
use Rattle.proof_text.proofs.kinds.are_exponents.Given as goal

abbrev pub invariant-loop-power : goal.invariant-loop-power
invariant-loop-power l =
    list_all (λ power. is_counted 1000 power.digits) (powers_seen l.power-iterator)
    ≡ list_all (λ power. is_counted 1000 power.digits) (powers_seen l.fn.powers)
