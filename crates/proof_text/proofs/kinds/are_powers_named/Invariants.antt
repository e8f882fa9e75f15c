use Rattle.std.proofs.Common.{◌≡◌}
use Rattle.std.specs.List.{list_all}
use Rattle.proof_text.specs.Meant.{is_among}
use Rattle.proof_text.specs.Seen.{powers_seen}
use Rattle.proof_text.proofs.kinds.are_powers_named.Given as goal

abbrev pub invariant-loop-power : goal.invariant-loop-power
invariant-loop-power l =
    list_all (λ power. is_among l.names power.name) (powers_seen l.power-iterator)
    ≡ list_all (λ power. is_among l.names power.name) (powers_seen l.fn.powers)
