use Rattle.std.proofs.Common.{ℕ, List, ap, ◌∙◌, arith}
use Rattle.proof_text.specs.Meant.{place_of}
use Rattle.proof_text.specs.Seen.{power_seen, powers_seen}
use Rattle.proof_text.proofs.ProductSteps.{first_place}
use Rattle.proof_text.proofs.products.+params_meant.Goals as goal

pub overflow_cast-place : goal.overflow_cast-place
overflow_cast-place t c =
    omega (
      arith,
      c.place_or_len-place.ensures ∙ ap (λ (ns : List (List ℕ)). place_of ns c.in-Some.power.name) c.items.ensures,
      first_place c.args.names.now (powers_seen c.args.powers) (power_seen c.in-Some.power) (powers_seen c.next.new.self)
          c.requires.named c.in-Some.ensures.steps,
      c.requires.few,
    )

pub with-requires : goal.with-requires
with-requires t c =
    omega (
      arith,
      c.place_or_len-place.ensures ∙ ap (λ (ns : List (List ℕ)). place_of ns c.in-Some.power.name) c.items.ensures,
      first_place c.args.names.now (powers_seen c.args.powers) (power_seen c.in-Some.power) (powers_seen c.next.new.self)
          c.requires.named c.in-Some.ensures.steps,
      c.requires.few,
    )
