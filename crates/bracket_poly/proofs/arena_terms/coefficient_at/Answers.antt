use Rattle.std.proofs.Common.{pos, ap, ◌∙◌}
use Rattle.std.specs.Prelude.{unwrap_or}
use mir.Syntax.{w128}
use Rattle.std.proofs.lemmas.Int.{to_z-of_z}
use Rattle.bracket_poly.proofs.arena_terms.coefficient_at.Goals as goal

pub returns : goal.returns
returns g c =
    to_z-of_z w128 _ (record { sfits = c.unwrap_or.type_inv }) ∙ c.unwrap_or.ensures
    ∙ ap (λ o. unwrap_or o (pos 0)) (c.copied.ensures ∙ c.get.ensures.value)
