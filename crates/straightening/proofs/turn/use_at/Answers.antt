use Rattle.std.proofs.Common.{rules, ℤ, subst, sym, ◌∙◌, refl}
use mir.Syntax.{w128}
use mir.Val.{SFits}
use Rattle.bracket_poly.specs.Arena.{key_of}
use Rattle.bracket_terms.specs.Uses.{IsLogUse}
use Rattle.coordinate_model.specs.Key.{Key}
use Rattle.coordinate_model.specs.Syzygy.{Use}
use Rattle.straightening.proofs.UseLemmas.{log_use, is_sign, multiplier_is, same_use}
use Rattle.straightening.proofs.turn.use_at.Goals as goal

pub multiplier-requires-clause-sign : goal.multiplier-requires-clause-sign
multiplier-requires-clause-sign g c = is_sign _ c.at_place-parts.ensures.one

pub invariant_of-result : goal.invariant_of-result
invariant_of-result g c =
    let number : SFits w128 c.multiplier.result = search rules in
    let t : Key × ℤ = (key_of c.args.params.now c.args.rows.now, c.args.c) in
    record {
      formed =
          subst (λ (u : Use). IsLogUse g.row.D u)
          (sym (same_use g.row.D t _ _ _ c.at_place-parts.result _ _ _ _ _ _ c.requires.rank c.requires.key
          c.requires.violation refl c.at_place-parts.ensures.parts
          (multiplier_is _ c.args.c _ number c.ranges.c c.at_place-parts.ensures.one c.multiplier.ensures)
          refl (c.of.ensures ∙ c.in_ok-rest.ensures)
          (c.of-2.ensures ∙ c.in_ok-alpha.ensures.items_if_clones_equal (λ x y e. e))
          (c.of-3.ensures ∙ c.in_ok-beta.ensures.items_if_clones_equal (λ x y e. e))
          (c.of-4.ensures ∙ c.in_ok-gamma.ensures.items_if_clones_equal (λ x y e. e))))
          (log_use g.row.D t _ _ c.requires.rank c.requires.key c.requires.violation c.requires.degrees
          c.requires.not_zero c.requires.small);
    }

pub returns : goal.returns
returns g c =
    let number : SFits w128 c.multiplier.result = search rules in
    same_use g.row.D (key_of c.args.params.now c.args.rows.now, c.args.c) _ _ _ c.at_place-parts.result _ _ _ _ _ _
    c.requires.rank c.requires.key c.requires.violation refl c.at_place-parts.ensures.parts
    (multiplier_is _ c.args.c _ number c.ranges.c c.at_place-parts.ensures.one c.multiplier.ensures)
    refl (c.of.ensures ∙ c.in_ok-rest.ensures)
    (c.of-2.ensures ∙ c.in_ok-alpha.ensures.items_if_clones_equal (λ x y e. e))
    (c.of-3.ensures ∙ c.in_ok-beta.ensures.items_if_clones_equal (λ x y e. e))
    (c.of-4.ensures ∙ c.in_ok-gamma.ensures.items_if_clones_equal (λ x y e. e))
