use Rattle.std.proofs.Common.{rules, sym, ap, ◌∙◌, ◌≡◌, ◌*ℤ◌}
use Rattle.std.specs.Prelude.{T}
use Rattle.std.proofs.Common.{subst}
use mir.Syntax.{w128}
use mir.Val.{SFits, to_z, of_z}
use Rattle.std.proofs.lemmas.Int.{to_z-of_z}
use Rattle.coordinate_model.specs.Sums.{is_zero}
use Rattle.bracket_poly.specs.Tracked.{fits}
use Rattle.bracket_poly.proofs.Additions.{adds_one, adds_too_large, adds_this, passed_product, passed, signed_nonzero, not_zero_is, seen_unchanged}
use Rattle.bracket_poly.proofs.poly.Poly.add_product.Goals as goal

pub add-requires : goal.add-requires
add-requires g c =
    let product : SFits w128 c.in-Some.product = search rules in
    let left : SFits w128 c.args.left.1 = search rules in
    let right : SFits w128 c.args.right.1 = search rules in
    let number : to_z w128 (of_z w128 c.in-Some.product) ≡ c.args.sign *ℤ (c.args.left.1 *ℤ c.args.right.1) =
    passed_product _ _ _ _ c.ranges.sign left right product c.in-Some.ensures.0 in (
      search rules,
      (
        search rules,
        (
          not_zero_is _ (ap is_zero number ∙ signed_nonzero _ _ _ c.requires.sign c.requires.first c.requires.second),
          subst T (sym (ap fits (to_z-of_z w128 _ product) ∙ c.in-Some.ensures.1)) tt,
        ),
      ),
    )

pub returns-in_default : goal.returns-in_default
returns-in_default g c =
    let left : SFits w128 c.args.left.1 = search rules in
    let right : SFits w128 c.args.right.1 = search rules in
    adds_too_large _ _ (sym (ap fits (passed _ _ _ c.ranges.sign left right)) ∙ c.in_default.ensures)

pub returns : goal.returns
returns g c =
    let product : SFits w128 c.in-Some.product = search rules in
    let left : SFits w128 c.args.left.1 = search rules in
    let right : SFits w128 c.args.right.1 = search rules in
    let number : to_z w128 (of_z w128 c.in-Some.product) ≡ c.args.sign *ℤ (c.args.left.1 *ℤ c.args.right.1) =
    passed_product _ _ _ _ c.ranges.sign left right product c.in-Some.ensures.0 in
    adds_this _ _ _ _ _ (λ j. (c.in-Ok.ensures j, number j))
    (adds_one _ _ _ c.add.result c.add.ensures.answer c.add.ensures.added
    (seen_unchanged g.row.D _ _ c.add.result c.add.ensures.unchanged))
