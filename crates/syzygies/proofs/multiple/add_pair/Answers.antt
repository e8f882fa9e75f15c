use Rattle.std.proofs.Common.{rules, ◌∷◌, [], ◌++◌, T, ap, sym, subst, ◌∙◌}
use mir.Syntax.{w8, w128}
use mir.Val.{SFits}
use Rattle.std.proofs.lemmas.Int.{to_z-of_z}
use Rattle.bracket_poly.specs.Tracked.{fits}
use Rattle.bracket_poly.proofs.Additions.{adds_one, adds_too_large, adds_this, seen_unchanged}
use Rattle.coordinate_model.specs.Key.{row_cmp}
use Rattle.coordinate_model.specs.Words.{ordered}
use Rattle.syzygies.proofs.AddLemmas.{passed, passed_product, not_zero_product, added_key}
use Rattle.syzygies.proofs.multiple.add_pair.Goals as goal

pub add-requires : goal.add-requires
add-requires g c =
    let multiplier : SFits w128 c.args.log_use.now.multiplier = search rules in
    let count : SFits w8 c.args.pair.now.sign_count = search rules in
    let product : SFits w128 c.in-Some.product = search rules in
    let number = passed_product _ _ _ multiplier count product c.in-Some.ensures.0 in (
      search rules,
      (
        search rules,
        (
          not_zero_product _ _ _ number c.args.log_use.now.formed.formed.not_zero c.args.pair.now.not_zero,
          subst T (sym (ap fits (to_z-of_z w128 _ product) ∙ c.in-Some.ensures.1)) tt,
        ),
      ),
    )

pub returns-in_default : goal.returns-in_default
returns-in_default g c =
    let multiplier : SFits w128 c.args.log_use.now.multiplier = search rules in
    let count : SFits w8 c.args.pair.now.sign_count = search rules in
    adds_too_large _ _ (sym (ap fits (passed _ _ multiplier count)) ∙ c.in_default.ensures)

pub returns : goal.returns
returns g c =
    let multiplier : SFits w128 c.args.log_use.now.multiplier = search rules in
    let count : SFits w8 c.args.pair.now.sign_count = search rules in
    let product : SFits w128 c.in-Some.product = search rules in
    let number = passed_product _ _ _ multiplier count product c.in-Some.ensures.0 in
    let key = added_key c.args.log_use.now.params c.args.log_use.now.rest c.args.pair.now.low c.args.pair.now.high
    c.in-Ok.tableau
    (c.in-Ok.ensures.rows
    ∙ ap (λ rows. ordered row_cmp (rows ++ c.args.pair.now.low ∷ c.args.pair.now.high ∷ [])) c.items.ensures) in
    adds_this _ _ _ _ _ (λ j. (key j, number j))
    (adds_one _ _ _ c.add.result c.add.ensures.answer c.add.ensures.added
    (seen_unchanged g.row.D _ _ c.add.result c.add.ensures.unchanged))
