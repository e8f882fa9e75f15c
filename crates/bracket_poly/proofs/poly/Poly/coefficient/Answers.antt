use Rattle.std.proofs.Common.{pos, ◌∙◌, ap}
use mir.Syntax.{w128}
use Rattle.std.specs.Prelude.{unwrap_or}
use Rattle.std.proofs.lemmas.Int.{to_z-of_z}
use Rattle.coordinate_model.specs.Sums.{coefficient}
use Rattle.coordinate_model.specs.Key.{key_cmp}
use Rattle.coordinate_model.proofs.Bools.{first}
use Rattle.coordinate_model.proofs.KeyProducts.{key_total, key_same}
use Rattle.bracket_poly.specs.Kept.{TrackedOf}
use Rattle.bracket_poly.proofs.EntryLaws.{unwrap_or-lookup}
use Rattle.bracket_poly.proofs.poly.Poly.coefficient.Goals as goal

pub returns : goal.returns
returns g c =
    let e = unwrap_or-lookup key_cmp key_total key_same c.args.key.now c.self.inside.terms.entries
    (first _ _ c.self.inside.kept.canonical) in
    to_z-of_z w128 _ (record { sfits = c.unwrap_or.type_inv }) ∙ c.unwrap_or.ensures
    ∙ ap (λ o. unwrap_or o (pos 0)) (c.copied.ensures ∙ c.get.ensures.value) ∙ e
    ∙ ap (λ (p : TrackedOf g.row.D). coefficient p.tracked.sum c.args.key.now) c.self.view_is
