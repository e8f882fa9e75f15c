use Rattle.std.proofs.Common.{ap, ap₂, ◌∙◌, ◌++◌, ℕ, List, ℤ}
use mir.Syntax.{w128}
use Rattle.std.proofs.lemmas.Int.{to_z-of_z}
use Rattle.coordinate_model.specs.Key.{Key, row_cmp}
use Rattle.coordinate_model.specs.Words.{ordered}
use Rattle.bracket_poly.proofs.Additions.{adds_one, adds_this, seen_unchanged}
use Rattle.degeneracy_report.specs.Joined.{with_row}
use Rattle.degeneracy_report.proofs.start.add_with_row.Goals as goal

pub returns : goal.returns
returns g c =
    adds_this _ _ _ _ _
    (ap₂ (λ (rows : List (List ℕ)) (z : ℤ). (record { exponents = c.key.inside.params; rows = rows }, z))
    (c.in-Ok.ensures.rows
    ∙ ap₂ (λ (xs ys : List (List ℕ)). ordered row_cmp (xs ++ ys)) c.rows.ensures.rows c.from_ref.ensures.value)
    (to_z-of_z w128 c.args.c c.ranges.c)
    ∙ ap (λ (k : Key). (with_row c.args.row.now k, c.args.c)) c.key.view_is)
    (adds_one _ _ _ c.add.result c.add.ensures.answer c.add.ensures.added
    (seen_unchanged g.row.D _ _ c.add.result c.add.ensures.unchanged))
