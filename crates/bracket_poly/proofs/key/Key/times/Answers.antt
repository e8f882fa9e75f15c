use Rattle.std.proofs.Common.{ap, ◌∙◌, ◌≡◌, List, ℕ, ◌++◌}
use Rattle.std.specs.Option.{option_copied}
use Rattle.coordinate_model.specs.Key.{Key, row_cmp, add_exponents}
use Rattle.coordinate_model.specs.Starts.{row_key}
use Rattle.coordinate_model.specs.Words.{ordered}
use Rattle.bracket_poly.proofs.KeyParts.{times_rows}
use Rattle.bracket_poly.proofs.key.Key.times.Goals as goal

pub returns : goal.returns
returns g c =
    let left : List (List ℕ) = c.args.self.now.rows in
    let right : List (List ℕ) = c.args.other.now.rows in
    let seen : c.self.inside.tableau ≡ left = ap (λ (k : Key). k.rows) c.self.view_is in
    let other : c.other.inside.tableau ≡ right = ap (λ (k : Key). k.rows) c.other.view_is in
    let both : c.in_ok-both.both ≡ ordered row_cmp (left ++ right) =
    c.in_ok-both.ensures.rows ∙ ap (λ rows. ordered row_cmp (rows ++ c.rows-2.result.now)) (c.rows.ensures.rows ∙ seen)
    ∙ ap (λ rows. ordered row_cmp (left ++ rows)) (c.rows-2.ensures.rows ∙ other) in
    let params : c.times-params.result ≡ add_exponents c.args.self.now.exponents c.args.other.now.exponents =
    c.times-params.ensures.sums ∙ ap (λ es. add_exponents es c.other.inside.params) (ap (λ (k : Key). k.exponents) c.self.view_is)
    ∙ ap (λ es. add_exponents c.args.self.now.exponents es) (ap (λ (k : Key). k.exponents) c.other.view_is) in
    times_rows _ _ c.args.self.now c.args.other.now (option_copied c.args.row) params
    (c.in_ok-tableau.ensures ∙ ap (λ rows. ordered row_cmp (rows ++ (row_key (option_copied c.args.row)).rows)) both)
