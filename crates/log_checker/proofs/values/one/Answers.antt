use Rattle.std.proofs.Common.{◌≡◌, ◌∙◌, ap, ap₂, replicate, []}
use Rattle.std.specs.Prelude.{pos}
use Rattle.coordinate_model.specs.Key.{Key}
use Rattle.bracket_poly.specs.Tracked.{Tracked, plus_term}
use Rattle.log_checker.proofs.Ended.{one_added}
use Rattle.log_checker.proofs.values.one.Goals as goal

pub returns : goal.returns
returns g c =
    let key : ◌≡◌ {A = Key} (record { exponents = c.one.result; rows = c.in_ok-from_rows.field-0 })
    (record { exponents = replicate 64 0; rows = [] }) =
    λ j. record { exponents = c.one.ensures j; rows = c.in_ok-from_rows.ensures.rows j } in
    ap (λ (t : Tracked). t.sum) c.in-Ok.ensures.added
    ∙ ap₂ (λ (t : Tracked) (k : Key). (plus_term t (k, pos 1)).sum) c.new-one.ensures key ∙ one_added
