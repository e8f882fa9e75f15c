use Rattle.std.proofs.Common.{◌≡◌, ◌++◌, List, ℕ, ap, subst, ◌∙◌}
use Rattle.std.specs.Prelude.{OnOk}
use Rattle.coordinate_model.specs.Key.{row_cmp}
use Rattle.coordinate_model.specs.Words.{place}
use Rattle.syzygies.proofs.PlacedRows.{with_two}
use Rattle.syzygies.proofs.row_buffer.fill.Goals as goal

pub returns : goal.returns
returns g c =
    let low : List ℕ = c.args.low.now in
    let high : List ℕ = c.args.high.now in
    let copied : c.extend_from_slice.new.self.items ≡ c.args.rows.now =
    c.in_ok-extend_from_slice.ensures.items ∙ ap (λ (w : List (List ℕ)). w ++ c.args.rows.now) c.clear.ensures.items in
    subst (λ (rows : List (List ℕ)). OnOk c.put_row-2.result (c.put_row-2.new.rows.items ≡ rows))
    (ap (place row_cmp low) (c.in_ok-put_row.ensures ∙ ap (place row_cmp high) copied)
    ∙ with_two c.args.rows.now low high c.requires)
    c.put_row-2.ensures
