use Rattle.std.proofs.Common.{◌≡◌, ◌++◌, ℕ, List, ap, ◌∙◌}
use Rattle.coordinate_model.specs.Key.{row_cmp}
use Rattle.coordinate_model.specs.Words.{ordered}
use Rattle.tableau_order.proofs.SortedRows.{sorted_rows}
use Rattle.tableau_order.proofs.tableau.merge.Goals as goal

pub returns-clause-rows : goal.returns-clause-rows
returns-clause-rows g c =
    let both : c.extend_from_slice-2.new.self.items ≡ c.args.a.now ++ c.args.b.now =
    c.in_ok-extend_from_slice-2.ensures.items
    ∙ ap (λ (w : List (List ℕ)). w ++ c.args.b.now)
    (c.in_ok-extend_from_slice.ensures.items
    ∙ ap (λ (w : List (List ℕ)). w ++ c.args.a.now) c.new-rows.ensures.items) in
    sorted_rows c.extend_from_slice-2.new.self.items c.sort.new.self.items
    c.in_ok-sort.ensures.permutation c.in_ok-sort.ensures.sorted
    ∙ ap (ordered row_cmp) both
