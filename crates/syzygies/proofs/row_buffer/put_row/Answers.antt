use Rattle.std.proofs.Common.{◌<◌, List, ℕ, length, sym, ap, ◌∙◌, arith}
use Rattle.std.specs.Ordering.{is_gt}
use Rattle.coordinate_model.specs.Key.{row_cmp}
use Rattle.syzygies.proofs.PlacedRows.{place_on, place_before, place_last}
use Rattle.syzygies.proofs.row_buffer.put_row.Goals as goal
use Rattle.syzygies.proofs.row_buffer.put_row.Goals.{then-loop-at-test+else-is_gt, else-loop-at-test}

pub loop-at-preserved : goal.loop-at-preserved
loop-at-preserved g c =
    let row : List ℕ = c.args.row.now in
    let rows : List (List ℕ) = c.args.rows.now.items in
    let inside : c.loop-at.at < length rows =
    omega (arith, c.loop-at-test.true, c.len.ensures, c.args.rows.now.ok) in (
      omega arith,
      place_on row rows c.loop-at.at c.index.result.now inside
          (ap (λ x. is_gt (row_cmp row x)) (sym c.index.ensures) ∙ sym (c.is_gt.ensures ∙ ap is_gt c.cmp.ensures)
          ∙ c.if-is_gt.true)
          c.loop-at.invariant.1,
    )

pub returns : goal.returns
returns g c =
    let row : List ℕ = c.args.row.now in
    let rows : List (List ℕ) = c.args.rows.now.items in
    c.in_ok-insert.ensures.items ∙ elim c.loop-at-test.branch [
      | then-loop-at-test+else-is_gt w ↦
          let inside : c.loop-at.at < length rows =
          omega (arith, w.loop-at-test.true, c.len.ensures, c.args.rows.now.ok) in
          place_before row rows c.loop-at.at w.index.result.now inside
          (ap (λ x. is_gt (row_cmp row x)) (sym w.index.ensures) ∙ sym (w.is_gt.ensures ∙ ap is_gt w.cmp.ensures)
          ∙ w.if-is_gt.false)
          c.loop-at.invariant.1
      | else-loop-at-test w ↦
          place_last row rows c.loop-at.at (omega (arith, w.loop-at-test.false, c.len.ensures, c.args.rows.now.ok))
          c.loop-at.invariant.1
    ]
