use Rattle.std.proofs.Common.{◌≡◌, ◌+◌, ◌++◌, length}
use Rattle.std.specs.Prelude.{IsSorted}
use Rattle.coordinate_model.specs.Key.{row_cmp}
use Rattle.contraction.specs.Passes.{own_rows}
use Rattle.contraction.proofs.rows.own_rows.Given as goal

abbrev pub invariant-loop-left : goal.invariant-loop-left
invariant-loop-left g l =
    (l.own.items ++ own_rows l.left l.right ≡ own_rows l.fn.rows l.fn.others)
    × (IsSorted row_cmp l.left × IsSorted row_cmp l.right)

abbrev pub decreases-loop-left : goal.decreases-loop-left
decreases-loop-left g l = length l.left + length l.right
