use Rattle.std.proofs.Common.{◌≡◌, ◌+◌, length}
use Rattle.std.specs.Prelude.{IsSorted}
use Rattle.coordinate_model.specs.Key.{row_cmp}
use Rattle.contraction.proofs.Differences.{differ}
use Rattle.contraction.proofs.rows.differ_in.Given as goal

abbrev pub invariant-loop-left : goal.invariant-loop-left
invariant-loop-left g l =
    (differ l.left l.right l.own l.more ≡ differ l.fn.rows l.fn.others l.fn.first l.fn.second)
    × (IsSorted row_cmp l.left × IsSorted row_cmp l.right)

abbrev pub decreases-loop-left : goal.decreases-loop-left
decreases-loop-left g l = length l.left + length l.right
