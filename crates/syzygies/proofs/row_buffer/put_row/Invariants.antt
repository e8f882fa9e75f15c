use Rattle.std.proofs.Common.{◌≡◌, ◌≤◌, ◌-◌, ◌++◌, length, take, drop}
use Rattle.coordinate_model.specs.Key.{row_cmp}
use Rattle.coordinate_model.specs.Words.{place}
use Rattle.syzygies.proofs.row_buffer.put_row.Given as goal

abbrev pub invariant-loop-at : goal.invariant-loop-at
invariant-loop-at g l =
    (l.at ≤ length l.rows.items)
    × (place row_cmp l.row l.rows.items ≡ take l.at l.rows.items ++ place row_cmp l.row (drop l.at l.rows.items))

abbrev pub decreases-loop-at : goal.decreases-loop-at
decreases-loop-at g l = length l.rows.items - l.at
