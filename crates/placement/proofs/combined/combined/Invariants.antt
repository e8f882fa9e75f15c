use Rattle.std.proofs.Common.{◌≡◌, Some, map, take}
use Rattle.placement.specs.Numbers.{total_of}
use Rattle.placement.proofs.combined.combined.Given as goal

abbrev pub invariant-loop-row : goal.invariant-loop-row
invariant-loop-row l =
    map (λ z. Some z) l.made.items ≡ map (λ row. total_of l.a l.b row.now) (take l.row-index l.rows)
