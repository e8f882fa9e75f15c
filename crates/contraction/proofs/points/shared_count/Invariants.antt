use Rattle.std.proofs.Common.{◌≡◌, ◌≤◌, length, take, filter}
use Rattle.coordinate_model.specs.Sequences.{has}
use Rattle.contraction.proofs.points.shared_count.Given as goal

abbrev pub invariant-loop-point : goal.invariant-loop-point
invariant-loop-point l =
    (l.count ≡ length (filter (has l.high) (take l.point-index l.low))) × (l.count ≤ l.point-index)
