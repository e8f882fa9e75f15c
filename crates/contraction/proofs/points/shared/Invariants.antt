use Rattle.std.proofs.Common.{◌≡◌, take, filter}
use Rattle.coordinate_model.specs.Sequences.{has}
use Rattle.contraction.proofs.points.shared.Given as goal

abbrev pub invariant-loop-point : goal.invariant-loop-point
invariant-loop-point l = l.points.items ≡ filter (has l.high) (take l.point-index l.low)
