use Rattle.std.proofs.Common.{◌≡◌, take, filter, not}
use Rattle.coordinate_model.specs.Sequences.{has}
use Rattle.contraction.proofs.points.without.Given as goal

abbrev pub invariant-loop-point : goal.invariant-loop-point
invariant-loop-point l = l.points.items ≡ filter (λ x. not (has l.other x)) (take l.point-index l.row)
