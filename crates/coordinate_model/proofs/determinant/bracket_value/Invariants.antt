use Rattle.std.proofs.Common.{◌≡◌, Some, drop, pos}
use Rattle.coordinate_model.specs.Sequences.{columns}
use Rattle.coordinate_model.specs.InOrder.{orders}
use Rattle.coordinate_model.proofs.BracketSteps.{rest}
use Rattle.coordinate_model.proofs.determinant.bracket_value.Given as goal

abbrev pub invariant-loop-order : goal.invariant-loop-order
invariant-loop-order g l =
    rest l.points (Some l.sum) (drop l.order-index (orders (columns g.row.D)))
    ≡ rest l.points (Some (pos 0)) (orders (columns g.row.D))
