use Rattle.std.proofs.Common.{◌≡◌, IsTrue, Some, map, drop, pos, suc, take}
use Rattle.coordinate_model.specs.Limited.{Limited, is_limited}
use Rattle.coordinate_model.specs.InOrder.{product_behind}
use Rattle.coordinate_model.specs.PlacedPoints.{placed_within}
use Rattle.coordinate_model.proofs.determinant.product.Given as goal

abbrev pub invariant-loop-k : goal.invariant-loop-k
invariant-loop-k g l =
    (product_behind Limited (Some l.product) (drop l.k (map placed_within l.points))
    (drop l.k (map suc (take g.row.D l.order.columns)))
    ≡ product_behind Limited (Some (pos 1)) (map placed_within l.points) (map suc (take g.row.D l.order.columns))) ×
    IsTrue (is_limited l.product)
