-- Points that are placed at integers.
use Rattle.std.specs.Prelude.{ℕ, suc, ◌-◌, ℤ, pos, Option, Some, List, map, slice_index_or}
use Rattle.coordinate_model.specs.Ring.{Integers}
use Rattle.coordinate_model.specs.Brackets.{Point}
use Rattle.coordinate_model.specs.Limited.{Limited}
use Rattle.coordinate_model.specs.InOrder.{product_behind}

-- the point with these coordinates, at the columns from 1 on
abbrev pub placed : List ℤ → Point Integers
placed p j = slice_index_or p (j - 1) (pos 0)

-- the same, to compute with within the limit
abbrev pub placed_within : List ℤ → Point Limited
placed_within p j = Some (slice_index_or p (j - 1) (pos 0))

-- the product of the coordinates of points, each at its column of a list, counted from 0
abbrev pub product_of : List (List ℤ) → List ℕ → Option ℤ
product_of points columns = product_behind Limited (Some (pos 1)) (map placed_within points) (map suc columns)
