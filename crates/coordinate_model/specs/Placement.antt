-- Placements: an integer for every coordinate and parameter, and the values of polynomials there.
use Rattle.std.specs.Prelude.{ℕ, ℤ}
use Rattle.coordinate_model.specs.Ring.{Integers}
use Rattle.coordinate_model.specs.Brackets.{Point, Coords}
use Rattle.coordinate_model.specs.Polynomial.{Variable, coordinate, Polynomial, Polynomials}
use Rattle.coordinate_model.specs.Evaluation.{value_in}

-- an integer for every variable
abbrev pub Placement : Type 0
Placement = Variable → ℤ

-- the free point i at the placement
abbrev pub placed_point : Placement → ℕ → Point Integers
placed_point at i j = at (coordinate i j)

-- the value of a polynomial at the placement
abbrev pub value_at : Placement → Polynomial → ℤ
value_at at = value_in Integers at

-- the point at a placement
abbrev pub point_at : Placement → Point Polynomials → Point Integers
point_at at p = λ j. value_at at (p j)

-- the coordinates of an object at a placement
abbrev pub coords_at : Placement → Coords Polynomials → Coords Integers
coords_at at A = λ K. value_at at (A K)
