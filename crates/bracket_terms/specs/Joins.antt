-- Joins of extensors of free points, with their signs and coordinates.
use Rattle.std.specs.Prelude.{◌≡◌, ℕ, ◌+◌, Bool, Option, Some, None, ℤ, pos, negsuc, List, map, take}
use Rattle.std.specs.Prelude.{length, All}
use Rattle.std.specs.List.{list_any}
use Rattle.coordinate_model.specs.Sequences.{has, sign_of, subsets}
use Rattle.coordinate_model.specs.Brackets.{Coords, extensor, join}
use Rattle.coordinate_model.specs.Polynomial.{Polynomial, Polynomials, free_point}
use Rattle.coordinate_model.specs.Syzygy.{sorted}
use Rattle.bracket_terms.specs.declared.extensor.Extensor.{Extensor}

-- the points of an extensor
abbrev pub points_of : Extensor → List ℕ
points_of a = take a.size a.points

-- the coordinates of an extensor: those of the join of its points from the left
abbrev pub coordinates_of : Extensor → Coords Polynomials
coordinates_of a = extensor Polynomials (map free_point (points_of a))

-- whether some point stands in both lists
abbrev pub share_point : List ℕ → List ℕ → Bool
share_point us vs = list_any (has vs) us

-- the extensor has the points of the sequence in ascending order, and the sign is that of the sequence
pub record IsSignedUnion (points : List ℕ) (union : Extensor) (sign : ℤ) : Type 0 where
  pub count : union.size ≡ length points
  pub ascending : points_of union ≡ sorted points
  pub by_order : sign ≡ sign_of points

-- a polynomial times a sign
abbrev pub by_sign : ℤ → Polynomial → Polynomial
by_sign (pos n) f = f
by_sign (negsuc n) f = Polynomials.neg f

-- the coordinates of an extensor with its sign, or zero
abbrev pub signed_coordinates : Option (Extensor × ℤ) → Coords Polynomials
signed_coordinates None K = Polynomials.𝟘
signed_coordinates (Some joined) K = by_sign joined.1 (coordinates_of joined.0 K)

-- in rank d these are the coordinates of the join of the two extensors
abbrev pub HasCoordinates : ℕ → Extensor → Extensor → Option (Extensor × ℤ) → Type 0
HasCoordinates d a b joined =
    All (λ K. signed_coordinates joined K ≡ join Polynomials a.size (coordinates_of a) (coordinates_of b) K)
    (subsets d (a.size + b.size))
