-- The laws of values at a placement, as the contracts cite them: the value of what is made from points and objects is
-- made, in the same way, from the values.
use Rattle.std.specs.Prelude.{◌≡◌, ℕ, pos, List, [], ◌∷◌, map}
use Rattle.coordinate_model.specs.Ring.{Integers}
use Rattle.coordinate_model.specs.Brackets.{bracket}
use Rattle.coordinate_model.specs.Polynomial.{Variable, Polynomials, monomial, br}
use Rattle.coordinate_model.specs.Placement.{Placement, placed_point, value_at}
use Rattle.coordinate_model.specs.HomLaws as Laws

-- the zero polynomial has the value 0
abbrev pub ValueOfZero : Placement → Type 0
ValueOfZero at = value_at at Polynomials.𝟘 ≡ pos 0

-- a variable has the integer of the placement as its value
abbrev pub ValueOfVariable : Placement → Type 0
ValueOfVariable at = (v : Variable) → value_at at (monomial (v ∷ [])) ≡ at v

-- a bracket of free points has the determinant of their integers as its value
abbrev pub ValueOfBracket : Placement → Type 0
ValueOfBracket at = (ps : List ℕ) → value_at at (br ps) ≡ bracket Integers (map (placed_point at) ps)

-- the value of a bracket of any points
abbrev pub KeepsBrackets : Placement → Type 0
KeepsBrackets at = Laws.KeepsBrackets Polynomials Integers (value_at at)

-- the value of an extensor, at each list of columns
abbrev pub KeepsExtensors : Placement → Type 0
KeepsExtensors at = Laws.KeepsExtensors Polynomials Integers (value_at at)

-- the value of a join
abbrev pub KeepsJoins : Placement → Type 0
KeepsJoins at = Laws.KeepsJoins Polynomials Integers (value_at at)

-- the value of a meet
abbrev pub KeepsMeets : Placement → Type 0
KeepsMeets at = Laws.KeepsMeets Polynomials Integers (value_at at)

-- the value of s * A + t * B
abbrev pub KeepsCombinations : Placement → Type 0
KeepsCombinations at = Laws.KeepsCombinations Polynomials Integers (value_at at)

-- the value of the six-point polynomial
abbrev pub KeepsSixPoint : Placement → Type 0
KeepsSixPoint at = Laws.KeepsSixPoint Polynomials Integers (value_at at)
