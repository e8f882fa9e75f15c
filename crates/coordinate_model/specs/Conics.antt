-- The six-point polynomial of points that are values, as a bracket polynomial (Sturmfels, Algorithms in Invariant Theory,
-- sections 3.1 and 3.3).
use Rattle.std.specs.Prelude.{◌≡◌, List, [], ◌∷◌, ◌++◌}
use Rattle.std.specs.List.{AllByRecursion}
use Rattle.coordinate_model.specs.Brackets.{sum_over, six_point, join_bracket}
use Rattle.coordinate_model.specs.Polynomial.{Polynomials}
use Rattle.coordinate_model.specs.BracketPolynomial.{KeySums, BracketPolynomial, mul, value}
use Rattle.coordinate_model.specs.Syzygy.{sorted_bracket}
use Rattle.coordinate_model.specs.Value.{Value, HasStep, coordinates}
use Rattle.coordinate_model.specs.Starts.{Entry}

-- the product of the polynomials of three entries and of the bracket of their points
abbrev pub bracket_of_entries : Entry → Entry → Entry → BracketPolynomial
bracket_of_entries a b c = mul (mul (mul a.1 b.1) c.1) (sorted_bracket (a.0 ++ b.0 ++ c.0))

-- the bracket of three points: the sum over the entries of each
unfoldable pub bracket_of_values : Value → Value → Value → BracketPolynomial
bracket_of_values A B C =
    sum_over KeySums (λ a. sum_over KeySums (λ b. sum_over KeySums (bracket_of_entries a b) C) B) A

-- so it is for the list of the three
abbrev pub value_bracket : List Value → BracketPolynomial
value_bracket (A ∷ B ∷ C ∷ []) = bracket_of_values A B C
value_bracket others = KeySums.𝟘

-- the six-point polynomial of six points
unfoldable pub conic_value : (p1 p2 p3 p4 p5 p6 : Value) → BracketPolynomial
conic_value = six_point KeySums value_bracket

-- the value of the bracket of three points is the bracket of their coordinates
abbrev pub BracketOfValues : Type 0
BracketOfValues =
    (A B C : Value) → HasStep 1 A → HasStep 1 B → HasStep 1 C
    → value (bracket_of_values A B C)
    ≡ join_bracket Polynomials (coordinates A ∷ coordinates B ∷ coordinates C ∷ [])

-- and so it is for the six-point polynomial
abbrev pub ConicOfValues : Type 0
ConicOfValues =
    (p1 p2 p3 p4 p5 p6 : Value) → AllByRecursion (HasStep 1) (p1 ∷ p2 ∷ p3 ∷ p4 ∷ p5 ∷ p6 ∷ [])
    → value (conic_value p1 p2 p3 p4 p5 p6)
    ≡ six_point Polynomials (join_bracket Polynomials) (coordinates p1) (coordinates p2) (coordinates p3) (coordinates p4)
    (coordinates p5) (coordinates p6)
