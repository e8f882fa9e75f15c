-- Points as values of the code, and their six-point polynomial.
use Rattle.std.specs.Prelude.{◌≡◌, ℕ, List, [], ◌∷◌, map}
use Rattle.std.specs.List.{AllByRecursion}
use Rattle.coordinate_model.specs.Brackets.{Coords, six_point, join_bracket}
use Rattle.coordinate_model.specs.Polynomial.{Polynomial, Polynomials}
use Rattle.coordinate_model.specs.BracketPolynomial.{BracketPolynomial, value}
use Rattle.coordinate_model.specs.Value.{Value as Entries, coordinates}
use Rattle.bracket_terms.specs.declared.extensor.Extensor.{Extensor}
use Rattle.bracket_poly.specs.declared.value.Value.{Value}
use Rattle.bracket_poly.specs.Kept.{TrackedOf}
use Rattle.bracket_poly.specs.Products.{HasDegree}
use Rattle.bracket_poly.specs.Values.{value_of}

-- no exponent of the entry's polynomial passes 1,000
abbrev pub IsSmall : {d : ℕ} → Extensor × TrackedOf d → Type 0
IsSmall e = HasDegree 1000 e.1.tracked.sum

-- an entry of a point: its extensor has one point, and its exponents are small
pub record IsPointEntry {d : ℕ} (e : Extensor × TrackedOf d) : Type 0 where
  pub one : e.0.size ≡ 1
  pub small : IsSmall e

-- the value is a point, and its exponents are small
pub record IsPoint {d : ℕ} (v : Value d) : Type 0 where
  pub one : v.step ≡ 1
  pub small : AllByRecursion IsSmall v.entries

-- values of the code as values of the model
abbrev pub values_of : {d : ℕ} → List (Value d) → List Entries
values_of vs = map (λ v. value_of v.entries) vs

-- the six-point polynomial of the coordinates of six points
abbrev pub six_point_of : List (Coords Polynomials) → Polynomial
six_point_of (p1 ∷ p2 ∷ p3 ∷ p4 ∷ p5 ∷ p6 ∷ []) = six_point Polynomials (join_bracket Polynomials) p1 p2 p3 p4 p5 p6
six_point_of others = Polynomials.𝟘

-- the value of the polynomial is the six-point polynomial of the coordinates
abbrev pub IsSixPoint : List Entries → BracketPolynomial → Type 0
IsSixPoint six f = value f ≡ six_point_of (map coordinates six)
