-- Joins, meets and combinations of two values of the code.
use Rattle.std.specs.Prelude.{◌≡◌, ℕ, ◌+◌, ◌-◌, ◌≤◌, ◌<◌, ◌==◌, max, if◌then◌else◌, List, [], ◌∷◌, All, flat_map, length}
use Rattle.std.specs.List.{AllByRecursion}
use Rattle.coordinate_model.specs.Sequences.{range, splits, subsets}
use Rattle.coordinate_model.specs.Brackets.{join, meet, on}
use Rattle.coordinate_model.specs.Polynomial.{Polynomials, parameter, monomial}
use Rattle.coordinate_model.specs.BracketPolynomial.{parameter_of}
use Rattle.coordinate_model.specs.Value.{coordinates}
use Rattle.coordinate_model.specs.Starts.{Product, Entry, join_products, meet_product, meet_products, on_products}
use Rattle.bracket_terms.specs.declared.extensor.Extensor.{Extensor}
use Rattle.bracket_poly.specs.declared.value.Value.{Value}
use Rattle.bracket_poly.specs.Kept.{TrackedOf}
use Rattle.bracket_poly.specs.Products.{ExponentsFit}
use Rattle.bracket_poly.specs.Values.{value_of}
use Rattle.shuffle_meet.specs.Sizes.{IsWithin, MetWithin}

-- the steps of two values that are joined in rank d
pub record AreJoined (d a b : ℕ) : Type 0 where
  pub first : 1 ≤ a
  pub second : 1 ≤ b
  pub first_below : a < d
  pub second_below : b < d
  pub few : a + b ≤ d

-- the steps of two values that meet in rank d
pub record AreMet (d a b : ℕ) : Type 0 where
  pub first : 1 ≤ a
  pub second : 1 ≤ b
  pub first_below : a < d
  pub second_below : b < d
  pub many : d ≤ a + b

-- the steps of two values that are combined: those of points
pub record AreMixed (a b : ℕ) : Type 0 where
  pub first : a ≡ 1
  pub second : b ≡ 1

-- the products that the meet of two entries adds in rank d, one for each split of the first one's places
abbrev pub meets_with : ℕ → Entry → Entry → List Product
meets_with d e f = flat_map (meet_product e f) (splits (d - length f.0) (range (length e.0)))

module _ {d : ℕ} where
  -- no exponent of a product of two terms of the entries' polynomials passes 65,535
  abbrev pub PairFits : Extensor × TrackedOf d → Extensor × TrackedOf d → Type 0
  PairFits e f = ExponentsFit e.1.tracked.sum f.1.tracked.sum

  -- no exponent of a product of two terms passes 65,535
  abbrev pub ProductsFit : Value d → Value d → Type 0
  ProductsFit a b =
      AllByRecursion (λ e. AllByRecursion (λ f. ExponentsFit e.1 f.1) (value_of b.entries)) (value_of a.entries)

  -- no exponent of a product of a term and the parameter passes 65,535
  abbrev pub ParameterFits : ℕ → Value d → Type 0
  ParameterFits s a = AllByRecursion (λ e. ExponentsFit e.1 (parameter_of 64 s)) (value_of a.entries)

  -- the products that the join adds, in order
  abbrev pub joined : Value d → Value d → List Product
  joined a b = join_products d (value_of a.entries) (value_of b.entries)

  -- the products that the meet adds, in order
  abbrev pub met : Value d → Value d → List Product
  met a b = meet_products d (value_of a.entries) (value_of b.entries)

  -- the products that s * a + t * b adds, in order, for the parameters s and t
  abbrev pub mixed : ℕ → ℕ → Value d → Value d → List Product
  mixed s t a b = on_products (parameter_of 64 s) (parameter_of 64 t) (value_of a.entries) (value_of b.entries)

  -- c has the coordinates of the join
  abbrev pub IsJoin : Value d → Value d → Value d → Type 0
  IsJoin a b c =
      All
      (λ K. coordinates (value_of c.entries) K
      ≡ join Polynomials a.step (coordinates (value_of a.entries)) (coordinates (value_of b.entries)) K)
      (subsets d (a.step + b.step))

  -- c has the coordinates of the meet
  abbrev pub IsMeet : Value d → Value d → Value d → Type 0
  IsMeet a b c =
      All
      (λ K. coordinates (value_of c.entries) K
      ≡ meet Polynomials d a.step b.step (coordinates (value_of a.entries)) (coordinates (value_of b.entries)) K)
      (subsets d (a.step + b.step - d))

  -- c has the coordinates of the point s * a + t * b, for the parameters s and t
  abbrev pub IsMixed : ℕ → ℕ → Value d → Value d → Value d → Type 0
  IsMixed s t a b c =
      All
      (λ K. coordinates (value_of c.entries) K
      ≡ on Polynomials (monomial (parameter s ∷ [])) (monomial (parameter t ∷ [])) (coordinates (value_of a.entries))
      (coordinates (value_of b.entries)) K)
      (subsets d 1)

  -- c has the points and parameters of a and b, as many rows as both and so many more, and the degree of both
  abbrev pub AddsSizes : ℕ → Value d → Value d → Value d → Type 0
  AddsSizes more a b c =
      (points parameters first_rows first_degree second_rows second_degree : ℕ)
      → IsWithin points parameters first_rows first_degree a.entries
      → IsWithin points parameters second_rows second_degree b.entries
      → IsWithin points parameters (first_rows + second_rows + more) (first_degree + second_degree) c.entries
      × MetWithin points parameters (first_rows + second_rows + more) (first_degree + second_degree) c.entries

  -- c has the points of a and b, their parameters with s and t, the rows of the one with more, and one degree more
  abbrev pub MixesSizes : ℕ → ℕ → Value d → Value d → Value d → Type 0
  MixesSizes s t a b c =
      (points parameters first_rows first_degree second_rows second_degree : ℕ) → s < parameters → t < parameters
      → IsWithin points parameters first_rows first_degree a.entries
      → IsWithin points parameters second_rows second_degree b.entries
      → IsWithin points parameters (max first_rows second_rows) (max first_degree second_degree + 1) c.entries
      × MetWithin points parameters (max first_rows second_rows) (max first_degree second_degree + 1) c.entries

  -- how many rows more the join has: one, where it has step d
  abbrev pub rows_of_join : Value d → Value d → ℕ
  rows_of_join a b = if a.step + b.step == d then 1 else 0
