-- Values: objects of the Grassmann-Cayley algebra as sums of bracket polynomials times extensors of free points, and
-- their coordinates (Sturmfels, Algorithms in Invariant Theory, section 3.3).
use Rattle.std.specs.Prelude.{◌≡◌, ℕ, ◌-◌, List, ◌++◌, map, flat_map, length}
use Rattle.std.specs.List.{AllByRecursion}
use Rattle.coordinate_model.specs.Sequences.{range, splits, at_places}
use Rattle.coordinate_model.specs.Brackets.{Coords, sum_over, signed, extensor}
use Rattle.coordinate_model.specs.Polynomial.{Polynomials, free_point}
use Rattle.coordinate_model.specs.BracketPolynomial.{KeySums, BracketPolynomial, mul, value}
use Rattle.coordinate_model.specs.Syzygy.{sorted_bracket}

-- a value, by its entries: each the points of an extensor and its bracket polynomial; a value of step 0 or d has at
-- most one entry, without points
abbrev pub Value : Type 0
Value = List (List ℕ × BracketPolynomial)

-- the coordinates of a value: the sum over its entries of the value of the polynomial times the coordinates of the
-- extensor, where the extensor of no points is 1
unfoldable pub coordinates : Value → Coords Polynomials
coordinates entries K =
    sum_over Polynomials (λ e. Polynomials.◌⊗◌ (value e.1) (extensor Polynomials (map free_point e.0) K)) entries

-- the meet in rank d of the extensors of us and vs, by their shuffle product: for each split of the places of us into
-- chosen ones and the rest, the extensor of the rest with sign(chosen, rest) * [chosen vs]
unfoldable pub meet_value : ℕ → List ℕ → List ℕ → Value
meet_value d us vs =
    map
    (λ t. (at_places us t.1, signed KeySums (t.0 ++ t.1) (sorted_bracket (at_places us t.0 ++ vs))))
    (splits (d - length vs) (range (length us)))

-- a value of step a, where a is neither 0 nor the rank: the extensor of each entry has a points
abbrev pub HasStep : ℕ → Value → Type 0
HasStep a entries = AllByRecursion (λ e. length e.0 ≡ a) entries

-- a value times a bracket polynomial
abbrev pub times_value : BracketPolynomial → Value → Value
times_value f entries = map (λ e. (e.0, mul f e.1)) entries

-- the value s * A + t * B, for bracket polynomials s and t, such as parameters
abbrev pub on_values : BracketPolynomial → BracketPolynomial → Value → Value → Value
on_values s t A B = times_value s A ++ times_value t B

-- the join of two values: for each two entries, the points of both and the product of the polynomials
unfoldable pub join_values : Value → Value → Value
join_values A B = flat_map (λ e. map (λ f. (e.0 ++ f.0, mul e.1 f.1)) B) A

-- the meet of two values in rank d: for each two entries, the meet of their extensors times the product of the
-- polynomials
unfoldable pub meet_values : ℕ → Value → Value → Value
meet_values d A B = flat_map (λ e. flat_map (λ f. times_value (mul e.1 f.1) (meet_value d e.0 f.0)) B) A
