-- The laws of starts, of parameters and of the terms that a multiple adds, as the contracts cite them (Sturmfels,
-- Algorithms in Invariant Theory, sections 3.1 and 3.3).
use Rattle.std.specs.Prelude.{◌≡◌, ℕ, ◌+◌, ◌-◌, ◌≤◌, ◌<◌, List, [], ◌∷◌, filter, All}
use Rattle.coordinate_model.specs.Sequences.{IsRank, subsets}
use Rattle.coordinate_model.specs.Brackets.{join, meet, on}
use Rattle.coordinate_model.specs.Sums.{sum_of}
use Rattle.coordinate_model.specs.Polynomial.{Polynomials, parameter, monomial}
use Rattle.coordinate_model.specs.Key.{key_cmp}
use Rattle.coordinate_model.specs.BracketPolynomial.{BracketPolynomial, value, parameter_of}
use Rattle.coordinate_model.specs.Syzygy.{Use, multiple, additions}
use Rattle.coordinate_model.specs.Value.{Value, HasStep, coordinates}
use Rattle.coordinate_model.specs.Starts.{join_products, meet_products, on_products, starts, has_term}

-- the starts of a join have the coordinates of the join
abbrev pub StartsOfJoin : Type 0
StartsOfJoin =
    (d a b : ℕ) (A B : Value) → IsRank d → (1 ≤ a) × (1 ≤ b) × (a + b ≤ d) → HasStep a A → HasStep b B
    → All (λ K. coordinates (starts (join_products d A B)) K ≡ join Polynomials a (coordinates A) (coordinates B) K)
    (subsets d (a + b))

-- the starts of a meet have the coordinates of the meet
abbrev pub StartsOfMeet : Type 0
StartsOfMeet =
    (d a b : ℕ) (A B : Value) → IsRank d → (1 ≤ a) × (a < d) × (1 ≤ b) × (b < d) × (d ≤ a + b)
    → HasStep a A → HasStep b B
    → All (λ K. coordinates (starts (meet_products d A B)) K ≡ meet Polynomials d a b (coordinates A) (coordinates B) K)
    (subsets d (a + b - d))

-- the starts of s * A + t * B have its coordinates
abbrev pub StartsOfOn : Type 0
StartsOfOn =
    (s t : BracketPolynomial) (A B : Value) (K : List ℕ)
    → coordinates (starts (on_products s t A B)) K ≡ on Polynomials (value s) (value t) (coordinates A) (coordinates B) K

-- the value of a parameter is its variable
abbrev pub ValueOfParameter : Type 0
ValueOfParameter = (n i : ℕ) → i < n → value (parameter_of n i) ≡ monomial (parameter i ∷ [])

-- entries without a term add nothing to the coordinates
abbrev pub ZeroEntries : Type 0
ZeroEntries = (A : Value) (K : List ℕ) → coordinates (filter has_term A) K ≡ coordinates A K

-- the terms that a use adds are its multiple
abbrev pub AdditionsOfMultiple : Type 0
AdditionsOfMultiple = (u : Use) → sum_of key_cmp (additions u) ≡ multiple u
