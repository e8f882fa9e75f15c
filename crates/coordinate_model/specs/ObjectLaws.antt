-- The laws of extensors, joins and meets, as the contracts cite them (Sturmfels, Algorithms in Invariant Theory,
-- section 3.3).
use Rattle.std.specs.Prelude.{◌≡◌, ℕ, ◌+◌, ◌-◌, ◌≤◌, ◌<◌, List, [], ◌∷◌, ◌++◌, map, length, All, IsTrue}
use Rattle.coordinate_model.specs.Ring.{Ops}
use Rattle.coordinate_model.specs.Sequences.{IsRank, columns, subsets, repeats}
use Rattle.coordinate_model.specs.Brackets.{Point, Coords, signed, bracket, join, extensor, meet, shuffle, on}
use Rattle.coordinate_model.specs.Brackets.{of_point, join_bracket}
use Rattle.coordinate_model.specs.Polynomial.{Polynomials, free_point}
use Rattle.coordinate_model.specs.BracketPolynomial.{BracketPolynomial, value}
use Rattle.coordinate_model.specs.Syzygy.{sorted}
use Rattle.coordinate_model.specs.Value.{Value, HasStep, coordinates, meet_value, on_values, join_values}
use Rattle.coordinate_model.specs.Value.{meet_values}

-- the extensor of as many points as the rank has their bracket at all columns, in a ring
abbrev pub FullExtensor : Ops → Type 0
FullExtensor R =
    (ps : List (Point R)) → IsRank (length ps) → extensor R ps (columns (length ps)) ≡ bracket R ps

-- the bracket of three points, taken as objects of step 1, is their bracket
abbrev pub JoinBracketOfPoints : Ops → Type 0
JoinBracketOfPoints R =
    (p q r : Point R)
    → join_bracket R (of_point R p ∷ of_point R q ∷ of_point R r ∷ []) ≡ bracket R (p ∷ q ∷ r ∷ [])

-- the extensor of a sequence of free points is its sign times the extensor of the sorted sequence
abbrev pub SortedExtensor : Type 0
SortedExtensor =
    (d : ℕ) (ps : List ℕ) → IsRank d → length ps ≤ d → All (λ K. extensor Polynomials (map free_point ps) K
    ≡ signed Polynomials ps (extensor Polynomials (map free_point (sorted ps)) K)) (subsets d (length ps))

-- and it is zero where a point comes twice
abbrev pub ZeroExtensor : Type 0
ZeroExtensor =
    (d : ℕ) (ps : List ℕ) → IsRank d → length ps ≤ d → IsTrue (repeats ps)
    → All (λ K. extensor Polynomials (map free_point ps) K ≡ Polynomials.𝟘) (subsets d (length ps))

-- the sizes of two extensors that are joined in rank d
pub record AreJoined {P : Type 0} (d : ℕ) (us vs : List P) : Type 0 where
  pub rank : IsRank d
  pub first : 1 ≤ length us
  pub second : 1 ≤ length vs
  pub few : length us + length vs ≤ d

-- the join of two extensors is the extensor of the points of both, in a ring
abbrev pub JoinLaw : Ops → Type 0
JoinLaw R =
    (d : ℕ) (us vs : List (Point R)) → AreJoined d us vs
    → All (λ K. join R (length us) (extensor R us) (extensor R vs) K ≡ extensor R (us ++ vs) K)
    (subsets d (length us + length vs))

-- the sizes of two extensors that meet in rank d
pub record AreSteps {P : Type 0} (d : ℕ) (us vs : List P) : Type 0 where
  pub rank : IsRank d
  pub first : (1 ≤ length us) × (length us < d)
  pub second : (1 ≤ length vs) × (length vs < d)
  pub enough : d ≤ length us + length vs

-- where two extensors of rank d have their meet: the lists of columns of its step
abbrev pub meet_columns : {P : Type 0} → ℕ → List P → List P → List (List ℕ)
meet_columns d us vs = subsets d (length us + length vs - d)

-- the coordinates of the meet of two extensors
abbrev pub meet_of : (R : Ops) → ℕ → List (Point R) → List (Point R) → Coords R
meet_of R d us vs = meet R d (length us) (length vs) (extensor R us) (extensor R vs)

-- the shuffle sum has the coordinates of the meet, in a ring
abbrev pub ShuffleLaw : Ops → Type 0
ShuffleLaw R =
    (d : ℕ) (us vs : List (Point R)) → AreSteps d us vs
    → All (λ K. shuffle R d us vs K ≡ meet_of R d us vs K) (meet_columns d us vs)

-- the meet of two extensors of free points as a value has the coordinates of their meet
abbrev pub MeetValue : Type 0
MeetValue =
    (d : ℕ) (us vs : List ℕ) → AreSteps d us vs
    → All (λ K. coordinates (meet_value d us vs) K ≡ meet_of Polynomials d (map free_point us) (map free_point vs) K)
    (meet_columns d us vs)

-- the value s * A + t * B has the coordinates of that object
abbrev pub CombinationOfValues : Type 0
CombinationOfValues =
    (s t : BracketPolynomial) (A B : Value) (K : List ℕ)
    → coordinates (on_values s t A B) K ≡ on Polynomials (value s) (value t) (coordinates A) (coordinates B) K

-- the join of two values has the coordinates of their join
abbrev pub JoinOfValues : Type 0
JoinOfValues =
    (d a b : ℕ) (A B : Value) → IsRank d → (1 ≤ a) × (1 ≤ b) × (a + b ≤ d) → HasStep a A → HasStep b B
    → All (λ K. coordinates (join_values A B) K ≡ join Polynomials a (coordinates A) (coordinates B) K)
    (subsets d (a + b))

-- the meet of two values has the coordinates of their meet
abbrev pub MeetOfValues : Type 0
MeetOfValues =
    (d a b : ℕ) (A B : Value) → IsRank d → (1 ≤ a) × (a < d) × (1 ≤ b) × (b < d) × (d ≤ a + b)
    → HasStep a A → HasStep b B
    → All (λ K. coordinates (meet_values d A B) K ≡ meet Polynomials d a b (coordinates A) (coordinates B) K)
    (subsets d (a + b - d))

-- the sum of two objects
abbrev pub plus_coords : (R : Ops) → Coords R → Coords R → Coords R
plus_coords R A B K = R.◌⊕◌ (A K) (B K)

-- a multiple of an object
abbrev pub times_coords : (R : Ops) → R.carrier → Coords R → Coords R
times_coords R c A K = R.◌⊗◌ c (A K)

-- the map of two objects is linear in each
pub record IsBilinear (R : Ops) (f : Coords R → Coords R → Coords R) : Type 0 where
  pub left_sum : (A B C : Coords R) (K : List ℕ) → f (plus_coords R A B) C K ≡ R.◌⊕◌ (f A C K) (f B C K)
  pub left_multiple : (c : R.carrier) (A B : Coords R) (K : List ℕ) → f (times_coords R c A) B K ≡ R.◌⊗◌ c (f A B K)
  pub right_sum : (A B C : Coords R) (K : List ℕ) → f A (plus_coords R B C) K ≡ R.◌⊕◌ (f A B K) (f A C K)
  pub right_multiple : (c : R.carrier) (A B : Coords R) (K : List ℕ) → f A (times_coords R c B) K ≡ R.◌⊗◌ c (f A B K)

-- joins are bilinear, in a ring
abbrev pub LinearJoins : Ops → Type 0
LinearJoins R = (a : ℕ) → IsBilinear R (join R a)

-- meets are bilinear, in a ring
abbrev pub LinearMeets : Ops → Type 0
LinearMeets R = (d a b : ℕ) → IsBilinear R (meet R d a b)

-- two objects have the same coordinates at all sets of a columns in rank d
abbrev pub AgreeOn : (R : Ops) → ℕ → ℕ → Coords R → Coords R → Type 0
AgreeOn R d a A B = All (λ K. A K ≡ B K) (subsets d a)

-- the join of objects of steps a and b is told by their coordinates at the sets of a and of b columns
abbrev pub SameJoins : Ops → Type 0
SameJoins R =
    (d a b : ℕ) (A B C D : Coords R) → AgreeOn R d a A C → AgreeOn R d b B D
    → AgreeOn R d (a + b) (join R a A B) (join R a C D)

-- and so is the meet, at any columns
abbrev pub SameMeets : Ops → Type 0
SameMeets R =
    (d a b : ℕ) (A B C D : Coords R) (K : List ℕ) → AgreeOn R d a A C → AgreeOn R d b B D
    → meet R d a b A B K ≡ meet R d a b C D K
