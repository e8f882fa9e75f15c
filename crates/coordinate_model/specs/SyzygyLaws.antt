-- The laws of brackets and of van der Waerden syzygies, as the contracts cite them (Sturmfels, Algorithms in Invariant
-- Theory, section 3.1).
use Rattle.std.specs.Prelude.{◌≡◌, ◌≢◌, ◌↔◌, ℕ, ◌+◌, List, [], ◌++◌, length, IsTrue}
use Rattle.std.specs.List.Sorted.{IsStrictlyIncreasing}
use Rattle.coordinate_model.specs.Ring.{Ops}
use Rattle.coordinate_model.specs.Sequences.{IsRank, repeats}
use Rattle.coordinate_model.specs.Brackets.{Point, signed, bracket, syzygy, three_term}
use Rattle.coordinate_model.specs.Polynomial.{Polynomials, br}
use Rattle.coordinate_model.specs.Key.{points, HasPoints}
use Rattle.coordinate_model.specs.BracketPolynomial.{AllKeys, value}
use Rattle.coordinate_model.specs.Syzygy.{sorted, sorted_bracket, syz, AreSizes, Use, IsUse, multiple}

-- the bracket of a sequence is its sign times the bracket of the sorted sequence
abbrev pub SortedBracket : Type 0
SortedBracket = (ps : List ℕ) → IsRank (length ps) → br ps ≡ signed Polynomials ps (br (sorted ps))

-- the bracket of a sequence is zero exactly where a point comes twice
abbrev pub ZeroBracket : Type 0
ZeroBracket = (ps : List ℕ) → IsRank (length ps) → ((br ps ≡ Polynomials.𝟘) ↔ IsTrue (repeats ps))

-- the bracket of points that strictly increase is not zero
abbrev pub NonzeroBracket : Type 0
NonzeroBracket = (ps : List ℕ) → IsRank (length ps) → IsStrictlyIncreasing ps → br ps ≢ Polynomials.𝟘

-- the value of a sorted bracket is the bracket
abbrev pub ValueOfSorted : Type 0
ValueOfSorted = (ps : List ℕ) → IsRank (length ps) → value (sorted_bracket ps) ≡ br ps

-- the van der Waerden sum of points is zero, in a ring
abbrev pub SyzygyLaw : Ops → Type 0
SyzygyLaw R = (d : ℕ) (α β γ : List (Point R)) → AreSizes d α β γ → syzygy R (bracket R) α β γ ≡ R.𝟘

-- and for free points, which may repeat
abbrev pub SyzygyOfFreePoints : Type 0
SyzygyOfFreePoints = (d : ℕ) (α β γ : List ℕ) → AreSizes d α β γ → syzygy Polynomials br α β γ ≡ Polynomials.𝟘

-- the three-term identity of Grassmann and Pluecker, for d - 2 points S and four more, in a ring
abbrev pub ThreeTerms : Ops → Type 0
ThreeTerms R =
    (S : List (Point R)) (a b c e : Point R) → IsRank (length S + 2) → three_term R (bracket R) S a b c e ≡ R.𝟘

-- and for free points, which may repeat
abbrev pub ThreeTermsOfFreePoints : Type 0
ThreeTermsOfFreePoints =
    (S : List ℕ) (a b c e : ℕ) → IsRank (length S + 2) → three_term Polynomials br S a b c e ≡ Polynomials.𝟘

-- the value of a collected syzygy is zero
abbrev pub ValueOfSyzygy : Type 0
ValueOfSyzygy = (d : ℕ) (α β γ : List ℕ) → AreSizes d α β γ → value (syz α β γ) ≡ Polynomials.𝟘

-- and the value of each multiple of one is zero
abbrev pub ValueOfMultiple : Type 0
ValueOfMultiple = (d : ℕ) (u : Use) → IsRank d → IsUse d u → value (multiple u) ≡ Polynomials.𝟘

-- each key of a syzygy has no parameter, and the points of α, β and γ: the syzygy is homogeneous in each point
abbrev pub PointsOfSyzygy : Type 0
PointsOfSyzygy =
    (α β γ : List ℕ) → AllKeys (λ k. (k.exponents ≡ []) × HasPoints (α ++ (β ++ γ)) k) (syz α β γ)

-- and each key of a multiple has the parameters of the use, the points of its syzygy and those of its rest rows
abbrev pub PointsOfMultiple : Type 0
PointsOfMultiple =
    (u : Use)
    → AllKeys (λ k. (k.exponents ≡ u.exponents) × HasPoints (points u.rest ++ (u.alpha ++ (u.beta ++ u.gamma))) k)
    (multiple u)
