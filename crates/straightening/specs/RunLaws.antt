-- The laws of turns and runs, as the contracts cite them (Sturmfels, Algorithms in Invariant Theory, section 3.1).
use Rattle.std.specs.Prelude.{◌≡◌, ◌↔◌, ℕ, pos, List, ◌++◌, Some, None}
use Rattle.std.specs.declared.cmp.Ordering.TheVariants.{Less}
use Rattle.std.specs.List.{AllByRecursion}
use Rattle.coordinate_model.specs.Sequences.{IsRank}
use Rattle.coordinate_model.specs.Sums.{coefficient}
use Rattle.coordinate_model.specs.Key.{Key, key_cmp, IsStandardKey, points, HasPoints}
use Rattle.coordinate_model.specs.BracketPolynomial.{BracketPolynomial, IsBracketPolynomial, IsNormal, AllKeys, add, value}
use Rattle.coordinate_model.specs.Syzygy.{Use, multiple, additions}
use Rattle.tableau_order.specs.Standard.{IsFirstViolation}
use Rattle.bracket_poly.specs.Tracked.{Tracked, plus_terms}
use Rattle.straightening.specs.Turns.{turn, use_at}
use Rattle.straightening.specs.Runs.{Run, run, ended}

-- there is a turn exactly where a polynomial is not normal
abbrev pub TurnsWhereNotNormal : Type 0
TurnsWhereNotNormal =
    (d n : ℕ) (f : BracketPolynomial) → IsRank d → IsBracketPolynomial d n f → ((turn f ≡ None) ↔ IsNormal d n f)

-- the key has a term in the polynomial
abbrev pub HasTerm : BracketPolynomial → Key → Type 0
HasTerm f k = (coefficient f k ≡ pos 0) → ⊥

-- the use takes the term away that has the greatest key that is not standard, at the first place where its rows fall
pub record IsTurn (d n : ℕ) (f : BracketPolynomial) (u : Use) : Type 0 where
  pub key : Key
  pub there : HasTerm f key
  pub not_standard : IsStandardKey d n key → ⊥
  pub above : (k : Key) → key_cmp key k ≡ Less → HasTerm f k → IsStandardKey d n k
  pub row : ℕ
  pub column : ℕ
  pub violation : IsFirstViolation d key.rows row column
  pub used : u ≡ use_at (key, coefficient f key) (row, column)

abbrev pub TurnIsAtGreatest : Type 0
TurnIsAtGreatest =
    (d n : ℕ) (f : BracketPolynomial) (u : Use) → IsRank d → IsBracketPolynomial d n f
    → ((turn f ≡ Some u) ↔ IsTurn d n f u)

-- behind it the key has no term, and else only smaller ones have changed
pub record RewritesGreatest (d n : ℕ) (f : BracketPolynomial) (u : Use) : Type 0 where
  pub at : IsTurn d n f u
  pub gone : coefficient (add f (multiple u)) at.key ≡ pos 0
  pub unchanged : (k : Key) → key_cmp at.key k ≡ Less → coefficient (add f (multiple u)) k ≡ coefficient f k

abbrev pub TurnRewritesGreatest : Type 0
TurnRewritesGreatest =
    (d n : ℕ) (f : BracketPolynomial) (u : Use) → IsRank d → IsBracketPolynomial d n f → turn f ≡ Some u
    → RewritesGreatest d n f u

-- a run keeps the value
abbrev pub RunKeepsValue : Type 0
RunKeepsValue =
    (d n budget : ℕ) (p : Tracked) → IsRank d → IsBracketPolynomial d n p.sum
    → value (run budget p).last.sum ≡ value p.sum

-- and what it leaves is a bracket polynomial, which is normal where nothing stopped it
pub record EndsWell (d n : ℕ) (r : Run) : Type 0 where
  pub keys : IsBracketPolynomial d n r.last.sum
  pub normal : r.stop ≡ None → IsNormal d n r.last.sum

abbrev pub RunEndsWell : Type 0
RunEndsWell =
    (d n budget : ℕ) (p : Tracked) → IsRank d → IsBracketPolynomial d n p.sum → EndsWell d n (run budget p)

-- a key of the polynomial has these exponents and these points, each as often
pub record HasLike (f : BracketPolynomial) (exponents ps : List ℕ) : Type 0 where
  pub key : Key
  pub there : HasTerm f key
  pub parameters : key.exponents ≡ exponents
  pub same_points : HasPoints ps key

-- the points of a use
abbrev pub use_points : Use → List ℕ
use_points u = points u.rest ++ (u.alpha ++ (u.beta ++ u.gamma))

-- each key that a run leaves, and each of its uses, has the parameters and the points of a key that it began with
pub record KeepsClasses (p : Tracked) (r : Run) : Type 0 where
  pub keys : AllKeys (λ k. HasLike p.sum k.exponents (points k.rows)) r.last.sum
  pub uses : AllByRecursion (λ u. HasLike p.sum u.exponents (use_points u)) r.uses

abbrev pub RunKeepsClasses : Type 0
RunKeepsClasses =
    (d n budget : ℕ) (p : Tracked) → IsRank d → IsBracketPolynomial d n p.sum → KeepsClasses p (run budget p)

-- on a normal polynomial there is no turn
abbrev pub NoTurnOfNormal : Type 0
NoTurnOfNormal = (d n budget : ℕ) (p : Tracked) → IsRank d → IsNormal d n p.sum → run budget p ≡ ended p None
