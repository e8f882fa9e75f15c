-- The laws of passes, as the contracts cite them.
use Rattle.std.specs.Prelude.{◌≡◌, ◌⊎◌, ⊤, ◌<◌, ◌≤◌, ℕ, ◌+◌, pos, negsuc, List, [], ◌∷◌, ◌++◌, length, false}
use Rattle.std.specs.Prelude.{Some, None}
use Rattle.std.specs.List.{AllByRecursion}
use Rattle.coordinate_model.specs.Sequences.{IsRank, repeats}
use Rattle.coordinate_model.specs.Brackets.{three_term}
use Rattle.coordinate_model.specs.BracketPolynomial.{KeySums, BracketPolynomial, AllKeys, IsBracketPolynomial, add}
use Rattle.coordinate_model.specs.BracketPolynomial.{value}
use Rattle.coordinate_model.specs.Syzygy.{Use, AreSizes, sorted_bracket, syz, multiple}
use Rattle.coordinate_model.specs.Sums.{coefficient}
use Rattle.coordinate_model.specs.Key.{Key, points}
use Rattle.bracket_poly.specs.Tracked.{Tracked}
use Rattle.straightening.specs.RunLaws.{HasTerm, HasLike, KeepsClasses, use_points}
use Rattle.straightening.specs.Runs.{Run, run}
use Rattle.contraction.specs.Passes.{pass, contraction, contracted}

-- the syzygy of empty alpha, of S b c e and of S a is minus the three-term sum
-- [S a b][S c e] - [S a c][S b e] + [S a e][S b c]
abbrev pub SyzygyIsThreeTerms : Type 0
SyzygyIsThreeTerms =
    (S : List ℕ) (a b c e : ℕ) → IsRank (length S + 2)
    → syz [] (S ++ b ∷ c ∷ e ∷ []) (S ++ a ∷ []) ≡ KeySums.neg (three_term KeySums sorted_bracket S a b c e)

-- it has at most three terms, each with the integer 1 or -1, where the points are different
pub record HasThreeTerms (S : List ℕ) (a b c e : ℕ) : Type 0 where
  pub few : length (syz [] (S ++ b ∷ c ∷ e ∷ []) (S ++ a ∷ [])).terms ≤ 3
  pub signs : AllByRecursion (λ t. (t.1 ≡ pos 1) ⊎ (t.1 ≡ negsuc 0)) (syz [] (S ++ b ∷ c ∷ e ∷ []) (S ++ a ∷ [])).terms

abbrev pub SyzygyHasThreeTerms : Type 0
SyzygyHasThreeTerms =
    (S : List ℕ) (a b c e : ℕ) → IsRank (length S + 2) → repeats (S ++ a ∷ b ∷ c ∷ e ∷ []) ≡ false
    → HasThreeTerms S a b c e

-- a pass is a use of rank d, and keeps the value
pub record KeepsValue (d : ℕ) (f : BracketPolynomial) (u : Use) : Type 0 where
  pub sizes : AreSizes d u.alpha u.beta u.gamma
  pub same : value (add f (multiple u)) ≡ value f

abbrev pub PassKeepsValue : Type 0
PassKeepsValue =
    (d n : ℕ) (f : BracketPolynomial) (u : Use) → IsRank d → IsBracketPolynomial d n f → pass f ≡ Some u
    → KeepsValue d f u

-- a pass takes two terms away
pub record TakesAway (f : BracketPolynomial) (u : Use) : Type 0 where
  pub first : Key
  pub second : Key
  pub different : first ≡ second → ⊥
  pub first_there : HasTerm f first
  pub second_there : HasTerm f second
  pub first_gone : coefficient (add f (multiple u)) first ≡ pos 0
  pub second_gone : coefficient (add f (multiple u)) second ≡ pos 0

abbrev pub PassTakesAway : Type 0
PassTakesAway =
    (d n : ℕ) (f : BracketPolynomial) (u : Use) → IsRank d → IsBracketPolynomial d n f → pass f ≡ Some u → TakesAway f u

-- each key behind a pass, and its use, has the parameters and the points of a key before it
pub record KeepsClassesOf (d n : ℕ) (f : BracketPolynomial) (u : Use) : Type 0 where
  pub formed : IsBracketPolynomial d n (add f (multiple u))
  pub keys : AllKeys (λ k. HasLike f k.exponents (points k.rows)) (add f (multiple u))
  pub used : HasLike f u.exponents (use_points u)

abbrev pub PassKeepsClasses : Type 0
PassKeepsClasses =
    (d n : ℕ) (f : BracketPolynomial) (u : Use) → IsRank d → IsBracketPolynomial d n f → pass f ≡ Some u
    → KeepsClassesOf d n f u

-- and the terms are fewer than before
abbrev pub PassMakesFewer : Type 0
PassMakesFewer =
    (d n : ℕ) (f : BracketPolynomial) (u : Use) → IsRank d → IsBracketPolynomial d n f → pass f ≡ Some u
    → length (add f (multiple u)).terms < length f.terms

-- a run of passes keeps the value, the rank and the classes, and leaves no pass where nothing stopped it
pub record Contracts (d n : ℕ) (p : Tracked) (r : Run) : Type 0 where
  pub same : value r.last.sum ≡ value p.sum
  pub keys : IsBracketPolynomial d n r.last.sum
  pub classes : KeepsClasses p r
  pub none_left : r.stop ≡ None → pass r.last.sum ≡ None

abbrev pub ContractionContracts : Type 0
ContractionContracts =
    (d n : ℕ) (p : Tracked) → IsRank d → IsBracketPolynomial d n p.sum → Contracts d n p (contraction p)

-- each of the uses, one after another, makes the terms fewer
abbrev pub EachLowers : BracketPolynomial → List Use → Type 0
EachLowers f [] = ⊤
EachLowers f (u ∷ uses) =
    (length (add f (multiple u)).terms < length f.terms) × EachLowers (add f (multiple u)) uses

-- runs of turns of both, with any budgets, end alike where nothing stops them
abbrev pub EndAlike : Tracked → Tracked → Type 0
EndAlike p q =
    (first second : ℕ) → (run first p).stop ≡ None → (run second q).stop ≡ None
    → (run first p).last.sum ≡ (run second q).last.sum

-- with and without the passes of a start, runs that nothing stops end alike
abbrev pub ContractionEndsAlike : Type 0
ContractionEndsAlike =
    (d n : ℕ) (p : Tracked) → IsRank d → IsBracketPolynomial d n p.sum → EndAlike p (contracted p).last
