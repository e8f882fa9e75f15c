-- The terms of a van der Waerden sum, one for each split of the places (Sturmfels, Algorithms in Invariant Theory,
-- section 3.1).
use Rattle.std.specs.Prelude.{◌≡◌, ◌⊎◌, ℕ, ℤ, pos, negsuc, List, [], ◌∷◌, ◌++◌, false}
use Rattle.coordinate_model.specs.Sequences.{at_places, repeats, sign_of}
use Rattle.coordinate_model.specs.Brackets.{signed}
use Rattle.coordinate_model.specs.Sums.{sum_of}
use Rattle.coordinate_model.specs.Key.{key_cmp}
use Rattle.coordinate_model.specs.BracketPolynomial.{KeySums, BracketPolynomial, mul}
use Rattle.coordinate_model.specs.Syzygy.{sorted, sorted_bracket}
use Rattle.split_tables.specs.Masks.{places_of, IsSplitAt}
use Rattle.split_tables.specs.declared.signed_split.SignedSplit.{SignedSplit}
use Rattle.syzygies.specs.Terms.{term_of}
use Rattle.syzygies.specs.declared.pair.PairTerm.{PairTerm}

-- the integer is a sign
abbrev pub IsSign : ℤ → Type 0
IsSign c = (c ≡ pos 1) ⊎ (c ≡ negsuc 0)

-- no point comes twice, and the row is the points in ascending order, with the sign of the sequence
pub record IsSignedRow (points row : List ℕ) (c : ℤ) : Type 0 where
  pub once : repeats points ≡ false
  pub ascending : row ≡ sorted points
  pub sign : c ≡ sign_of points

-- the split is one of n places into k chosen ones and the rest, with its sign
abbrev pub IsPlacesOf : (k n : ℕ) → SignedSplit → Type 0
IsPlacesOf k n split = (i : ℕ) × IsSplitAt n k i split

-- the sign of a split of the places of β times its product of two brackets
abbrev pub split_term : (α β γ : List ℕ) → List ℕ × List ℕ → BracketPolynomial
split_term α β γ t =
    signed KeySums (t.0 ++ t.1)
    (mul (sorted_bracket (α ++ at_places β t.1)) (sorted_bracket (at_places β t.0 ++ γ)))

-- the same at the masks of a split
abbrev pub term_at : (α β γ : List ℕ) → SignedSplit → BracketPolynomial
term_at α β γ split = split_term α β γ (places_of split.chosen, places_of split.rest)

-- the bracket polynomial has one term, with the integer 1 or -1
pub record IsOneTerm {d : ℕ} (f : BracketPolynomial) (term : PairTerm d) : Type 0 where
  pub is : f ≡ sum_of key_cmp (term_of term ∷ [])
  pub one : IsSign term.sign_count
