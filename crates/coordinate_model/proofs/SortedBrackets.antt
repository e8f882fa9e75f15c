-- The terms of a sorted bracket, one or none; and it is normal.
use Rattle.std.proofs.Common.{◌≡◌, ℕ, Bool, true, false, cond, List, [], ◌∷◌, length, refl, ◌∙◌, arith}
use lib.IntN.{ℤ, pos, negsuc}
use Rattle.coordinate_model.specs.Sequences.{is_odd, repeats}
use Rattle.coordinate_model.specs.Sums.{single, minus, sum_of}
use Rattle.coordinate_model.specs.Key.{Key, key_cmp, rows_key, IsStandardKey}
use Rattle.coordinate_model.specs.BracketPolynomial.{KeySums, BracketPolynomial, IsNormal}
use Rattle.coordinate_model.specs.Syzygy.{sorted, sorted_bracket}
use Rattle.coordinate_model.proofs.Sorting.{length-ordered}
use Rattle.coordinate_model.proofs.SortedRows.{sorted_increasing}

-- the sign as an integer
abbrev pub sign_of : Bool → ℤ
sign_of true = negsuc 0
sign_of false = pos 1

pub terms-single : (k : Key) → (single key_cmp k).terms ≡ (k, pos 1) ∷ []
unfolding single sum_of
terms-single k = refl

pub terms-minus_single : (k : Key) → (KeySums.neg (single key_cmp k)).terms ≡ (k, negsuc 0) ∷ []
unfolding single sum_of minus
terms-minus_single k = refl

-- where a point comes twice there is no term
pub terms-twice : (ps : List ℕ) → repeats ps ≡ true → (sorted_bracket ps).terms ≡ []
unfolding sorted_bracket
terms-twice ps h = rw h refl

-- and else one, of the sorted row with the sign
pub terms-once : (ps : List ℕ) → repeats ps ≡ false
    → (sorted_bracket ps).terms ≡ (rows_key (sorted ps ∷ []), sign_of (is_odd ps)) ∷ []
unfolding sorted_bracket
terms-once ps h = rw h (step (is_odd ps))
  where
    step : (b : Bool) → (let f : BracketPolynomial = cond b (KeySums.neg (single key_cmp (rows_key (sorted ps ∷ []))))
        (single key_cmp (rows_key (sorted ps ∷ []))) in f.terms) ≡ (rows_key (sorted ps ∷ []), sign_of b) ∷ []
    step true = terms-minus_single (rows_key (sorted ps ∷ []))
    step false = terms-single (rows_key (sorted ps ∷ []))

one_row : (d : ℕ) (ps : List ℕ) → length ps ≡ d → repeats ps ≡ false → IsStandardKey d 0 (rows_key (sorted ps ∷ []))
one_row d ps l h =
    record {
      key = record {
        parameters = refl;
        each = ((length-ordered ps ∙ l, sorted_increasing ps h), tt);
        ascending = λ k x z i. absurd (omega arith);
      };
      columns = λ j below i k x le low. let same : i ≡ k = omega arith in rw same (omega arith);
    }

-- a sorted bracket is normal
pub normal-sorted_bracket : (d : ℕ) (ps : List ℕ) → length ps ≡ d → IsNormal d 0 (sorted_bracket ps)
normal-sorted_bracket d ps l = step (repeats ps) refl
  where
    step : (b : Bool) → repeats ps ≡ b → IsNormal d 0 (sorted_bracket ps)
    step true h = rw (terms-twice ps h) tt
    step false h = rw (terms-once ps h) (one_row d ps l h, tt)
