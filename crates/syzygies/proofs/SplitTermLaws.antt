-- The term of a van der Waerden sum at one split, with its sizes and its value.
use Rattle.std.proofs.Common.{◌≡◌, ℕ, zero, suc, ◌+◌, ◌<◌, Bool, true, false, cond, List, [], ◌∷◌, ◌++◌, length, refl, sym, ap}
use Rattle.std.proofs.Common.{ap₂, subst, ◌∙◌, arith, inl, inr}
use Rattle.std.specs.Prelude.{ℤ, pos, negsuc, ◌*ℤ◌, neg_ℤ, slice_get, Some}
use Rattle.std.specs.List.{AllByRecursion}
use Rattle.coordinate_model.specs.Ring.{Integers}
use Rattle.coordinate_model.specs.Sequences.{range, splits, at_places, repeats, is_odd, sign_of}
use Rattle.coordinate_model.specs.Brackets.{signed}
use Rattle.coordinate_model.specs.Words.{ordered}
use Rattle.coordinate_model.specs.Sums.{sum_of, single}
use Rattle.coordinate_model.specs.Key.{Key, key_cmp, row_cmp, key_times, rows_key}
use Rattle.coordinate_model.specs.BracketPolynomial.{KeySums, BracketPolynomial, mul}
use Rattle.coordinate_model.specs.Syzygy.{sorted, sorted_bracket, AreSizes}
use Rattle.coordinate_model.proofs.RingLemmas as Ring
use Rattle.coordinate_model.proofs.IntegerRing.{integer_ring}
use Rattle.coordinate_model.proofs.Openings.{mul-is, sorted_bracket-repeats, sorted_bracket-row}
use Rattle.coordinate_model.proofs.KeySumLaws.{mul_comm, terms-same, terms-neg, terms-mul}
use Rattle.coordinate_model.proofs.Splits.{IsSplit, splits-are, range-below, length-range_from, length-at_places}
use Rattle.split_tables.specs.Masks.{places_of}
use Rattle.split_tables.specs.declared.signed_split.SignedSplit.{SignedSplit}
use Rattle.syzygies.proofs.EightBits.{again, again-sign}
use Rattle.syzygies.specs.SplitTerms.{IsSign, IsSignedRow, IsPlacesOf, split_term}

-- ---- sizes

all_at : {A : Type 0} (P : A → Type 0) (xs : List A) (i : ℕ) (x : A) → AllByRecursion P xs → slice_get xs i ≡ Some x
    → P x
all_at P [] i x h e = absurd cc
all_at P (y ∷ ys) zero x h e = (let same : y ≡ x = cc in subst P same h.0)
all_at P (y ∷ ys) (suc i) x h e = all_at P ys i x h.1 e

-- the points of both brackets of a split, counted
pub split_sizes : (d : ℕ) (α β γ : List ℕ) (split : SignedSplit) → AreSizes d α β γ
    → IsPlacesOf (length α + 1) (length β) split
    → (length α + length (at_places β (places_of split.rest)) ≡ d)
    × (length (at_places β (places_of split.chosen)) + length γ ≡ d)
split_sizes d α β γ split s at =
    let t : List ℕ × List ℕ = (places_of split.chosen, places_of split.rest) in
    let n : length (range (length β)) ≡ length β = length-range_from 0 (length β) in
    let parts : IsSplit (λ i. i < length β) (length α + 1) (length (range (length β))) t =
    all_at _ (splits (length α + 1) (range (length β))) at.0 t
    (splits-are (λ i. i < length β) (length α + 1) (range (length β)) (range-below (length β))) at.1.split in
    let chosen : length (at_places β t.0) ≡ length t.0 = length-at_places β t.0 parts.first in
    let rest : length (at_places β t.1) ≡ length t.1 = length-at_places β t.1 parts.second in
    let a : length t.0 ≡ length α + 1 = parts.chosen in
    let b : length t.1 + (length α + 1) ≡ length (range (length β)) = parts.all in
    (omega (arith, s.beta, s.others), omega (arith, s.beta, s.others))

-- ---- zero

zero_left : (f : BracketPolynomial) → mul KeySums.𝟘 f ≡ KeySums.𝟘
zero_left f = mul-is KeySums.𝟘 f ∙ terms-same KeySums.𝟘

zero_right : (f : BracketPolynomial) → mul f KeySums.𝟘 ≡ KeySums.𝟘
zero_right f = mul_comm f KeySums.𝟘 ∙ zero_left f

signed_zero : (w : List ℕ) → signed KeySums w KeySums.𝟘 ≡ KeySums.𝟘
signed_zero w = by (is_odd w)
  where
    by : (b : Bool) → cond b (KeySums.neg KeySums.𝟘) KeySums.𝟘 ≡ KeySums.𝟘
    by true = ap KeySums.neg (sym (terms-same KeySums.𝟘)) ∙ sym (terms-neg []) ∙ terms-same KeySums.𝟘
    by false = refl

-- a bracket with a point twice makes the term zero
pub zero_first : (α β γ : List ℕ) (t : List ℕ × List ℕ) → repeats (α ++ at_places β t.1) ≡ true
    → split_term α β γ t ≡ KeySums.𝟘
zero_first α β γ t e =
    ap (signed KeySums (t.0 ++ t.1))
    (ap (λ f. mul f (sorted_bracket (at_places β t.0 ++ γ))) (sorted_bracket-repeats (α ++ at_places β t.1) e)
    ∙ zero_left (sorted_bracket (at_places β t.0 ++ γ)))
    ∙ signed_zero (t.0 ++ t.1)

pub zero_second : (α β γ : List ℕ) (t : List ℕ × List ℕ) → repeats (at_places β t.0 ++ γ) ≡ true
    → split_term α β γ t ≡ KeySums.𝟘
zero_second α β γ t e =
    ap (signed KeySums (t.0 ++ t.1))
    (ap (mul (sorted_bracket (α ++ at_places β t.1))) (sorted_bracket-repeats (at_places β t.0 ++ γ) e)
    ∙ zero_right (sorted_bracket (α ++ at_places β t.1)))
    ∙ signed_zero (t.0 ++ t.1)

-- ---- one term

single-is : (k : Key) → single key_cmp k ≡ sum_of key_cmp ((k, pos 1) ∷ [])
unfolding single
single-is k = refl

minus_one : (c : ℤ) → neg_ℤ c ≡ negsuc 0 *ℤ c
minus_one c =
    sym (Ring.neg_mul Integers integer_ring (pos 1) c ∙ ap neg_ℤ (Ring.one_mul Integers integer_ring c))

signed-term : (w : List ℕ) (k : Key) (c : ℤ)
    → signed KeySums w (sum_of key_cmp ((k, c) ∷ [])) ≡ sum_of key_cmp ((k, sign_of w *ℤ c) ∷ [])
signed-term w k c = by (is_odd w)
  where
    by : (b : Bool) → cond b (KeySums.neg (sum_of key_cmp ((k, c) ∷ []))) (sum_of key_cmp ((k, c) ∷ []))
        ≡ sum_of key_cmp ((k, cond b (negsuc 0) (pos 1) *ℤ c) ∷ [])
    by true = sym (terms-neg ((k, c) ∷ [])) ∙ ap (λ z. sum_of key_cmp ((k, z) ∷ [])) (minus_one c)
    by false = ap (λ z. sum_of key_cmp ((k, z) ∷ [])) (sym (Ring.one_mul Integers integer_ring c))

-- the sorted bracket of a sequence, as one term
row_term : (ps row : List ℕ) (c : ℤ) → IsSignedRow ps row c
    → sorted_bracket ps ≡ sum_of key_cmp ((rows_key (row ∷ []), c) ∷ [])
row_term ps row c s =
    sorted_bracket-row ps s.once ∙ ap (signed KeySums ps) (single-is (rows_key (sorted ps ∷ [])))
    ∙ signed-term ps (rows_key (sorted ps ∷ [])) (pos 1)
    ∙ ap₂ (λ (r : List ℕ) (z : ℤ). sum_of key_cmp ((rows_key (r ∷ []), z) ∷ [])) (sym s.ascending)
    (integer_ring.mul_one (sign_of ps) ∙ sym s.sign)

-- the product of both brackets with the sign of the split, as one term
pub one_term : (α β γ : List ℕ) (t : List ℕ × List ℕ) (first second : List ℕ) (c1 c2 c3 : ℤ)
    → IsSignedRow (α ++ at_places β t.1) first c1 → IsSignedRow (at_places β t.0 ++ γ) second c2
    → c3 ≡ sign_of (t.0 ++ t.1)
    → split_term α β γ t
    ≡ sum_of key_cmp ((key_times (rows_key (first ∷ [])) (rows_key (second ∷ [])), c3 *ℤ (c1 *ℤ c2)) ∷ [])
one_term α β γ t first second c1 c2 c3 s1 s2 e =
    let k : Key = rows_key (first ∷ []) in
    let l : Key = rows_key (second ∷ []) in
    ap (signed KeySums (t.0 ++ t.1))
    (ap₂ mul (row_term (α ++ at_places β t.1) first c1 s1) (row_term (at_places β t.0 ++ γ) second c2 s2)
    ∙ sym (terms-mul ((k, c1) ∷ []) ((l, c2) ∷ [])))
    ∙ signed-term (t.0 ++ t.1) (key_times k l) (c1 *ℤ c2)
    ∙ ap (λ z. sum_of key_cmp ((key_times k l, z *ℤ (c1 *ℤ c2)) ∷ [])) (sym e)

-- ---- as the code has it

sign-is : (w : List ℕ) → IsSign (sign_of w)
sign-is w = by (is_odd w)
  where
    by : (b : Bool) → IsSign (cond b (negsuc 0) (pos 1))
    by true = inr refl
    by false = inl refl

pub one_term_of : (α β γ : List ℕ) (t : List ℕ × List ℕ) (ps qs first second low high : List ℕ) (c1 c2 c3 m n : ℤ)
    → ps ≡ α ++ at_places β t.1 → qs ≡ at_places β t.0 ++ γ → IsSignedRow ps first c1 → IsSignedRow qs second c2
    → c3 ≡ sign_of (t.0 ++ t.1) → low ∷ high ∷ [] ≡ ordered row_cmp (first ∷ second ∷ [])
    → m ≡ again c1 *ℤ again c2 → n ≡ again c3 *ℤ again m → IsSign m → IsSign n
    → (split_term α β γ t ≡ sum_of key_cmp ((rows_key (low ∷ high ∷ []), again n) ∷ [])) × IsSign (again n)
one_term_of α β γ t ps qs first second low high c1 c2 c3 m n p q s1 s2 e rows em en sm sn =
    let is_sign = λ (w : List ℕ) (c : ℤ) (h : c ≡ sign_of w). subst IsSign (sym h) (sign-is w) in
    let product : m ≡ c1 *ℤ c2 =
    em ∙ ap₂ ◌*ℤ◌ (again-sign c1 (is_sign ps c1 s1.sign)) (again-sign c2 (is_sign qs c2 s2.sign)) in
    let all : again n ≡ c3 *ℤ (c1 *ℤ c2) =
    again-sign n sn ∙ en ∙ ap₂ ◌*ℤ◌ (again-sign c3 (is_sign (t.0 ++ t.1) c3 e)) (again-sign m sm ∙ product) in (
      one_term α β γ t first second c1 c2 c3 (subst (λ (w : List ℕ). IsSignedRow w first c1) p s1)
          (subst (λ (w : List ℕ). IsSignedRow w second c2) q s2) e
          ∙ ap₂ (λ (r : List (List ℕ)) (z : ℤ). sum_of key_cmp ((rows_key r, z) ∷ [])) (sym rows) (sym all),
      subst IsSign (sym (again-sign n sn)) sn,
    )
