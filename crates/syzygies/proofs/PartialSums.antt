-- The terms of a syzygy, collected split by split.
use Rattle.std.proofs.Common.{◌≡◌, ℕ, zero, suc, ◌+◌, ◌*◌, ◌^◌, ◌<◌, ◌≤◌, true, false, cond, List, [], ◌∷◌, ◌++◌, map}
use Rattle.std.proofs.Common.{drop, length, get_or, sym, ap, ap₂, ◌∙◌, arith, add-one, Less, Equal, Greater, length-append}
use Rattle.std.proofs.Common.{inl, inr, drop-cons}
use Rattle.std.proofs.Math.Nat.{pow-suc}
use Rattle.std.proofs.lemmas.Int.{ints}
use Rattle.std.proofs.lemmas.List.{length-map, drop_all}
use Rattle.std.specs.Prelude.{ℤ, ◌+ℤ◌}
use Rattle.std.specs.List.{AllByRecursion}
use Rattle.coordinate_model.specs.Sequences.{range, splits}
use Rattle.coordinate_model.specs.Brackets.{sum_over}
use Rattle.coordinate_model.specs.Sums.{Terms, is_zero, keep, add_term, sum_of}
use Rattle.coordinate_model.specs.Key.{Key, key_cmp}
use Rattle.coordinate_model.specs.BracketPolynomial.{KeySums, BracketPolynomial, add}
use Rattle.coordinate_model.specs.Syzygy.{syz}
use Rattle.coordinate_model.proofs.KeyProducts.{key_total}
use Rattle.coordinate_model.proofs.KeySumLaws.{add_assoc, add_comm, add_zero, terms-same, terms-add}
use Rattle.coordinate_model.proofs.Openings.{syz-is}
use Rattle.coordinate_model.proofs.SumLemmas.{terms-sum_of}
use Rattle.coordinate_model.proofs.Splits.{length-range_from}
use Rattle.syzygies.specs.SplitTerms.{IsSign, split_term}
use Rattle.syzygies.specs.Collected.{IsUpTo, IsSmall}

-- ---- how large the integers are

module _ (P Q : Key × ℤ → Type 0) (k : Key) (c : ℤ) (weaker : (t : Key × ℤ) → P t → Q t)
    (more : (t : Key × ℤ) → P t → Q (t.0, t.1 +ℤ c)) (one : Q (k, c)) where
  all_weaker : (ts : Terms Key) → AllByRecursion P ts → AllByRecursion Q ts
  all_weaker [] h = tt
  all_weaker (t ∷ ts) h = (weaker t h.0, all_weaker ts h.1)

  all_keep : (l : Key) (z : ℤ) (ts : Terms Key) → Q (l, z) → AllByRecursion Q ts → AllByRecursion Q (keep l z ts)
  all_keep l z ts q h = elim (is_zero z) as (λ b. AllByRecursion Q (cond b ts ((l, z) ∷ ts))) [ true ↦ h | false ↦ (q, h) ]

  all_added : (ts : Terms Key) → AllByRecursion P ts → AllByRecursion Q (add_term key_cmp k c ts)
  all_added [] h = all_keep k c [] one tt
  all_added (t ∷ ts) h =
      elim (key_cmp k t.0) as (λ r. AllByRecursion Q (elim r [
        | Less ↦ keep k c (t ∷ ts)
        | Equal ↦ keep t.0 (t.1 +ℤ c) ts
        | Greater ↦ t ∷ add_term key_cmp k c ts
      ])) [
        | Less ↦ all_keep k c (t ∷ ts) one (all_weaker (t ∷ ts) h)
        | Equal ↦ all_keep t.0 (t.1 +ℤ c) ts (more t h.0) (all_weaker ts h.1)
        | Greater ↦ (weaker t h.0, all_added ts h.1)
      ]

-- each term changes an integer by one
up_by_one : (n : ℕ) (k : Key) (c : ℤ) (ts : Terms Key) → IsSign c → AllByRecursion (IsUpTo n) ts
    → AllByRecursion (IsUpTo (suc n)) (add_term key_cmp k c ts)
up_by_one n k c ts (inl e) h =
    all_added (IsUpTo n) (IsUpTo (suc n)) k c (λ t b. (omega (arith, ints, b.0, b.1), omega (arith, ints, b.0, b.1)))
    (λ t b. (omega (arith, ints, b.0, b.1, e), omega (arith, ints, b.0, b.1, e)))
    (omega (arith, ints, e), omega (arith, ints, e)) ts h
up_by_one n k c ts (inr e) h =
    all_added (IsUpTo n) (IsUpTo (suc n)) k c (λ t b. (omega (arith, ints, b.0, b.1), omega (arith, ints, b.0, b.1)))
    (λ t b. (omega (arith, ints, b.0, b.1, e), omega (arith, ints, b.0, b.1, e)))
    (omega (arith, ints, e), omega (arith, ints, e)) ts h

further : (n : ℕ) (ts : Terms Key) → AllByRecursion (IsUpTo n) ts → AllByRecursion (IsUpTo (n + 1)) ts
further n [] h = tt
further n (t ∷ ts) h =
    let a = h.0.0 in
    let b = h.0.1 in
    ((omega (arith, ints, a), omega (arith, ints, b)), further n ts h.1)

twice : (n : ℕ) → 2 ^ suc n ≡ 2 ^ n + 2 ^ n
twice n = let e : 2 ^ suc n ≡ 2 ^ n * 2 = pow-suc 2 n in omega arith

one_at_least : (n : ℕ) → 1 ≤ 2 ^ n
one_at_least zero = omega arith
one_at_least (suc n) = (let h : 1 ≤ 2 ^ n = one_at_least n in let e : 2 ^ suc n ≡ 2 ^ n + 2 ^ n = twice n in omega arith)

pub up_to_small : (n : ℕ) (ts : Terms Key) → n ≤ 100 → AllByRecursion (IsUpTo n) ts → AllByRecursion IsSmall ts
up_to_small n [] l h = tt
up_to_small n (t ∷ ts) l h =
    let a = h.0.0 in
    let b = h.0.1 in
    ((omega (arith, ints, a), omega (arith, ints, b)), up_to_small n ts l h.1)

-- there are at most 2 ^ n splits of n entries
few_splits : {A : Type 0} (k : ℕ) (xs : List A) → length (splits k xs) ≤ 2 ^ length xs
few_splits zero xs = one_at_least (length xs)
few_splits (suc k) [] = omega arith
few_splits {A} (suc k) (x ∷ xs) =
    let with : List (List A × List A) = map (λ s. (x ∷ s.0, s.1)) (splits k xs) in
    let without : List (List A × List A) = map (λ s. (s.0, x ∷ s.1)) (splits (suc k) xs) in
    let a : length with ≡ length (splits k xs) = length-map (splits k xs) (λ s. (x ∷ s.0, s.1)) in
    let b : length without ≡ length (splits (suc k) xs) = length-map (splits (suc k) xs) (λ s. (s.0, x ∷ s.1)) in
    let c : length (with ++ without) ≡ length with + length without = length-append with without in
    let d : length (splits k xs) ≤ 2 ^ length xs = few_splits k xs in
    let e : length (splits (suc k) xs) ≤ 2 ^ length xs = few_splits (suc k) xs in
    let f : 2 ^ suc (length xs) ≡ 2 ^ length xs + 2 ^ length xs = twice (length xs) in
    omega arith

power_of_few : (n : ℕ) → n ≤ 5 → 2 ^ n ≤ 100
power_of_few zero h = omega arith
power_of_few (suc zero) h = omega arith
power_of_few (suc (suc zero)) h = omega arith
power_of_few (suc (suc (suc zero))) h = omega arith
power_of_few (suc (suc (suc (suc zero)))) h = omega arith
power_of_few (suc (suc (suc (suc (suc zero))))) h = omega arith
power_of_few (suc (suc (suc (suc (suc (suc n)))))) h = absurd (omega arith)

pub few : (k n : ℕ) → n ≤ 5 → length (splits k (range n)) ≤ 100
few k n h =
    let a : length (splits k (range n)) ≤ 2 ^ length (range n) = few_splits k (range n) in
    let b : 2 ^ length (range n) ≡ 2 ^ n = ap (λ m. 2 ^ m) (length-range_from 0 n) in
    let c : 2 ^ n ≤ 100 = power_of_few n h in
    omega arith

-- ---- the sum of the terms

module _ (α β γ : List ℕ) where
  abbrev all : List (List ℕ × List ℕ)
  all = splits (length α + 1) (range (length β))

  abbrev rest : ℕ → BracketPolynomial
  rest i = sum_over KeySums (split_term α β γ) (drop i all)

  -- the terms are the collected ones of the first i splits
  pub record IsPartialSum (i : ℕ) (ts : Terms Key) : Type 0 where
    pub collected : (sum_of key_cmp ts).terms ≡ ts
    pub total : add (sum_of key_cmp ts) (sum_over KeySums (split_term α β γ) (drop i all)) ≡ syz α β γ
    pub small : AllByRecursion (IsUpTo i) ts

  zero_left : (f : BracketPolynomial) → add KeySums.𝟘 f ≡ f
  zero_left f = add_comm KeySums.𝟘 f ∙ add_zero f

  next : (i : ℕ) (t : List ℕ × List ℕ) → i < length all → t ≡ get_or all i t
      → rest i ≡ add (split_term α β γ t) (rest (i + 1))
  next i t h e =
      ap (sum_over KeySums (split_term α β γ))
      (drop-cons all i t h ∙ ap₂ ◌∷◌ (sym e) (ap (λ n. drop n all) (sym (add-one i))))

  pub at_first : IsPartialSum 0 []
  at_first = record {
    collected = terms-sum_of key_cmp key_total [];
    total =
        ap (λ f. add f (rest 0)) (terms-same KeySums.𝟘) ∙ zero_left (rest 0) ∙ sym (syz-is α β γ);
    small = tt;
  }

  pub without_term : (i : ℕ) (ts : Terms Key) (t : List ℕ × List ℕ) → i < length all → t ≡ get_or all i t
      → split_term α β γ t ≡ KeySums.𝟘 → IsPartialSum i ts → IsPartialSum (i + 1) ts
  without_term i ts t h e none s = record {
    collected = s.collected;
    total =
        ap (add (sum_of key_cmp ts))
        (sym (next i t h e ∙ ap (λ f. add f (rest (i + 1))) none ∙ zero_left (rest (i + 1))))
        ∙ s.total;
    small = further i ts s.small;
  }

  pub with_term : (i : ℕ) (old new : Terms Key) (t : List ℕ × List ℕ) (k : Key) (c : ℤ) → i < length all
      → t ≡ get_or all i t → split_term α β γ t ≡ sum_of key_cmp ((k, c) ∷ []) → IsSign c
      → new ≡ add_term key_cmp k c old → IsPartialSum i old → IsPartialSum (i + 1) new
  with_term i old new t k c h e term one n s =
      let so_far : BracketPolynomial = sum_of key_cmp old in
      let more : BracketPolynomial = sum_of key_cmp ((k, c) ∷ old) in
      let terms : more.terms ≡ new =
      terms-sum_of key_cmp key_total ((k, c) ∷ old)
      ∙ ap (add_term key_cmp k c) (sym (terms-sum_of key_cmp key_total old) ∙ s.collected) ∙ sym n in
      let same : sum_of key_cmp new ≡ more = ap (sum_of key_cmp) (sym terms) ∙ terms-same more in
      let plus : more ≡ add (split_term α β γ t) so_far =
      terms-add ((k, c) ∷ []) old ∙ ap (λ f. add f so_far) (sym term) in
      record {
        collected = ap (λ f. f.terms) same ∙ terms;
        total =
            ap (λ f. add f (rest (i + 1))) (same ∙ plus ∙ add_comm (split_term α β γ t) so_far)
            ∙ add_assoc so_far (split_term α β γ t) (rest (i + 1)) ∙ ap (add so_far) (sym (next i t h e)) ∙ s.total;
        small = rw n (rw add-one (up_by_one i k c old one s.small));
      }

  pub at_last : (i : ℕ) (ts : Terms Key) → length all ≤ i → IsPartialSum i ts → ts ≡ (syz α β γ).terms
  at_last i ts h s =
      sym s.collected
      ∙ ap (λ f. f.terms)
      (sym (add_zero (sum_of key_cmp ts))
      ∙ ap (λ us. add (sum_of key_cmp ts) (sum_over KeySums (split_term α β γ) us)) (sym (drop_all i all h)) ∙ s.total)
