-- The syzygy of a pass has at most three terms, each with the integer 1 or -1, where the points are different.
use Rattle.std.proofs.Common.{◌≡◌, ◌≢◌, ℕ, suc, ◌+◌, ◌≤◌, ◌==◌, ◌&&◌, ◌||◌, Bool, true, false, cond, List, [], ◌∷◌}
use Rattle.std.proofs.Common.{◌++◌, length, refl, sym, ap, ap₂, ◌∙◌, arith, inl, inr, subst, eq-eqb, true≢false}
use Rattle.std.proofs.lemmas.Bool.{lt-ltb, le-ltb}
use Rattle.std.proofs.lemmas.Bool.Decides.{eqb_tells}
use Rattle.std.specs.Prelude.{ℤ, pos, negsuc, ◌+ℤ◌, ◌*ℤ◌, nat_lt}
use Rattle.std.specs.Cmp.{nat_cmp_total}
use Rattle.std.specs.Cmp.Lexicographic.{nat_list_cmp_total}
use Rattle.std.specs.List.{AllByRecursion}
use Rattle.std.specs.declared.cmp.Ordering.{Ordering}
use Rattle.std.specs.declared.cmp.Ordering.TheVariants.{Less, Equal, Greater}
use Rattle.coordinate_model.specs.Sequences.{at_places, has, repeats, sign_of, is_odd}
use Rattle.coordinate_model.specs.Sums.{Terms, is_zero, keep, add_term, collect, sum_of}
use Rattle.coordinate_model.specs.Key.{Key, key_cmp, key_times, rows_key}
use Rattle.coordinate_model.specs.BracketPolynomial.{KeySums, BracketPolynomial, add}
use Rattle.coordinate_model.specs.Syzygy.{sorted, syz}
use Rattle.coordinate_model.proofs.Counts.{many, many-append, one_if}
use Rattle.coordinate_model.proofs.KeyProducts.{key_total, key_same}
use Rattle.coordinate_model.proofs.Keys.{times_in}
use Rattle.coordinate_model.proofs.KeySets.{all_sum_of}
use Rattle.coordinate_model.proofs.KeySumLaws.{add_zero, terms-add}
use Rattle.coordinate_model.proofs.Openings.{syz-is}
use Rattle.coordinate_model.proofs.Orders.{count_ordered}
use Rattle.coordinate_model.proofs.Splits.{all_both}
use Rattle.coordinate_model.proofs.SumLemmas.{terms-sum_of}
use Rattle.bracket_poly.specs.Products.{IsSign}
use Rattle.syzygies.specs.SplitTerms.{split_term}
use Rattle.syzygies.proofs.SplitTermLaws.{zero_second, one_term}
use Rattle.contraction.specs.PassLaws.{HasThreeTerms, SyzygyHasThreeTerms}
use Rattle.bracket_poly.proofs.Totals.{zero_add}
use Rattle.contraction.proofs.Swaps.{has_there, twice_there}

-- ---- terms that are collected

abbrev IsSigned : Key × ℤ → Type 0
IsSigned t = IsSign t.1

signed_keep : (k : Key) (c : ℤ) (rest : Terms Key) → IsSign c → AllByRecursion IsSigned rest
    → AllByRecursion IsSigned (keep k c rest)
signed_keep k c rest h g = step (is_zero c)
  where
    step : (b : Bool) → AllByRecursion IsSigned (cond b rest ((k, c) ∷ rest))
    step true = g
    step false = (h, g)

signed_add : (k : Key) (c : ℤ) (es : Terms Key) → IsSign c → AllByRecursion (λ e. (k ≢ e.0) × IsSigned e) es
    → AllByRecursion IsSigned (add_term key_cmp k c es)
signed_add k c [] h g = signed_keep k c [] h tt
signed_add k c (e ∷ es) h g = step (key_cmp k e.0) refl (signed_add k c es h g.1)
  where
    all_signed : (es : Terms Key) → AllByRecursion (λ e. (k ≢ e.0) × IsSigned e) es → AllByRecursion IsSigned es
    all_signed [] g = tt
    all_signed (e ∷ es) g = (g.0.1, all_signed es g.1)

    step : (o : Ordering) → key_cmp k e.0 ≡ o → AllByRecursion IsSigned (add_term key_cmp k c es)
        → AllByRecursion IsSigned (elim o as (λ _. Terms Key) [
          | Less ↦ keep k c (e ∷ es)
          | Equal ↦ keep e.0 (e.1 +ℤ c) es
          | Greater ↦ e ∷ add_term key_cmp k c es
        ])
    step Less q ih = signed_keep k c (e ∷ es) h (all_signed (e ∷ es) g)
    step Equal q ih = absurd (g.0.0 (key_same k e.0 q))
    step Greater q ih = (g.0.1, ih)

-- each key differs from all later ones
abbrev Differ : Terms Key → Type 0
Differ [] = Unit {0}
Differ (t ∷ ts) = AllByRecursion (λ s. t.0 ≢ s.0) ts × Differ ts

all_signs : (ts : Terms Key) → AllByRecursion IsSigned ts → Differ ts → AllByRecursion IsSigned (collect key_cmp ts)
all_signs [] h g = tt
all_signs (t ∷ ts) h g =
    signed_add t.0 t.1 (collect key_cmp ts) h.0
    (all_both (λ (e : Key × ℤ). t.0 ≢ e.0) IsSigned (collect key_cmp ts)
    (subst (AllByRecursion (λ (e : Key × ℤ). t.0 ≢ e.0)) (terms-sum_of key_cmp key_total ts)
    (all_sum_of (λ k. t.0 ≢ k) ts g.0)) (all_signs ts h.1 g.1))

few_keep : (k : Key) (c : ℤ) (rest : Terms Key) → length (keep k c rest) ≤ suc (length rest)
few_keep k c rest = step (is_zero c)
  where
    step : (b : Bool) → length (cond b rest ((k, c) ∷ rest)) ≤ suc (length rest)
    step true = omega arith
    step false = omega arith

few_add : (k : Key) (c : ℤ) (es : Terms Key) → length (add_term key_cmp k c es) ≤ suc (length es)
few_add k c [] = few_keep k c []
few_add k c (e ∷ es) = step (key_cmp k e.0) (few_add k c es)
  where
    step : (o : Ordering) → length (add_term key_cmp k c es) ≤ suc (length es)
        → length (elim o as (λ _. Terms Key) [
          | Less ↦ keep k c (e ∷ es)
          | Equal ↦ keep e.0 (e.1 +ℤ c) es
          | Greater ↦ e ∷ add_term key_cmp k c es
        ]) ≤ suc (suc (length es))
    step Less ih = few_keep k c (e ∷ es)
    step Equal ih = let l : length (keep e.0 (e.1 +ℤ c) es) ≤ suc (length es) = few_keep e.0 (e.1 +ℤ c) es in omega arith
    step Greater ih = omega arith

pub few_terms : (ts : Terms Key) → length (collect key_cmp ts) ≤ length ts
few_terms [] = omega arith
few_terms (t ∷ ts) =
    let l : length (add_term key_cmp t.0 t.1 (collect key_cmp ts)) ≤ suc (length (collect key_cmp ts)) =
    few_add t.0 t.1 (collect key_cmp ts) in
    let m : length (collect key_cmp ts) ≤ length ts = few_terms ts in
    omega arith

-- ---- how often points come

pub absent : (x : ℕ) (xs : List ℕ) → has xs x ≡ false → times_in x xs ≡ 0
absent x [] h = refl
absent x (y ∷ ys) h = step (x == y) refl h (λ g. absent x ys g)
  where
    step : (b : Bool) → (x == y) ≡ b → (b || has ys x) ≡ false → (has ys x ≡ false → times_in x ys ≡ 0)
        → one_if (x == y) + times_in x ys ≡ 0
    step true e g ih = absurd (true≢false g)
    step false e g ih =
        let a : one_if (x == y) ≡ 0 = ap one_if e in
        let b : times_in x ys ≡ 0 = ih g in
        omega arith

pub present : (x : ℕ) (xs : List ℕ) → has xs x ≡ true → 1 ≤ times_in x xs
present x [] h = absurd (true≢false (sym h))
present x (y ∷ ys) h = step (x == y) refl h (λ g. present x ys g)
  where
    step : (b : Bool) → (x == y) ≡ b → (b || has ys x) ≡ true → (has ys x ≡ true → 1 ≤ times_in x ys)
        → 1 ≤ one_if (x == y) + times_in x ys
    step true e g ih = let a : one_if (x == y) ≡ 1 = ap one_if e in omega arith
    step false e g ih = let b : 1 ≤ times_in x ys = ih g in omega arith

pub times_once : (i : ℕ) (ps : List ℕ) → repeats ps ≡ false → times_in i ps ≤ 1
times_once i [] h = omega arith
times_once i (x ∷ xs) h = step (has xs x) refl h (λ g. times_once i xs g)
  where
    step : (b : Bool) → has xs x ≡ b → (b || repeats xs) ≡ false → (repeats xs ≡ false → times_in i xs ≤ 1)
        → one_if (i == x) + times_in i xs ≤ 1
    step true e g ih = absurd (true≢false g)
    step false e g ih = elim (eqb_tells i x) [
      | inl s ↦
          let a : one_if (i == x) ≡ 1 = ap one_if s.0 in
          let b : times_in i xs ≡ 0 = ap (λ j. times_in j xs) s.1 ∙ absent x xs e in
          omega arith
      | inr s ↦
          let a : one_if (i == x) ≡ 0 = ap one_if s.0 in
          let b : times_in i xs ≤ 1 = ih g in
          omega arith
    ]

pub none_twice : (ps : List ℕ) → ((i : ℕ) → times_in i ps ≤ 1) → repeats ps ≡ false
none_twice [] h = refl
none_twice (x ∷ xs) h =
    step (has xs x) refl (none_twice xs (λ i. let l : one_if (i == x) + times_in i xs ≤ 1 = h i in omega arith))
  where
    step : (b : Bool) → has xs x ≡ b → repeats xs ≡ false → (b || repeats xs) ≡ false
    step true e ih =
        let l : one_if (x == x) + times_in x xs ≤ 1 = h x in
        let a : one_if (x == x) ≡ 1 = ap one_if (eq-eqb x x refl) in
        let m : 1 ≤ times_in x xs = present x xs e in
        absurd (omega arith)
    step false e ih = ih

-- ---- rows with two points together

-- whether both points come in the row
abbrev together : ℕ → ℕ → List ℕ → Bool
together x y row = nat_lt 0 (times_in x row) && nat_lt 0 (times_in y row)

both_there : (m n : ℕ) → 1 ≤ m → 1 ≤ n → one_if (nat_lt 0 m && nat_lt 0 n) ≡ 1
both_there m n h g = ap₂ (λ p q. one_if (p && q)) (lt-ltb 0 m h) (lt-ltb 0 n g)

first_lacks : (m n : ℕ) → m ≡ 0 → one_if (nat_lt 0 m && nat_lt 0 n) ≡ 0
first_lacks m n h = ap (λ p. one_if (p && nat_lt 0 n)) (le-ltb 0 m (omega arith))

second_lacks : (m n : ℕ) → n ≡ 0 → one_if (nat_lt 0 m && nat_lt 0 n) ≡ 0
second_lacks m n h = ap (λ p. one_if (nat_lt 0 m && p)) (le-ltb 0 n (omega arith)) ∙ last (nat_lt 0 m)
  where
    last : (b : Bool) → one_if (b && false) ≡ 0
    last true = refl
    last false = refl

times_sorted : (i : ℕ) (ps : List ℕ) → times_in i (sorted ps) ≡ times_in i ps
times_sorted i ps = count_ordered nat_cmp_total (λ x. i == x) ps

-- the key of two rows of these points
abbrev key_of_rows : List ℕ → List ℕ → Key
key_of_rows ps qs = key_times (rows_key (sorted ps ∷ [])) (rows_key (sorted qs ∷ []))

-- how many of the two rows have both points
count_together : (x y : ℕ) (ps qs : List ℕ) → many (together x y) (key_of_rows ps qs).rows
    ≡ one_if (nat_lt 0 (times_in x ps) && nat_lt 0 (times_in y ps))
    + (one_if (nat_lt 0 (times_in x qs) && nat_lt 0 (times_in y qs)) + 0)
count_together x y ps qs =
    count_ordered nat_list_cmp_total (together x y) (sorted ps ∷ sorted qs ∷ [])
    ∙ ap₂ (λ m n. m + (n + 0))
    (ap₂ (λ m n. one_if (nat_lt 0 m && nat_lt 0 n)) (times_sorted x ps) (times_sorted y ps))
    (ap₂ (λ m n. one_if (nat_lt 0 m && nat_lt 0 n)) (times_sorted x qs) (times_sorted y qs))

-- ---- different points

module _ (S : List ℕ) (a b c e : ℕ) (once : repeats (S ++ a ∷ b ∷ c ∷ e ∷ []) ≡ false) where
  all_once : (i : ℕ) → times_in i S + (one_if (i == a) + (one_if (i == b) + (one_if (i == c) + (one_if (i == e) + 0)))) ≤ 1
  all_once i =
      subst (λ (n : ℕ). n ≤ 1) (many-append (λ p. i == p) S (a ∷ b ∷ c ∷ e ∷ []))
      (times_once i (S ++ a ∷ b ∷ c ∷ e ∷ []) once)

  there : (x : ℕ) → one_if (x == x) ≡ 1
  there x = ap one_if (eq-eqb x x refl)

  -- the points S q r, and p S a
  abbrev two : ℕ → ℕ → List ℕ
  two q r = S ++ q ∷ r ∷ []

  abbrev ends : ℕ → List ℕ
  ends p = p ∷ (S ++ a ∷ [])

  times_two : (i q r : ℕ) → times_in i (two q r) ≡ times_in i S + (one_if (i == q) + (one_if (i == r) + 0))
  times_two i q r = many-append (λ p. i == p) S (q ∷ r ∷ [])

  times_ends : (i p : ℕ) → times_in i (ends p) ≡ one_if (i == p) + (times_in i S + (one_if (i == a) + 0))
  times_ends i p = ap (λ n. one_if (i == p) + n) (many-append (λ p. i == p) S (a ∷ []))

  once_two : (q r : ℕ) → ((i : ℕ) → one_if (i == q) + one_if (i == r) ≤ one_if (i == b) + (one_if (i == c) + one_if (i == e)))
      → repeats (two q r) ≡ false
  once_two q r h =
      none_twice (two q r)
      (λ i. let l = all_once i in let m = h i in let t = times_two i q r in omega arith)

  once_ends : (p : ℕ) → ((i : ℕ) → one_if (i == p) ≤ one_if (i == b) + (one_if (i == c) + one_if (i == e)))
      → repeats (ends p) ≡ false
  once_ends p h =
      none_twice (ends p)
      (λ i. let l = all_once i in let m = h i in let t = times_ends i p in omega arith)

  abbrev key_at : ℕ → ℕ → ℕ → Key
  key_at p q r = key_of_rows (two q r) (ends p)

  -- the row of a and p is in this product
  has_pair : (p q r : ℕ) → 1 ≤ many (together a p) (key_at p q r).rows
  has_pair p q r =
      let w = count_together a p (two q r) (ends p) in
      let x : 1 ≤ times_in a (ends p) = let t = times_ends a p in let h = there a in omega arith in
      let y : 1 ≤ times_in p (ends p) = let t = times_ends p p in let h = there p in omega arith in
      let z = both_there (times_in a (ends p)) (times_in p (ends p)) x y in
      omega arith

  -- and in no other
  lacks_pair : (o p q r : ℕ) → times_in a (two q r) ≡ 0 → times_in o (ends p) ≡ 0
      → many (together a o) (key_at p q r).rows ≡ 0
  lacks_pair o p q r h g =
      let w = count_together a o (two q r) (ends p) in
      let y = first_lacks (times_in a (two q r)) (times_in o (two q r)) h in
      let z = second_lacks (times_in a (ends p)) (times_in o (ends p)) g in
      omega arith

  differ : (o s t p q r : ℕ) → times_in a (two q r) ≡ 0 → times_in o (ends p) ≡ 0 → key_at o s t ≢ key_at p q r
  differ o s t p q r h g same =
      let x : 1 ≤ many (together a o) (key_at o s t).rows = has_pair o s t in
      let y : many (together a o) (key_at p q r).rows ≡ 0 = lacks_pair o p q r h g in
      let z : many (together a o) (key_at o s t).rows ≡ many (together a o) (key_at p q r).rows =
      ap (λ (k : Key). many (together a o) k.rows) same in
      omega arith

  first_second : key_at b c e ≢ key_at c b e
  first_second =
      differ b c e c b e
      (let l = all_once a in let h = there a in let t = times_two a b e in omega arith)
      (let l = all_once b in let h = there b in let t = times_ends b c in omega arith)

  first_third : key_at b c e ≢ key_at e b c
  first_third =
      differ b c e e b c
      (let l = all_once a in let h = there a in let t = times_two a b c in omega arith)
      (let l = all_once b in let h = there b in let t = times_ends b e in omega arith)

  second_third : key_at c b e ≢ key_at e b c
  second_third =
      differ c b e e b c
      (let l = all_once a in let h = there a in let t = times_two a b c in omega arith)
      (let l = all_once c in let h = there c in let t = times_ends c e in omega arith)

  -- a product of signs
  sign-is : (w : List ℕ) → IsSign (sign_of w)
  sign-is w = by (is_odd w)
    where
      by : (b : Bool) → IsSign (cond b (negsuc 0) (pos 1))
      by true = inr refl
      by false = inl refl

  sign_times : (x y : ℤ) → IsSign x → IsSign y → IsSign (x *ℤ y)
  sign_times x y (inl h) (inl g) = inl (ap₂ ◌*ℤ◌ h g)
  sign_times x y (inl h) (inr g) = inr (ap₂ ◌*ℤ◌ h g)
  sign_times x y (inr h) (inl g) = inr (ap₂ ◌*ℤ◌ h g)
  sign_times x y (inr h) (inr g) = inl (ap₂ ◌*ℤ◌ h g)

  -- the term of a split of which the chosen point is p
  abbrev term_with : List ℕ → ℕ → ℕ → ℕ → Key × ℤ
  term_with w p q r = (key_at p q r, sign_of w *ℤ (sign_of (two q r) *ℤ sign_of (ends p)))

  signed_term : (w : List ℕ) (p q r : ℕ) → IsSigned (term_with w p q r)
  signed_term w p q r =
      sign_times (sign_of w) (sign_of (two q r) *ℤ sign_of (ends p)) (sign-is w)
      (sign_times (sign_of (two q r)) (sign_of (ends p)) (sign-is (two q r)) (sign-is (ends p)))

  -- a sum of three such terms
  three : (u v w : List ℕ) (f : BracketPolynomial)
      → f ≡ sum_of key_cmp (term_with u b c e ∷ term_with v c b e ∷ term_with w e b c ∷ [])
      → (length f.terms ≤ 3) × AllByRecursion IsSigned f.terms
  three u v w f same =
      let ts : Terms Key = term_with u b c e ∷ term_with v c b e ∷ term_with w e b c ∷ [] in
      let collected : f.terms ≡ collect key_cmp ts =
      ap (λ (g : BracketPolynomial). g.terms) same ∙ terms-sum_of key_cmp key_total ts in (
        subst (λ (us : Terms Key). length us ≤ 3) (sym collected) (few_terms ts),
        subst (AllByRecursion IsSigned) (sym collected)
            (all_signs ts (signed_term u b c e, (signed_term v c b e, (signed_term w e b c, tt)))
            ((first_second, (first_third, tt)), ((second_third, tt), (tt, tt)))),
      )

  -- the sum of the terms of three splits
  sum_of_terms : (x y z : Key × ℤ) (f g h : BracketPolynomial) → f ≡ sum_of key_cmp (x ∷ [])
      → g ≡ sum_of key_cmp (y ∷ []) → h ≡ sum_of key_cmp (z ∷ [])
      → add f (add g (add h KeySums.𝟘)) ≡ sum_of key_cmp (x ∷ y ∷ z ∷ [])
  sum_of_terms x y z f g h p q r =
      ap₂ (λ s t. add s (add t (add h KeySums.𝟘))) p q
      ∙ ap (λ t. add (sum_of key_cmp (x ∷ [])) (add (sum_of key_cmp (y ∷ [])) t)) (add_zero h ∙ r)
      ∙ ap (add (sum_of key_cmp (x ∷ []))) (sym (terms-add (y ∷ []) (z ∷ [])))
      ∙ sym (terms-add (x ∷ []) (y ∷ z ∷ []))

  once_ce : repeats (two c e) ≡ false
  once_ce = once_two c e (λ i. omega arith)

  once_be : repeats (two b e) ≡ false
  once_be = once_two b e (λ i. omega arith)

  once_bc : repeats (two b c) ≡ false
  once_bc = once_two b c (λ i. omega arith)

  once_b : repeats (ends b) ≡ false
  once_b = once_ends b (λ i. omega arith)

  once_c : repeats (ends c) ≡ false
  once_c = once_ends c (λ i. omega arith)

  once_e : repeats (ends e) ≡ false
  once_e = once_ends e (λ i. omega arith)

-- the term of a split where no point comes twice
split_is : (β γ : List ℕ) (t : List ℕ × List ℕ) → repeats (at_places β t.1) ≡ false → repeats (at_places β t.0 ++ γ) ≡ false
    → split_term [] β γ t
    ≡ sum_of key_cmp ((
      key_of_rows (at_places β t.1) (at_places β t.0 ++ γ),
      sign_of (t.0 ++ t.1) *ℤ (sign_of (at_places β t.1) *ℤ sign_of (at_places β t.0 ++ γ)),
    ) ∷ [])
split_is β γ t h g =
    one_term [] β γ t (sorted (at_places β t.1)) (sorted (at_places β t.0 ++ γ)) (sign_of (at_places β t.1))
    (sign_of (at_places β t.0 ++ γ)) (sign_of (t.0 ++ t.1)) (record { once = h; ascending = refl; sign = refl })
    (record { once = g; ascending = refl; sign = refl }) refl

-- ---- the ranks

module _ (a b c e : ℕ) where
  terms_2 : repeats (a ∷ b ∷ c ∷ e ∷ []) ≡ false → HasThreeTerms [] a b c e
  terms_2 once =
      let β : List ℕ = b ∷ c ∷ e ∷ [] in
      let w = three [] a b c e once (0 ∷ 1 ∷ 2 ∷ []) (1 ∷ 0 ∷ 2 ∷ []) (2 ∷ 0 ∷ 1 ∷ []) (syz [] β (a ∷ []))
      (syz-is [] β (a ∷ [])
      ∙ sum_of_terms [] a b c e once (term_with [] a b c e once (0 ∷ 1 ∷ 2 ∷ []) b c e)
      (term_with [] a b c e once (1 ∷ 0 ∷ 2 ∷ []) c b e) (term_with [] a b c e once (2 ∷ 0 ∷ 1 ∷ []) e b c) _ _ _
      (split_is β (a ∷ []) (0 ∷ [], 1 ∷ 2 ∷ []) (once_ce [] a b c e once) (once_b [] a b c e once))
      (split_is β (a ∷ []) (1 ∷ [], 0 ∷ 2 ∷ []) (once_be [] a b c e once) (once_c [] a b c e once))
      (split_is β (a ∷ []) (2 ∷ [], 0 ∷ 1 ∷ []) (once_bc [] a b c e once) (once_e [] a b c e once))) in
      record { few = w.0; signs = w.1 }

  terms_3 : (s : ℕ) → repeats (s ∷ a ∷ b ∷ c ∷ e ∷ []) ≡ false → HasThreeTerms (s ∷ []) a b c e
  terms_3 s once =
      let β : List ℕ = s ∷ b ∷ c ∷ e ∷ [] in
      let γ : List ℕ = s ∷ a ∷ [] in
      let w = three (s ∷ []) a b c e once (1 ∷ 0 ∷ 2 ∷ 3 ∷ []) (2 ∷ 0 ∷ 1 ∷ 3 ∷ []) (3 ∷ 0 ∷ 1 ∷ 2 ∷ []) (syz [] β γ)
      (syz-is [] β γ
      ∙ ap₂ add (zero_second [] β γ (0 ∷ [], 1 ∷ 2 ∷ 3 ∷ []) (twice_there s [] (a ∷ []))) refl ∙ zero_add _
      ∙ sum_of_terms (s ∷ []) a b c e once (term_with (s ∷ []) a b c e once (1 ∷ 0 ∷ 2 ∷ 3 ∷ []) b c e)
      (term_with (s ∷ []) a b c e once (2 ∷ 0 ∷ 1 ∷ 3 ∷ []) c b e)
      (term_with (s ∷ []) a b c e once (3 ∷ 0 ∷ 1 ∷ 2 ∷ []) e b c) _ _ _
      (split_is β γ (1 ∷ [], 0 ∷ 2 ∷ 3 ∷ []) (once_ce (s ∷ []) a b c e once) (once_b (s ∷ []) a b c e once))
      (split_is β γ (2 ∷ [], 0 ∷ 1 ∷ 3 ∷ []) (once_be (s ∷ []) a b c e once) (once_c (s ∷ []) a b c e once))
      (split_is β γ (3 ∷ [], 0 ∷ 1 ∷ 2 ∷ []) (once_bc (s ∷ []) a b c e once) (once_e (s ∷ []) a b c e once))) in
      record { few = w.0; signs = w.1 }

  terms_4 : (s t : ℕ) → repeats (s ∷ t ∷ a ∷ b ∷ c ∷ e ∷ []) ≡ false → HasThreeTerms (s ∷ t ∷ []) a b c e
  terms_4 s t once =
      let S : List ℕ = s ∷ t ∷ [] in
      let β : List ℕ = s ∷ t ∷ b ∷ c ∷ e ∷ [] in
      let γ : List ℕ = s ∷ t ∷ a ∷ [] in
      let w = three (s ∷ t ∷ []) a b c e once (2 ∷ 0 ∷ 1 ∷ 3 ∷ 4 ∷ []) (3 ∷ 0 ∷ 1 ∷ 2 ∷ 4 ∷ []) (4 ∷ 0 ∷ 1 ∷ 2 ∷ 3 ∷ []) (syz [] β γ)
      (syz-is [] β γ
      ∙ ap₂ add (zero_second [] β γ (0 ∷ [], 1 ∷ 2 ∷ 3 ∷ 4 ∷ []) (twice_there s [] (t ∷ a ∷ []))) refl ∙ zero_add _
      ∙ ap₂ add (zero_second [] β γ (1 ∷ [], 0 ∷ 2 ∷ 3 ∷ 4 ∷ [])
      (ap (λ w. w || repeats (s ∷ t ∷ a ∷ [])) (has_there t (s ∷ []) (a ∷ [])))) refl ∙ zero_add _
      ∙ sum_of_terms S a b c e once (term_with (s ∷ t ∷ []) a b c e once (2 ∷ 0 ∷ 1 ∷ 3 ∷ 4 ∷ []) b c e)
      (term_with (s ∷ t ∷ []) a b c e once (3 ∷ 0 ∷ 1 ∷ 2 ∷ 4 ∷ []) c b e)
      (term_with (s ∷ t ∷ []) a b c e once (4 ∷ 0 ∷ 1 ∷ 2 ∷ 3 ∷ []) e b c) _ _ _
      (split_is β γ (2 ∷ [], 0 ∷ 1 ∷ 3 ∷ 4 ∷ []) (once_ce S a b c e once) (once_b S a b c e once))
      (split_is β γ (3 ∷ [], 0 ∷ 1 ∷ 2 ∷ 4 ∷ []) (once_be S a b c e once) (once_c S a b c e once))
      (split_is β γ (4 ∷ [], 0 ∷ 1 ∷ 2 ∷ 3 ∷ []) (once_bc S a b c e once) (once_e S a b c e once))) in
      record { few = w.0; signs = w.1 }

pub syzygy_has_three_terms : SyzygyHasThreeTerms
syzygy_has_three_terms [] a b c e r once = terms_2 a b c e once
syzygy_has_three_terms (s ∷ []) a b c e r once = terms_3 a b c e s once
syzygy_has_three_terms (s ∷ t ∷ []) a b c e r once = terms_4 a b c e s t once
syzygy_has_three_terms (s ∷ t ∷ u ∷ S) a b c e r once = absurd (omega (arith, r.1))
