-- The pair of a pass, and its use: the two rows share d - 2 points, so the use has its sizes, and keeps the value.
use Rattle.std.proofs.Common.{◌≡◌, ◌≢◌, ℕ, ◌+◌, ◌≤◌, ◌==◌, ◌&&◌, Bool, true, false, cond, not, List, [], ◌∷◌}
use Rattle.std.proofs.Common.{◌++◌, length, filter, take, drop, refl, sym, ap, ◌∙◌, arith, inl, inr, subst, true≢false}
use Rattle.std.proofs.Common.{Option, Some, None, eqb-true, eq-eqb, ne_eqb, length-append}
use Rattle.std.specs.Prelude.{ℤ}
use Rattle.std.proofs.lemmas.Bool.Decides.{eqb_tells}
use Rattle.std.proofs.lemmas.List.Filters.{length-filter_both}
use Rattle.std.specs.List.{AllByRecursion}
use Rattle.std.specs.Ordering.{eq_by_cmp}
use Rattle.coordinate_model.specs.Sequences.{IsRank, has, without}
use Rattle.coordinate_model.specs.Sums.{Terms}
use Rattle.coordinate_model.specs.Key.{Key, row_cmp, IsRow, IsKey}
use Rattle.coordinate_model.specs.BracketPolynomial.{value}
use Rattle.coordinate_model.specs.Polynomial.{Polynomials}
use Rattle.coordinate_model.specs.Syzygy.{Use, AreSizes, syz, multiple, use_term}
use Rattle.coordinate_model.proofs.BracketPolynomialLaws.{value_of_sum, value_of_product, value_of_syzygy}
use Rattle.coordinate_model.proofs.Counts.{one_if}
use Rattle.coordinate_model.proofs.Keys.{times_in}
use Rattle.coordinate_model.proofs.Openings.{multiple-is}
use Rattle.coordinate_model.proofs.PolynomialRing.{polynomial_ring}
use Rattle.coordinate_model.proofs.RingLemmas as Ring
use Rattle.coordinate_model.proofs.Sorting.{length-ordered}
use Rattle.coordinate_model.proofs.StdSort.{increasing-repeats}
use Rattle.tableau_order.specs.Standard.{row_at}
use Rattle.straightening.proofs.ClassLaws.{same_length}
use Rattle.straightening.proofs.Options.{some_same}
use Rattle.contraction.specs.Passes.{less_row, own_rows, shared, further, use_by, cancels, same_points, are_alike, use_of_pair}
use Rattle.contraction.specs.Passes.{first_with, first_use}
use Rattle.contraction.specs.PassLaws.{PassKeepsValue}
use Rattle.contraction.specs.Pairs.{beta_of, gamma_of}
use Rattle.contraction.proofs.ThreeTermSigns.{absent, present, times_once}

-- ---- the pair

-- a pair of terms, each with P, of which the use is this one
pub record Found (P : Key × ℤ → Type 0) (u : Use) : Type 0 where
  pub first : Key × ℤ
  pub second : Key × ℤ
  pub has_first : P first
  pub has_second : P second
  pub is : use_of_pair first second ≡ Some u

found_with : (P : Key × ℤ → Type 0) (u : Use) (t : Key × ℤ) (ts : Terms Key) → P t → AllByRecursion P ts
    → first_with t ts ≡ Some u → Found P u
found_with P u t [] h g e = cc
found_with P u t (s ∷ ts) h g e = step (λ k. found_with P u t ts h g.1 k) (use_of_pair t s) refl e
  where
    step : (first_with t ts ≡ Some u → Found P u) → (o : Option Use) → use_of_pair t s ≡ o
        → ◌≡◌ {A = Option Use} (elim o [ Some w ↦ Some w | None ↦ first_with t ts ]) (Some u) → Found P u
    step ih (Some w) f k = record { first = t; second = s; has_first = h; has_second = g.0; is = f ∙ k }
    step ih None f k = ih k

pub found_in : (P : Key × ℤ → Type 0) (u : Use) (ts : Terms Key) → AllByRecursion P ts → first_use ts ≡ Some u → Found P u
found_in P u [] g e = cc
found_in P u (t ∷ ts) g e =
    step (λ k. found_in P u ts g.1 k) (λ k. found_with P u t ts g.0 g.1 k) (first_with t ts) refl e
  where
    step : (first_use ts ≡ Some u → Found P u) → (first_with t ts ≡ Some u → Found P u) → (o : Option Use)
        → first_with t ts ≡ o
        → ◌≡◌ {A = Option Use} (elim o [ Some w ↦ Some w | None ↦ first_use ts ]) (Some u) → Found P u
    step ih here (Some w) f k = here (f ∙ k)
    step ih here None f k = ih k

pub parts : (a b : Bool) → (a && b) ≡ true → (a ≡ true) × (b ≡ true)
parts true b e = (refl, e)
parts false b e = absurd (true≢false (sym e))

-- what holds of a pair with a use
pub record IsPair (t s : Key × ℤ) (u : Use) : Type 0 where
  pub used : use_by t (own_rows t.0.rows s.0.rows) ≡ u
  pub parameters : same_points t.0.exponents s.0.exponents ≡ true
  pub alike : are_alike (own_rows t.0.rows s.0.rows) (own_rows s.0.rows t.0.rows) ≡ true
  pub first : cancels u t.1 (own_rows t.0.rows s.0.rows) ≡ true
  pub second : cancels u s.1 (own_rows s.0.rows t.0.rows) ≡ true

pub is_pair : (t s : Key × ℤ) (u : Use) → use_of_pair t s ≡ Some u → IsPair t s u
is_pair t s u e = step _ refl e
  where
    step : (b : Bool) → (same_points t.0.exponents s.0.exponents
        && (are_alike (own_rows t.0.rows s.0.rows) (own_rows s.0.rows t.0.rows)
        && (cancels (use_by t (own_rows t.0.rows s.0.rows)) t.1 (own_rows t.0.rows s.0.rows)
        && cancels (use_by t (own_rows t.0.rows s.0.rows)) s.1 (own_rows s.0.rows t.0.rows)))) ≡ b
        → ◌≡◌ {A = Option Use} (cond b (Some (use_by t (own_rows t.0.rows s.0.rows))) None) (Some u) → IsPair t s u
    step false f k = cc
    step true f k =
        let used : use_by t (own_rows t.0.rows s.0.rows) ≡ u = some_same (use_by t (own_rows t.0.rows s.0.rows)) u k in
        let w = parts _ _ f in
        let v = parts _ _ w.1 in
        let c = parts _ _ v.1 in
        record {
          used = used;
          parameters = w.0;
          alike = v.0;
          first = subst (λ (x : Use). cancels x t.1 (own_rows t.0.rows s.0.rows) ≡ true) used c.0;
          second = subst (λ (x : Use). cancels x s.1 (own_rows s.0.rows t.0.rows) ≡ true) used c.1;
        }

-- ---- its rows

all_less : (P : List ℕ → Type 0) (r : List ℕ) (rows : List (List ℕ)) → AllByRecursion P rows
    → AllByRecursion P (less_row r rows)
all_less P r [] h = tt
all_less P r (x ∷ rows) h = step (eq_by_cmp row_cmp r x) (all_less P r rows h.1)
  where
    step : (b : Bool) → AllByRecursion P (less_row r rows) → AllByRecursion P (cond b rows (x ∷ less_row r rows))
    step true i = h.1
    step false i = (h.0, i)

pub all_own : (P : List ℕ → Type 0) (rows others : List (List ℕ)) → AllByRecursion P rows
    → AllByRecursion P (own_rows rows others)
all_own P rows [] h = h
all_own P rows (r ∷ others) h = all_own P (less_row r rows) others (all_less P r rows h)

pub of_two : (P : List ℕ → Type 0) (rows : List (List ℕ)) → length rows ≡ 2 → AllByRecursion P rows
    → P (row_at rows 0) × P (row_at rows 1)
of_two P [] l h = absurd (omega arith)
of_two P (x ∷ []) l h = absurd (omega arith)
of_two P (x ∷ y ∷ []) l h = (h.0, h.1.0)
of_two P (x ∷ y ∷ z ∷ rows) l h = absurd (omega arith)

-- ---- shared points

-- points of which one passes a test and the other does not
differs : (p : ℕ → Bool) (i x : ℕ) (b c : Bool) → p x ≡ b → p i ≡ c → b ≢ c → one_if (i == x) ≡ 0
differs p i x b c e f n = elim (eqb_tells i x) [
  | inl s ↦ absurd (n (sym e ∙ ap p (sym s.1) ∙ f))
  | inr s ↦ ap one_if s.0
]

pub times_filter : (i : ℕ) (p : ℕ → Bool) (xs : List ℕ) → times_in i (filter p xs) ≡ cond (p i) (times_in i xs) 0
times_filter i p [] = nothing (p i)
  where
    nothing : (b : Bool) → ◌≡◌ {A = ℕ} 0 (cond b 0 0)
    nothing true = refl
    nothing false = refl
times_filter i p (x ∷ xs) = step (p x) (p i) refl refl (times_filter i p xs)
  where
    step : (b c : Bool) → p x ≡ b → p i ≡ c → times_in i (filter p xs) ≡ cond (p i) (times_in i xs) 0
        → times_in i (cond b (x ∷ filter p xs) (filter p xs)) ≡ cond (p i) (one_if (i == x) + times_in i xs) 0
    step true true e f ih =
        ap (λ n. one_if (i == x) + n) (ih ∙ ap (λ b. cond b (times_in i xs) 0) f)
        ∙ sym (ap (λ b. cond b (one_if (i == x) + times_in i xs) 0) f)
    step true false e f ih =
        let g : one_if (i == x) ≡ 0 = differs p i x true false e f true≢false in
        let h : times_in i (filter p xs) ≡ 0 = ih ∙ ap (λ b. cond b (times_in i xs) 0) f in
        let k : one_if (i == x) + times_in i (filter p xs) ≡ 0 = omega arith in
        k ∙ sym (ap (λ b. cond b (one_if (i == x) + times_in i xs) 0) f)
    step false true e f ih =
        let g : one_if (i == x) ≡ 0 = differs p i x false true e f (λ q. true≢false (sym q)) in
        let h : times_in i (filter p xs) ≡ times_in i xs = ih ∙ ap (λ b. cond b (times_in i xs) 0) f in
        let k : times_in i (filter p xs) ≡ one_if (i == x) + times_in i xs = omega arith in
        k ∙ sym (ap (λ b. cond b (one_if (i == x) + times_in i xs) 0) f)
    step false false e f ih =
        ih ∙ ap (λ b. cond b (times_in i xs) 0) f
        ∙ sym (ap (λ b. cond b (one_if (i == x) + times_in i xs) 0) f)

-- two rows share as many points both ways
pub shared_both : (low high : List ℕ) → ((i : ℕ) → times_in i low ≤ 1) → ((i : ℕ) → times_in i high ≤ 1)
    → length (shared low high) ≡ length (shared high low)
shared_both low high l m =
    same_length (shared low high) (shared high low)
    (λ i. times_filter i (has high) low ∙ step i (has high i) (has low i) refl refl (l i) (m i)
    ∙ sym (times_filter i (has low) high))
  where
    step : (i : ℕ) (b c : Bool) → has high i ≡ b → has low i ≡ c → times_in i low ≤ 1 → times_in i high ≤ 1
        → cond (has high i) (times_in i low) 0 ≡ cond (has low i) (times_in i high) 0
    step i b c e f l m =
        ap (λ z. cond z (times_in i low) 0) e ∙ cases b c e f ∙ sym (ap (λ z. cond z (times_in i high) 0) f)
      where
        cases : (b c : Bool) → has high i ≡ b → has low i ≡ c → cond b (times_in i low) 0 ≡ cond c (times_in i high) 0
        cases true true e f =
            let x : 1 ≤ times_in i high = present i high e in
            let y : 1 ≤ times_in i low = present i low f in
            omega arith
        cases true false e f = absent i low f
        cases false true e f = sym (absent i high e)
        cases false false e f = refl

module _ (d : ℕ) (low high : List ℕ) (is_low : IsRow d low) (is_high : IsRow d high)
    (four : length (further low high) ≡ 4) where
  pub shared_size : length (shared low high) + 2 ≡ d
  shared_size =
      let a : length (shared low high) + length (without low high) ≡ length low =
      length-filter_both (has high) (λ x. not (has high x)) (λ x. refl) low in
      let b : length (shared high low) + length (without high low) ≡ length high =
      length-filter_both (has low) (λ x. not (has low x)) (λ x. refl) high in
      let c : length (shared low high) ≡ length (shared high low) =
      shared_both low high (λ i. times_once i low (increasing-repeats low is_low.1))
      (λ i. times_once i high (increasing-repeats high is_high.1)) in
      let e : length (further low high) ≡ length (without low high ++ without high low) =
      length-ordered (without low high ++ without high low) in
      let f : length (without low high ++ without high low) ≡ length (without low high) + length (without high low) =
      length-append (without low high) (without high low) in
      let p : length low ≡ d = is_low.0 in
      let q : length high ≡ d = is_high.0 in
      omega arith

-- rows have four further points exactly where they share all but two
pub crosses_is : (d : ℕ) (low high : List ℕ) → IsRow d low → IsRow d high → (n : ℕ) → n ≡ length (shared low high)
    → (n + 2 == d) ≡ (length (further low high) == 4)
crosses_is d low high is_low is_high n count =
    let a : length (shared low high) + length (without low high) ≡ length low =
    length-filter_both (has high) (λ x. not (has high x)) (λ x. refl) low in
    let b : length (shared high low) + length (without high low) ≡ length high =
    length-filter_both (has low) (λ x. not (has low x)) (λ x. refl) high in
    let c : length (shared low high) ≡ length (shared high low) =
    shared_both low high (λ i. times_once i low (increasing-repeats low is_low.1))
    (λ i. times_once i high (increasing-repeats high is_high.1)) in
    let e : length (further low high) ≡ length (without low high ++ without high low) =
    length-ordered (without low high ++ without high low) in
    let f : length (without low high ++ without high low) ≡ length (without low high) + length (without high low) =
    length-append (without low high) (without high low) in
    let p : length low ≡ d = is_low.0 in
    let q : length high ≡ d = is_high.0 in
    elim (eqb_tells (n + 2) d) [
      | inl h ↦ h.0 ∙ sym (eq-eqb (length (further low high)) 4 (let k : n + 2 ≡ d = h.1 in omega arith))
      | inr h ↦ h.0 ∙ sym (ne_eqb (length (further low high)) 4 (λ k. h.1 (omega arith)))
    ]

take_one : (xs : List ℕ) → length xs ≡ 4 → (length (take 1 xs) ≡ 1) × (length (drop 1 xs) ≡ 3)
take_one [] l = absurd (omega arith)
take_one (x ∷ xs) l = (refl, omega arith)

-- ---- the use

-- the lists of the syzygy of rows that are alike to others have their sizes
pub alike_sizes : (d : ℕ) → IsRank d → (rows others : List (List ℕ)) → AllByRecursion (IsRow d) rows
    → are_alike rows others ≡ true → AreSizes d [] (beta_of rows) (gamma_of rows)
alike_sizes d rank rows others each alike =
    let low : List ℕ = row_at rows 0 in
    let high : List ℕ = row_at rows 1 in
    let a = parts (length rows == 2) _ alike in
    let b = parts (length others == 2) _ a.1 in
    let c = parts (same_points (shared low high) _) _ b.1 in
    let e = parts (same_points (further low high) _) (length (further low high) == 4) c.1 in
    let two : length rows ≡ 2 = eqb-true (length rows) 2 a.0 in
    let four : length (further low high) ≡ 4 = eqb-true (length (further low high)) 4 e.1 in
    let r = of_two (IsRow d) rows two each in
    let size : length (shared low high) + 2 ≡ d = shared_size d low high r.0 r.1 four in
    let w = take_one (further low high) four in
    let x : length (take 1 (further low high)) ≡ 1 = w.0 in
    let y : length (drop 1 (further low high)) ≡ 3 = w.1 in
    let p : length (shared low high ++ drop 1 (further low high)) ≡ length (shared low high) + length (drop 1 (further low high)) =
    length-append (shared low high) (drop 1 (further low high)) in
    let q : length (shared low high ++ take 1 (further low high)) ≡ length (shared low high) + length (take 1 (further low high)) =
    length-append (shared low high) (take 1 (further low high)) in
    record { rank = rank; beta = omega arith; others = omega arith }

module _ (d n : ℕ) (rank : IsRank d) (t s : Key × ℤ) (u : Use) (key : IsKey d n t.0) (pair : IsPair t s u) where
  abbrev rows : List (List ℕ)
  rows = own_rows t.0.rows s.0.rows

  sizes_here : AreSizes d (use_by t rows).alpha (use_by t rows).beta (use_by t rows).gamma
  sizes_here =
      alike_sizes d rank rows (own_rows s.0.rows t.0.rows) (all_own (IsRow d) t.0.rows s.0.rows key.each) pair.alike

  pub sizes : AreSizes d u.alpha u.beta u.gamma
  sizes = subst (λ (w : Use). AreSizes d w.alpha w.beta w.gamma) pair.used sizes_here

pub value_none : (d : ℕ) (u : Use) → AreSizes d u.alpha u.beta u.gamma → value (multiple u) ≡ Polynomials.𝟘
value_none d u sizes =
    ap value (multiple-is u) ∙ value_of_product (use_term u) (syz u.alpha u.beta u.gamma)
    ∙ ap (Polynomials.◌⊗◌ (value (use_term u))) (value_of_syzygy d u.alpha u.beta u.gamma sizes)
    ∙ Ring.mul_zero Polynomials polynomial_ring (value (use_term u))

pub pass_keeps_value : PassKeepsValue
pass_keeps_value d n f u rank keys e =
    let w : Found (λ t. IsKey d n t.0) u = found_in (λ t. IsKey d n t.0) u f.terms keys e in
    let size : AreSizes d u.alpha u.beta u.gamma =
    sizes d n rank w.first w.second u w.has_first (is_pair w.first w.second u w.is) in
    record {
      sizes = size;
      same =
          value_of_sum f (multiple u) ∙ ap (Polynomials.◌⊕◌ (value f)) (value_none d u size)
          ∙ polynomial_ring.add_zero (value f);
    }
