-- Bracket polynomials change sign where two points of a sorted bracket are exchanged.
use Rattle.std.proofs.Common.{◌≡◌, ◌≢◌, ℕ, zero, suc, ◌+◌, ◌%◌, ◌<◌, ◌==◌, Bool, true, false, cond, not, List, [], ◌∷◌, ◌++◌}
use Rattle.std.proofs.Common.{refl, sym, ap, ◌∙◌, arith, nat_cmp, true≢false, subst, eq-eqb, ◌||◌}
use Rattle.std.specs.Prelude.{nat_lt, count_by}
use Rattle.std.proofs.Math.Nat.{suc-mod, mod-lt}
use Rattle.std.proofs.lemmas.Bool.{lt-ltb, le-ltb, ltb-true, ltb-false}
use Rattle.std.specs.Cmp.{nat_cmp_total}
use Rattle.std.specs.List.Sorted.{IsStrictlyIncreasing}
use Rattle.coordinate_model.specs.Sequences.{inversions, is_odd, has, repeats}
use Rattle.coordinate_model.specs.Brackets.{signed}
use Rattle.coordinate_model.specs.Words.{ordered}
use Rattle.coordinate_model.specs.Sums.{single}
use Rattle.coordinate_model.specs.Key.{key_cmp, rows_key}
use Rattle.coordinate_model.specs.BracketPolynomial.{KeySums, BracketPolynomial, add, mul}
use Rattle.coordinate_model.specs.Syzygy.{sorted, sorted_bracket}
use Rattle.coordinate_model.proofs.Counts.{many, one_if}
use Rattle.coordinate_model.proofs.Exponents.{ascending_ordered}
use Rattle.coordinate_model.proofs.Increasing.{IsRising}
use Rattle.coordinate_model.proofs.Keys.{times_in, same_items}
use Rattle.coordinate_model.proofs.KeySumLaws.{add_assoc, add_comm, add_zero, add_neg, mul_add, mul_comm, terms-same}
use Rattle.coordinate_model.proofs.Openings.{mul-is, sorted_bracket-repeats, sorted_bracket-row}
use Rattle.coordinate_model.proofs.Orders.{count_ordered}
use Rattle.coordinate_model.proofs.SortedRows.{sorted_increasing}
use Rattle.coordinate_model.proofs.Sorting.{count-many}
use Rattle.coordinate_model.proofs.StdSort.{ascending_rising, increasing-no_repeat}
use Rattle.bracket_poly.proofs.Totals.{zero_add}

-- ---- negatives

pub zero_left : (f : BracketPolynomial) → mul KeySums.𝟘 f ≡ KeySums.𝟘
zero_left f = mul-is KeySums.𝟘 f ∙ terms-same KeySums.𝟘

pub zero_right : (f : BracketPolynomial) → mul f KeySums.𝟘 ≡ KeySums.𝟘
zero_right f = mul_comm f KeySums.𝟘 ∙ zero_left f

-- what adds up to zero with g is its negative
negative : (f g : BracketPolynomial) → add f g ≡ KeySums.𝟘 → f ≡ KeySums.neg g
negative f g e =
    sym (add_zero f) ∙ ap (add f) (sym (add_neg g)) ∙ sym (add_assoc f g (KeySums.neg g))
    ∙ ap (λ h. add h (KeySums.neg g)) e ∙ zero_add (KeySums.neg g)

pub neg_zero : KeySums.neg KeySums.𝟘 ≡ KeySums.𝟘
neg_zero = sym (negative KeySums.𝟘 KeySums.𝟘 (add_zero KeySums.𝟘))

pub neg_neg : (f : BracketPolynomial) → KeySums.neg (KeySums.neg f) ≡ f
neg_neg f = sym (negative f (KeySums.neg f) (add_neg f))

pub neg_add : (f g : BracketPolynomial) → KeySums.neg (add f g) ≡ add (KeySums.neg f) (KeySums.neg g)
neg_add f g =
    sym (negative (add (KeySums.neg f) (KeySums.neg g)) (add f g)
    (add_assoc (KeySums.neg f) (KeySums.neg g) (add f g)
    ∙ ap (add (KeySums.neg f))
    (ap (add (KeySums.neg g)) (add_comm f g) ∙ sym (add_assoc (KeySums.neg g) g f)
    ∙ ap (λ h. add h f) (add_comm (KeySums.neg g) g ∙ add_neg g) ∙ zero_add f)
    ∙ add_comm (KeySums.neg f) f ∙ add_neg f))

pub mul_neg : (f g : BracketPolynomial) → mul f (KeySums.neg g) ≡ KeySums.neg (mul f g)
mul_neg f g =
    negative (mul f (KeySums.neg g)) (mul f g)
    (sym (mul_add f (KeySums.neg g) g) ∙ ap (mul f) (add_comm (KeySums.neg g) g ∙ add_neg g) ∙ zero_right f)

-- ---- signs

-- whether the number is odd
abbrev odd : ℕ → Bool
odd n = n % 2 == 1

odd-suc : (n : ℕ) → odd (suc n) ≡ not (odd n)
odd-suc n = ap (λ m. m == 1) (suc-mod n 2) ∙ by_rest (n % 2) (mod-lt n {m = 2} (omega arith))
  where
    by_rest : (r : ℕ) → r < 2 → (suc r % 2 == 1) ≡ not (r == 1)
    by_rest zero h = refl
    by_rest (suc zero) h = refl
    by_rest (suc (suc r)) h = absurd (omega arith)

less_in : (p x y : ℕ) (front back : List ℕ)
    → count_by (λ q. nat_lt q p) (front ++ x ∷ y ∷ back) ≡ count_by (λ q. nat_lt q p) (front ++ y ∷ x ∷ back)
less_in p x y front back =
    count-many (λ q. nat_lt q p) (front ++ x ∷ y ∷ back) ∙ each front
    ∙ sym (count-many (λ q. nat_lt q p) (front ++ y ∷ x ∷ back))
  where
    each : (front : List ℕ)
        → many (λ q. nat_lt q p) (front ++ x ∷ y ∷ back) ≡ many (λ q. nat_lt q p) (front ++ y ∷ x ∷ back)
    each [] = omega arith
    each (z ∷ front) = ap (λ n. one_if (nat_lt z p) + n) (each front)

-- one inversion more
turned : (x y : ℕ) (front back : List ℕ) → x < y
    → inversions (front ++ y ∷ x ∷ back) ≡ suc (inversions (front ++ x ∷ y ∷ back))
turned x y [] back l =
    let a : count_by (λ q. nat_lt q y) (x ∷ back) ≡ one_if (nat_lt x y) + many (λ q. nat_lt q y) back =
    count-many (λ q. nat_lt q y) (x ∷ back) in
    let b : count_by (λ q. nat_lt q x) (y ∷ back) ≡ one_if (nat_lt y x) + many (λ q. nat_lt q x) back =
    count-many (λ q. nat_lt q x) (y ∷ back) in
    let c : count_by (λ q. nat_lt q y) back ≡ many (λ q. nat_lt q y) back = count-many (λ q. nat_lt q y) back in
    let f : count_by (λ q. nat_lt q x) back ≡ many (λ q. nat_lt q x) back = count-many (λ q. nat_lt q x) back in
    let g : one_if (nat_lt x y) ≡ 1 = ap one_if (lt-ltb x y l) in
    let h : one_if (nat_lt y x) ≡ 0 = ap one_if (le-ltb y x (omega arith)) in
    omega arith
turned x y (z ∷ front) back l =
    let a : count_by (λ q. nat_lt q z) (front ++ y ∷ x ∷ back) ≡ count_by (λ q. nat_lt q z) (front ++ x ∷ y ∷ back) =
    less_in z y x front back in
    let b : inversions (front ++ y ∷ x ∷ back) ≡ suc (inversions (front ++ x ∷ y ∷ back)) = turned x y front back l in
    omega arith

not_not : (b : Bool) → not (not b) ≡ b
not_not true = refl
not_not false = refl

-- two different neighbours exchanged change the sign
changed : (x y : ℕ) (front back : List ℕ) → x ≢ y
    → is_odd (front ++ y ∷ x ∷ back) ≡ not (is_odd (front ++ x ∷ y ∷ back))
changed x y front back d = step (nat_lt x y) refl
  where
    step : (b : Bool) → nat_lt x y ≡ b → is_odd (front ++ y ∷ x ∷ back) ≡ not (is_odd (front ++ x ∷ y ∷ back))
    step true e =
        ap odd (turned x y front back (ltb-true x y e)) ∙ odd-suc (inversions (front ++ x ∷ y ∷ back))
    step false e =
        let l : y < x = let m = ltb-false x y e in omega (arith, d) in
        sym (not_not (is_odd (front ++ y ∷ x ∷ back)))
        ∙ ap not (sym (ap odd (turned y x front back l) ∙ odd-suc (inversions (front ++ y ∷ x ∷ back))))

-- ---- sorted brackets

same_sorted : (ps qs : List ℕ) → ((i : ℕ) → times_in i ps ≡ times_in i qs) → sorted ps ≡ sorted qs
same_sorted ps qs h =
    same_items (ordered nat_cmp ps) (ordered nat_cmp qs) (rises ps) (rises qs)
    (λ i. count_ordered nat_cmp_total (λ x. i == x) ps ∙ h i ∙ sym (count_ordered nat_cmp_total (λ x. i == x) qs))
  where
    rises : (rs : List ℕ) → IsRising (ordered nat_cmp rs)
    rises rs = ascending_rising (ordered nat_cmp rs) (ascending_ordered nat_cmp_total rs)

once_too : (ps qs : List ℕ) → sorted ps ≡ sorted qs → repeats ps ≡ false → repeats qs ≡ false
once_too ps qs e h =
    increasing-no_repeat qs (subst (λ (w : List ℕ). IsStrictlyIncreasing w) e (sorted_increasing ps h))

swapped_times : (i x y : ℕ) (front back : List ℕ)
    → times_in i (front ++ x ∷ y ∷ back) ≡ times_in i (front ++ y ∷ x ∷ back)
swapped_times i x y [] back = omega arith
swapped_times i x y (z ∷ front) back = ap (λ n. one_if (i == z) + n) (swapped_times i x y front back)

-- sequences with the same points and other signs
opposite : (ps qs : List ℕ) → sorted ps ≡ sorted qs → (repeats ps ≡ false → is_odd ps ≡ not (is_odd qs))
    → sorted_bracket ps ≡ KeySums.neg (sorted_bracket qs)
opposite ps qs e odds = step (repeats ps) (repeats qs) refl refl
  where
    by_sign : (b c : Bool) → b ≡ not c
        → cond b (KeySums.neg (single key_cmp (rows_key (sorted qs ∷ [])))) (single key_cmp (rows_key (sorted qs ∷ [])))
        ≡ KeySums.neg (cond c (KeySums.neg (single key_cmp (rows_key (sorted qs ∷ [])))) (single key_cmp (rows_key (sorted qs ∷ []))))
    by_sign true true g = absurd (true≢false g)
    by_sign true false g = refl
    by_sign false true g = sym (neg_neg (single key_cmp (rows_key (sorted qs ∷ []))))
    by_sign false false g = absurd (true≢false (sym g))

    step : (a b : Bool) → repeats ps ≡ a → repeats qs ≡ b → sorted_bracket ps ≡ KeySums.neg (sorted_bracket qs)
    step true true p q =
        sorted_bracket-repeats ps p ∙ sym (ap KeySums.neg (sorted_bracket-repeats qs q) ∙ neg_zero)
    step true false p q = absurd (true≢false (sym p ∙ once_too qs ps (sym e) q))
    step false true p q = absurd (true≢false (sym q ∙ once_too ps qs e p))
    step false false p q =
        sorted_bracket-row ps p
        ∙ ap (λ (r : List ℕ). signed KeySums ps (single key_cmp (rows_key (r ∷ [])))) e
        ∙ by_sign (is_odd ps) (is_odd qs) (odds p) ∙ ap KeySums.neg (sym (sorted_bracket-row qs q))

-- ---- points that come twice

pub has_there : (x : ℕ) (front back : List ℕ) → has (front ++ x ∷ back) x ≡ true
has_there x [] back = ap (λ b. b || has back x) (eq-eqb x x refl)
has_there x (z ∷ front) back = ap (λ b. (x == z) || b) (has_there x front back) ∙ last (x == z)
  where
    last : (b : Bool) → (b || true) ≡ true
    last true = refl
    last false = refl

-- a point twice in a row
pub twice_there : (x : ℕ) (front back : List ℕ) → repeats (front ++ x ∷ x ∷ back) ≡ true
twice_there x [] back = ap (λ b. (b || has back x) || repeats (x ∷ back)) (eq-eqb x x refl)
twice_there x (z ∷ front) back = ap (λ b. has (front ++ x ∷ x ∷ back) z || b) (twice_there x front back) ∙ last _
  where
    last : (b : Bool) → (b || true) ≡ true
    last true = refl
    last false = refl

-- two neighbours exchanged
pub swapped : (front : List ℕ) (x y : ℕ) (back : List ℕ)
    → sorted_bracket (front ++ x ∷ y ∷ back) ≡ KeySums.neg (sorted_bracket (front ++ y ∷ x ∷ back))
swapped front x y back =
    opposite (front ++ x ∷ y ∷ back) (front ++ y ∷ x ∷ back)
    (same_sorted (front ++ x ∷ y ∷ back) (front ++ y ∷ x ∷ back) (λ i. swapped_times i x y front back))
    (λ once. changed y x front back
    (λ s. true≢false (sym (ap (λ z. repeats (front ++ x ∷ z ∷ back)) s ∙ twice_there x front back) ∙ once)))
