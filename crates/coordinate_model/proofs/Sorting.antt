-- A function of sequences that changes sign where neighbours are exchanged, and is zero where they are equal: sorting
-- multiplies it by the sign of the sequence, and it is zero where an entry comes twice.
use Rattle.std.proofs.Common.{◌≡◌, ℕ, zero, suc, ◌+◌, ◌%◌, ◌<◌, ◌≤◌, Bool, true, false, cond, not, ◌||◌, ◌==◌, List}
use Rattle.std.proofs.Common.{[], ◌∷◌, ◌++◌, length, refl, sym, ap, ap₂, ◌∙◌, subst, true≢false, arith, append_assoc}
use Rattle.std.proofs.Common.{eqb-true, Ordering, Less, Equal, Greater, is_gt, nat_cmp, zero-add, suc-add}
use Rattle.std.specs.Prelude.{nat_lt, filter, count_by}
use lib.ListN.{length-append}
use Rattle.std.proofs.Math.Nat.{suc-mod, mod-lt}
use Rattle.std.proofs.lemmas.Bool.{lt-ltb, le-ltb, ltb-false}
use Rattle.std.proofs.lemmas.List.Sums.{length-filter}
use Rattle.std.specs.Ordering.{MatchOrdering}
use Rattle.std.specs.Cmp.{nat_cmp_total, ranked}
use Rattle.coordinate_model.specs.Ring.{Ops, IsCommRing}
use Rattle.coordinate_model.specs.Sequences.{inversions, has, repeats}
use Rattle.coordinate_model.specs.Brackets.{signed}
use Rattle.coordinate_model.specs.Words.{place, ordered}
use Rattle.coordinate_model.proofs.RingLemmas as L
use Rattle.coordinate_model.proofs.Counts.{many, one_if}
use Rattle.coordinate_model.proofs.Orders.{count_ordered, IsLeast}
use Rattle.coordinate_model.proofs.Exponents.{IsAscending, ascending_ordered}

-- ---- numbers

-- whether the number is odd
abbrev odd : ℕ → Bool
odd n = n % 2 == 1

odd-suc : (n : ℕ) → odd (suc n) ≡ not (odd n)
odd-suc n = ap (λ m. m == 1) (suc-mod n 2) ∙ by_rest (n % 2) (mod-lt n {m = 2} (omega arith))
  where
    by_rest : (r : ℕ) → r < 2 → (suc r % 2 == 1) ≡ not (r == 1)
    by_rest zero h = refl
    by_rest (suc zero) h = refl
    by_rest (suc (suc r)) h = absurd (omega arith)

pub gt-lt : (x y : ℕ) → is_gt (nat_cmp x y) ≡ nat_lt y x
gt-lt x y = by_order (nat_cmp x y) (ranked x y (nat_cmp x y) refl)
  where
    by_order : (r : Ordering) → MatchOrdering r (x < y) (x ≡ y) (y < x) → is_gt r ≡ nat_lt y x
    by_order Less h = sym (le-ltb y x (omega arith))
    by_order Equal h = sym (le-ltb y x (omega arith))
    by_order Greater h = sym (lt-ltb y x h)

many-filter : {V : Type 0} (p : V → Bool) (xs : List V) → length (filter p xs) ≡ many p xs
many-filter p [] = refl
many-filter p (x ∷ xs) = step (p x) (many-filter p xs)
  where
    step : (b : Bool) → length (filter p xs) ≡ many p xs
        → length (cond b (x ∷ filter p xs) (filter p xs)) ≡ one_if b + many p xs
    step true e = omega arith
    step false e = omega arith

-- std's count
pub count-many : {V : Type 0} (p : V → Bool) (xs : List V) → count_by p xs ≡ many p xs
count-many p xs = sym (length-filter p xs) ∙ many-filter p xs

-- how many entries are less than x
abbrev less_than : ℕ → List ℕ → ℕ
less_than x w = many (λ y. nat_lt y x) w

-- no entry is less than x where none is less than y, and y is not less than x
none_less : (x y : ℕ) (w : List ℕ) → x ≤ y → IsLeast nat_cmp_total y w → less_than x w ≡ 0
none_less x y [] le h = refl
none_less x y (z ∷ w) le h =
    let above : y ≤ z = ltb-false z y (sym (gt-lt y z) ∙ h.0) in
    let here : one_if (nat_lt z x) ≡ 0 = ap one_if (le-ltb z x (omega arith)) in
    let rest : less_than x w ≡ 0 = none_less x y w le h.1 in
    omega arith

length-many : {V : Type 0} (w : List V) → many (λ v. true) w ≡ length w
length-many [] = refl
length-many (v ∷ w) = let e : many (λ v. true) w ≡ length w = length-many w in omega arith

pub length-ordered : (w : List ℕ) → length (ordered nat_cmp w) ≡ length w
length-ordered w = sym (length-many (ordered nat_cmp w)) ∙ count_ordered nat_cmp_total (λ v. true) w ∙ length-many w

-- ---- sorting

module _ (A : Ops) (R : IsCommRing A) where
  open A use {carrier, 𝟘, neg}

  -- the n-fold negative
  turns : ℕ → carrier → carrier
  turns zero a = a
  turns (suc n) a = neg (turns n a)

  turns-add : (m n : ℕ) (a : carrier) → turns (m + n) a ≡ turns m (turns n a)
  unfolding turns
  turns-add zero n a = ap (λ k. turns k a) (zero-add n)
  turns-add (suc m) n a = ap (λ k. turns k a) (suc-add m n) ∙ ap neg (turns-add m n a)

  neg_if : Bool → carrier → carrier
  neg_if b a = cond b (neg a) a

  turns-odd : (n : ℕ) (a : carrier) → turns n a ≡ neg_if (odd n) a
  unfolding turns neg_if
  turns-odd zero a = refl
  turns-odd (suc n) a = ap neg (turns-odd n a) ∙ again (odd n) ∙ ap (λ b. neg_if b a) (sym (odd-suc n))
    where
      again : (b : Bool) → neg (neg_if b a) ≡ neg_if (not b) a
      again true = L.neg_neg A R a
      again false = refl

  module _ (d : ℕ) (f : List ℕ → carrier)
      (swap : (a b : List ℕ) (x y : ℕ) → length (a ++ x ∷ y ∷ b) ≡ d → f (a ++ x ∷ y ∷ b) ≡ neg (f (a ++ y ∷ x ∷ b)))
      (twin : (a b : List ℕ) (x : ℕ) → length (a ++ x ∷ x ∷ b) ≡ d → f (a ++ x ∷ x ∷ b) ≡ 𝟘) where
    -- one entry further on, of as many in all
    move_on : (a : List ℕ) (x y : ℕ) (w : List ℕ) → length (a ++ x ∷ y ∷ w) ≡ d → length ((a ++ y ∷ []) ++ x ∷ w) ≡ d
    move_on a x y w e =
        let p : length (a ++ x ∷ y ∷ w) ≡ length a + suc (suc (length w)) = length-append a (x ∷ y ∷ w) in
        let q : length ((a ++ y ∷ []) ++ x ∷ w) ≡ length (a ++ y ∷ []) + suc (length w) = length-append (a ++ y ∷ [])
        (x ∷ w) in
        let r : length (a ++ y ∷ []) ≡ length a + 1 = length-append a (y ∷ []) in
        omega arith

    place_sign : (a : List ℕ) (x : ℕ) (w : List ℕ) → IsAscending nat_cmp_total w → length (a ++ x ∷ w) ≡ d
        → f (a ++ x ∷ w) ≡ turns (less_than x w) (f (a ++ place nat_cmp x w))
    unfolding turns
    place_sign a x [] h e = refl
    place_sign a x (y ∷ w) h e = step (nat_lt y x) refl (place_sign (a ++ y ∷ []) x w h.1 (move_on a x y w e))
      where
        step : (b : Bool) → nat_lt y x ≡ b → f ((a ++ y ∷ []) ++ x ∷ w) ≡ turns (less_than x w)
            (f ((a ++ y ∷ []) ++ place nat_cmp x w))
            → f (a ++ x ∷ y ∷ w) ≡ turns (less_than x (y ∷ w)) (f (a ++ place nat_cmp x (y ∷ w)))
        step true i ih =
            swap a w x y e ∙ ap (λ l. neg (f l)) (sym (append_assoc a (y ∷ []) (x ∷ w)))
            ∙ ap neg (ih ∙ ap (λ l. turns (less_than x w) (f l)) (append_assoc a (y ∷ []) (place nat_cmp x w)))
            ∙ ap₂ (λ n l. turns n (f (a ++ l)))
            (let one : one_if (nat_lt y x) ≡ 1 = ap one_if i in let m : suc (less_than x w)
            ≡ less_than x (y ∷ w) = omega arith in m)
            (ap (λ b. cond b (y ∷ place nat_cmp x w) (x ∷ y ∷ w)) (sym (gt-lt x y ∙ i)))
        step false i ih =
            ap₂ (λ n l. turns n (f (a ++ l)))
            (let none : one_if (nat_lt y x) ≡ 0 = ap one_if i in
            let rest : less_than x w ≡ 0 = none_less x y w (ltb-false y x i) h.0 in
            let m : 0 ≡ less_than x (y ∷ w) = omega arith in m)
            (ap (λ b. cond b (y ∷ place nat_cmp x w) (x ∷ y ∷ w)) (sym (gt-lt x y ∙ i)))

    step_in : (a : List ℕ) (x : ℕ) (w : List ℕ) → length (a ++ x ∷ w) ≡ d → length ((a ++ x ∷ []) ++ w) ≡ d
    step_in a x w e = ap length (append_assoc a (x ∷ []) w) ∙ e

    sort_turns : (a w : List ℕ) → length (a ++ w) ≡ d → f (a ++ w) ≡ turns (inversions w) (f (a ++ ordered nat_cmp w))
    unfolding turns
    sort_turns a [] e = refl
    sort_turns a (x ∷ w) e =
        ap f (sym (append_assoc a (x ∷ []) w))
        ∙ sort_turns (a ++ x ∷ []) w (step_in a x w e)
        ∙ ap (λ l. turns (inversions w) (f l)) (append_assoc a (x ∷ []) (ordered nat_cmp w))
        ∙ ap (turns (inversions w)) (place_sign a x (ordered nat_cmp w) (ascending_ordered nat_cmp_total w) same_length)
        ∙ sym (turns-add (inversions w) (less_than x (ordered nat_cmp w)) _)
        ∙ ap (λ n. turns n (f (a ++ ordered nat_cmp (x ∷ w)))) count
      where
        same_length : length (a ++ x ∷ ordered nat_cmp w) ≡ d
        same_length =
            let p : length (a ++ x ∷ w) ≡ length a + suc (length w) = length-append a (x ∷ w) in
            let q : length (a ++ x ∷ ordered nat_cmp w) ≡ length a + suc (length (ordered nat_cmp w)) = length-append a
            (x ∷ ordered nat_cmp w) in
            let r : length (ordered nat_cmp w) ≡ length w = length-ordered w in
            omega arith

        count : inversions w + less_than x (ordered nat_cmp w) ≡ inversions (x ∷ w)
        count =
            let p : less_than x (ordered nat_cmp w) ≡ less_than x w = count_ordered nat_cmp_total (λ y. nat_lt y x) w in
            let q : count_by (λ y. nat_lt y x) w ≡ less_than x w = count-many (λ y. nat_lt y x) w in
            omega arith

    -- sorting multiplies by the sign
    pub sort_sign : (w : List ℕ) → length w ≡ d → f w ≡ signed A w (f (ordered nat_cmp w))
    unfolding neg_if
    sort_sign w e = sort_turns [] w e ∙ turns-odd (inversions w) (f (ordered nat_cmp w))

    has_zero : (a : List ℕ) (x : ℕ) (w : List ℕ) → has w x ≡ true → length (a ++ x ∷ w) ≡ d → f (a ++ x ∷ w) ≡ 𝟘
    has_zero a x [] h e = absurd (true≢false (sym h))
    has_zero a x (y ∷ w) h e = step (x == y) refl h (λ i. has_zero (a ++ y ∷ []) x w i (move_on a x y w e))
      where
        step : (b : Bool) → (x == y) ≡ b → (b || has w x) ≡ true → (has w x ≡ true → f ((a ++ y ∷ []) ++ x ∷ w) ≡ 𝟘)
            → f (a ++ x ∷ y ∷ w) ≡ 𝟘
        step true i g ih =
            let same : y ≡ x = sym (eqb-true x y i) in
            ap (λ z. f (a ++ x ∷ z ∷ w)) same ∙ twin a w x (subst (λ z. length (a ++ x ∷ z ∷ w) ≡ d) same e)
        step false i g ih =
            swap a w x y e ∙ ap (λ l. neg (f l)) (sym (append_assoc a (y ∷ []) (x ∷ w))) ∙ ap neg (ih g)
            ∙ L.neg_zero A R

    repeats_zero_on : (a w : List ℕ) → repeats w ≡ true → length (a ++ w) ≡ d → f (a ++ w) ≡ 𝟘
    repeats_zero_on a [] h e = absurd (true≢false (sym h))
    repeats_zero_on a (x ∷ w) h e = step (has w x) refl h (λ i. repeats_zero_on (a ++ x ∷ []) w i (step_in a x w e))
      where
        step : (b : Bool) → has w x ≡ b → (b || repeats w) ≡ true → (repeats w ≡ true → f ((a ++ x ∷ []) ++ w) ≡ 𝟘)
            → f (a ++ x ∷ w) ≡ 𝟘
        step true i g ih = has_zero a x w i e
        step false i g ih = ap f (sym (append_assoc a (x ∷ []) w)) ∙ ih g

    -- where an entry comes twice the function is zero
    pub repeats_zero : (w : List ℕ) → repeats w ≡ true → length w ≡ d → f w ≡ 𝟘
    repeats_zero w h e = repeats_zero_on [] w h e
