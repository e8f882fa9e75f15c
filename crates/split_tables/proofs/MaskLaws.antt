-- The entries of a list at the places of a mask, one after the other.
use Rattle.std.proofs.Common.{◌≡◌, ℕ, zero, suc, ◌≤◌, Bool, true, false, cond, List, [], ◌∷◌, drop, filter, length, refl}
use Rattle.std.proofs.Common.{sym, ap, ◌∙◌, arith}
use Rattle.std.specs.Prelude.{slice_get, Option, Some, None}
use Rattle.std.specs.List.{cons_option}
use Rattle.coordinate_model.specs.Sequences.{range_from, range, at_places}
use Rattle.split_tables.specs.Masks.{has_place, places_of}

-- the entries whose places pass the test, where the first entry has the place i
abbrev pub picked_from : {A : Type 0} → (ℕ → Bool) → ℕ → List A → List A
picked_from test i [] = []
picked_from test i (x ∷ xs) = cond (test i) (x ∷ picked_from test (suc i) xs) (picked_from test (suc i) xs)

drop-entry : {A : Type 0} (all : List A) (i : ℕ) (x : A) (xs : List A) → drop i all ≡ x ∷ xs
    → (slice_get all i ≡ Some x) × (drop (suc i) all ≡ xs)
drop-entry [] zero x xs e = absurd cc
drop-entry [] (suc i) x xs e = absurd cc
drop-entry (y ∷ ys) zero x xs e = (cc, cc)
drop-entry (y ∷ ys) (suc i) x xs e = drop-entry ys i x xs e

drop-none : {A : Type 0} (all : List A) (i : ℕ) → drop i all ≡ []
    → (slice_get all i ≡ None) × (drop (suc i) all ≡ [])
drop-none [] zero e = (refl, refl)
drop-none [] (suc i) e = (refl, refl)
drop-none (y ∷ ys) zero e = absurd cc
drop-none (y ∷ ys) (suc i) e = drop-none ys i e

entry : {A : Type 0} (all : List A) (test : Bool) (i : ℕ) (is : List ℕ) (o : Option A) → slice_get all i ≡ o
    → at_places all (cond test (i ∷ is) is) ≡ cond test (cons_option o (at_places all is)) (at_places all is)
entry all true i is o e = ap (λ w. cons_option w (at_places all is)) e
entry all false i is o e = refl

either : {A : Type 0} (test : Bool) (xs : List A) → cond test xs xs ≡ xs
either true xs = refl
either false xs = refl

picked-places : {A : Type 0} (all : List A) (test : ℕ → Bool) (i k : ℕ) (xs : List A) → drop i all ≡ xs → length xs ≤ k
    → at_places all (filter test (range_from i k)) ≡ picked_from test i xs
picked-places all test i zero [] e h = refl
picked-places all test i zero (x ∷ xs) e h = absurd (omega arith)
picked-places all test i (suc k) [] e h =
    let none = drop-none all i e in
    entry all (test i) i (filter test (range_from (suc i) k)) None none.0
    ∙ either (test i) (at_places all (filter test (range_from (suc i) k)))
    ∙ picked-places all test (suc i) k [] none.1 (omega arith)
picked-places all test i (suc k) (x ∷ xs) e h =
    let found = drop-entry all i x xs e in
    entry all (test i) i (filter test (range_from (suc i) k)) (Some x) found.0
    ∙ ap (λ w. cond (test i) (x ∷ w) w) (picked-places all test (suc i) k xs found.1 (omega arith))

places-are : (mask k : ℕ) → k ≡ 8 → places_of mask ≡ filter (has_place mask) (range k)
unfolding places_of
places-are mask k e = ap (λ n. filter (has_place mask) (range n)) (sym e)

-- the entries of a list of at most eight at the places of a mask
pub picked-is : {A : Type 0} (xs : List A) (mask : ℕ) → length xs ≤ 8
    → at_places xs (places_of mask) ≡ picked_from (has_place mask) 0 xs
picked-is xs mask h = by 8 refl
  where
    by : (k : ℕ) → k ≡ 8 → at_places xs (places_of mask) ≡ picked_from (has_place mask) 0 xs
    by k e = ap (at_places xs) (places-are mask k e) ∙ picked-places xs (has_place mask) 0 k xs refl (omega arith)
