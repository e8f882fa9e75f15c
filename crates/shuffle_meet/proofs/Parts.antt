-- The points of an extensor at some of its places, as the loop that takes them keeps them.
use Rattle.std.specs.Prelude.{◌≡◌, ℕ, zero, suc, ◌+◌, ◌-◌, ◌<◌, ◌≤◌, ◌/◌, ◌%◌, ◌^◌, ◌==◌, Bool, true, false, cond, List, [], ◌∷◌, ◌++◌}
use Rattle.std.specs.Prelude.{filter, filter_map, slice_get, length, take}
use Rattle.std.specs.List.{AllByRecursion, cons_option}
use Rattle.std.specs.List.Sorted.{IsStrictlyIncreasing}
use Rattle.std.proofs.Common.{refl, sym, ap, ap₂, subst, ◌∙◌, arith, add-zero, zero-add, append-nil, eq-eqb, eqb-true, get_or, drop, set, replicate, bit_and, take_all}
use Rattle.std.proofs.lemmas.List.{length-take-le, take_more, length-set, take_more_set, drop-set-lt, drop-drop, drop-replicate}
use Rattle.std.proofs.lemmas.Nat.{and_mask}
use Rattle.coordinate_model.specs.Sequences.{range_from, at_places}
use Rattle.coordinate_model.proofs.Increasing.{IsIncreasing, increasing_all, increasing_next}
use Rattle.bracket_terms.specs.Extensors.{IsExtensor}
use Rattle.split_tables.specs.Masks.{places_of}

-- whether the mask has the bit
abbrev pub marked : ℕ → ℕ → Bool
marked mask i = mask / 2 ^ i % 2 == 1

-- the entries of the list, of which the first stands at the place n, whose places pass the test
abbrev pub kept : (ℕ → Bool) → ℕ → List ℕ → List ℕ
kept test n [] = []
kept test n (x ∷ xs) = cond (test n) (x ∷ kept test (suc n) xs) (kept test (suc n) xs)

-- one entry more
pub kept-more : (test : ℕ → Bool) (n : ℕ) (xs : List ℕ) (x : ℕ)
    → kept test n (xs ++ x ∷ []) ≡ kept test n xs ++ cond (test (n + length xs)) (x ∷ []) []
kept-more test n [] x = ap (λ m. cond (test m) (x ∷ []) []) (sym (add-zero n))
kept-more test n (y ∷ xs) x =
    step (test n) (kept-more test (suc n) xs x ∙ ap (λ m. kept test (suc n) xs ++ cond (test m) (x ∷ []) []) next)
  where
    next : suc n + length xs ≡ n + suc (length xs)
    next = omega arith

    last : List ℕ
    last = cond (test (n + suc (length xs))) (x ∷ []) []

    step : (b : Bool) → kept test (suc n) (xs ++ x ∷ []) ≡ kept test (suc n) xs ++ last
        → cond b (y ∷ kept test (suc n) (xs ++ x ∷ [])) (kept test (suc n) (xs ++ x ∷ []))
        ≡ cond b (y ∷ kept test (suc n) xs) (kept test (suc n) xs) ++ last
    step true ih = ap (λ ys. y ∷ ys) ih
    step false ih = ih

all_kept : (P : ℕ → Type 0) (test : ℕ → Bool) (n : ℕ) (xs : List ℕ) → AllByRecursion P xs
    → AllByRecursion P (kept test n xs)
all_kept P test n [] h = tt
all_kept P test n (x ∷ xs) h = step (test n) (all_kept P test (suc n) xs h.1)
  where
    step : (b : Bool) → AllByRecursion P (kept test (suc n) xs)
        → AllByRecursion P (cond b (x ∷ kept test (suc n) xs) (kept test (suc n) xs))
    step true i = (h.0, i)
    step false i = i

increasing_kept : (test : ℕ → Bool) (n : ℕ) (xs : List ℕ) → IsIncreasing xs → IsIncreasing (kept test n xs)
increasing_kept test n [] h = tt
increasing_kept test n (x ∷ xs) h = step (test n) (increasing_kept test (suc n) xs h.1)
  where
    step : (b : Bool) → IsIncreasing (kept test (suc n) xs)
        → IsIncreasing (cond b (x ∷ kept test (suc n) xs) (kept test (suc n) xs))
    step true i = (all_kept (λ q. x < q) test (suc n) xs h.0, i)
    step false i = i

-- what is kept of points that strictly increase does so too
pub kept_increasing : (test : ℕ → Bool) (n : ℕ) (xs : List ℕ) → IsStrictlyIncreasing xs
    → IsStrictlyIncreasing (kept test n xs)
kept_increasing test n xs h = increasing_next (kept test n xs) (increasing_kept test n xs (increasing_all xs h))

-- an entry at the first place of a list, and at later ones
next_entry : (test : ℕ → Bool) (all : List ℕ) (n m : ℕ)
    → filter_map (slice_get all) (filter test (range_from n (suc m)))
    ≡ cond (test n) (cons_option (slice_get all n) (filter_map (slice_get all) (filter test (range_from (suc n) m))))
    (filter_map (slice_get all) (filter test (range_from (suc n) m)))
next_entry test all n m = step (test n)
  where
    step : (b : Bool) → filter_map (slice_get all)
        (cond b (n ∷ filter test (range_from (suc n) m)) (filter test (range_from (suc n) m)))
        ≡ cond b (cons_option (slice_get all n) (filter_map (slice_get all) (filter test (range_from (suc n) m))))
        (filter_map (slice_get all) (filter test (range_from (suc n) m)))
    step true = refl
    step false = refl

same_either : (b : Bool) (xs : List ℕ) → cond b xs xs ≡ xs
same_either true xs = refl
same_either false xs = refl

-- the entries at places from n on
at_places_from : (test : ℕ → Bool) (all xs : List ℕ) (n m : ℕ)
    → ((i : ℕ) → slice_get all (n + i) ≡ slice_get xs i) → length xs ≤ m
    → filter_map (slice_get all) (filter test (range_from n m)) ≡ kept test n xs
at_places_from test all [] n zero e h = refl
at_places_from test all (x ∷ xs) n zero e h = absurd (omega arith)
at_places_from test all [] n (suc m) e h =
    next_entry test all n m
    ∙ ap₂ (λ o ys. cond (test n) (cons_option o ys) ys) (ap (slice_get all) (sym (add-zero n)) ∙ e 0)
    (at_places_from test all [] (suc n) m (λ i. ap (slice_get all) (later n i) ∙ e (suc i)) (omega arith))
    ∙ same_either (test n) []
  where
    later : (n i : ℕ) → suc n + i ≡ n + suc i
    later n i = omega arith
at_places_from test all (x ∷ xs) n (suc m) e h =
    next_entry test all n m
    ∙ ap₂ (λ o ys. cond (test n) (cons_option o ys) ys) (ap (slice_get all) (sym (add-zero n)) ∙ e 0)
    (at_places_from test all xs (suc n) m (λ i. ap (slice_get all) (later n i) ∙ e (suc i)) (omega arith))
  where
    later : (n i : ℕ) → suc n + i ≡ n + suc i
    later n i = omega arith

-- the entries at the places of a mask
pub at_places_of : (mask : ℕ) (xs : List ℕ) → length xs ≤ 8 → at_places xs (places_of mask) ≡ kept (marked mask) 0 xs
unfolding places_of
at_places_of mask xs h = at_places_from (marked mask) xs xs 0 8 (λ i. ap (slice_get xs) (zero-add i)) h

-- ---- the loop

-- the entries of the first i places, of those of the mask, stand in front of the unused places
pub record IsFront (mask : ℕ) (xs : List ℕ) (i size : ℕ) (points : List ℕ) : Type 0 where
  pub count : size ≤ i
  pub four : length points ≡ 4
  pub front : take size points ≡ kept (marked mask) 0 (take i xs)
  pub unused : drop size points ≡ replicate (4 - size) 0

kept_next : (test : ℕ → Bool) (xs : List ℕ) (i : ℕ) (b : Bool) → i < length xs → test i ≡ b
    → kept test 0 (take (i + 1) xs) ≡ kept test 0 (take i xs) ++ cond b (get_or xs i 0 ∷ []) []
kept_next test xs i b h e =
    let long : length (take i xs) ≡ i = length-take-le i xs (omega arith) in
    ap (kept test 0) (take_more xs i 0 h) ∙ kept-more test 0 (take i xs) (get_or xs i 0)
    ∙ ap (λ c. kept test 0 (take i xs) ++ cond c (get_or xs i 0 ∷ []) [])
    (ap test (zero-add (length (take i xs)) ∙ long) ∙ e)

-- one place more, of the mask or not
pub front_taken : (mask : ℕ) (xs : List ℕ) (i size : ℕ) (points : List ℕ) → IsFront mask xs i size points
    → i < length xs → length xs ≤ 4 → marked mask i ≡ true
    → IsFront mask xs (i + 1) (size + 1) (set points size (get_or xs i 0))
front_taken mask xs i size points f h few e =
    let count : size ≤ i = f.count in
    let four : length points ≡ 4 = f.four in
    let room : size < length points = omega arith in
    record {
      count = omega arith;
      four = length-set points size (get_or xs i 0) ∙ four;
      front =
          take_more_set points size (get_or xs i 0) room ∙ ap (λ ys. ys ++ get_or xs i 0 ∷ []) f.front
          ∙ sym (kept_next (marked mask) xs i true h e);
      unused =
          drop-set-lt (size + 1) points size (get_or xs i 0) (omega arith) ∙ sym (drop-drop 1 size points)
          ∙ ap (drop 1) f.unused ∙ drop-replicate 1 (4 - size) 0 ∙ ap (λ n. replicate n 0) (fewer size);
    }
  where
    fewer : (size : ℕ) → 4 - size - 1 ≡ 4 - (size + 1)
    fewer size = omega arith

pub front_left : (mask : ℕ) (xs : List ℕ) (i size : ℕ) (points : List ℕ) → IsFront mask xs i size points
    → i < length xs → marked mask i ≡ false → IsFront mask xs (i + 1) size points
front_left mask xs i size points f h e =
    let count : size ≤ i = f.count in
    record {
      count = omega arith;
      four = f.four;
      front =
          f.front ∙ sym (append-nil (kept (marked mask) 0 (take i xs)))
          ∙ sym (kept_next (marked mask) xs i false h e);
      unused = f.unused;
    }

-- the bit of the code
pub marked_where : (mask i : ℕ) → bit_and (mask / 2 ^ i) 1 ≡ 1 → marked mask i ≡ true
marked_where mask i e = eq-eqb (mask / 2 ^ i % 2) 1 (sym (and_mask (mask / 2 ^ i) 1) ∙ e)

pub unmarked_where : (mask i : ℕ) → (bit_and (mask / 2 ^ i) 1 ≡ 1 → ⊥) → marked mask i ≡ false
unmarked_where mask i h = step (marked mask i) refl
  where
    step : (b : Bool) → marked mask i ≡ b → marked mask i ≡ false
    step true e = absurd (h (and_mask (mask / 2 ^ i) 1 ∙ eqb-true (mask / 2 ^ i % 2) 1 e))
    step false e = e

-- at the end all places have been seen
pub front_all : (mask : ℕ) (xs : List ℕ) (i size : ℕ) (points : List ℕ) → IsFront mask xs i size points
    → length xs ≤ i → length xs ≤ 4 → take size points ≡ at_places xs (places_of mask)
front_all mask xs i size points f h few =
    f.front ∙ ap (kept (marked mask) 0) (take_all i xs h) ∙ sym (at_places_of mask xs (omega arith))

pub extensor_of : (mask : ℕ) (xs : List ℕ) (i size : ℕ) (points : List ℕ) → IsFront mask xs i size points
    → IsStrictlyIncreasing xs → length xs ≤ i → i ≤ 4 → IsExtensor size points
extensor_of mask xs i size points f s end few =
    let count : size ≤ i = f.count in
    let front : take size points ≡ kept (marked mask) 0 xs =
    f.front ∙ ap (kept (marked mask) 0) (take_all i xs end) in
    record {
      few = omega arith;
      four = f.four;
      increasing = subst IsStrictlyIncreasing (sym front) (kept_increasing (marked mask) 0 xs s);
      unused = f.unused;
    }
