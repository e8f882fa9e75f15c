-- Rows that strictly increase: their sign, and how a smaller point makes a smaller row.
use Rattle.std.proofs.Common.{◌≡◌, ℕ, zero, suc, ◌<◌, ◌≤◌, ◌==◌, ◌%◌, Bool, true, false, cond, List, [], ◌∷◌, ◌++◌, length}
use Rattle.std.proofs.Common.{drop, get_or, subst, refl, sym, ap, ◌∙◌, arith, inl, inr, Less, is_gt, nat_cmp}
use Rattle.std.proofs.lemmas.Bool.{le-ltb, ltb-true, ltb-false}
use Rattle.std.specs.Prelude.{nat_lt, count_by}
use Rattle.std.specs.List.{AllByRecursion}
use Rattle.std.specs.Cmp.{nat_cmp_total, nat_cmp_is}
use Rattle.std.specs.Cmp.Lexicographic.{slice_cmp}
use Rattle.std.specs.FinMap.{nat_cmp-IsAntisymmetric}
use Rattle.std.specs.Ordering.{ordering_then}
use Rattle.coordinate_model.specs.Sequences.{inversions, is_odd, range_from}
use Rattle.coordinate_model.specs.Words.{place, ordered}
use Rattle.coordinate_model.specs.Key.{row_cmp}
use Rattle.coordinate_model.specs.Syzygy.{sorted}
use Rattle.coordinate_model.proofs.Counts.{many, one_if}
use Rattle.coordinate_model.proofs.Exponents.{IsAscending}
use Rattle.coordinate_model.proofs.Increasing.{IsIncreasing}
use Rattle.coordinate_model.proofs.Orders.{IsLeast}
use Rattle.coordinate_model.proofs.Sorting.{gt-lt, count-many}
use Rattle.coordinate_model.proofs.WordLemmas.{ordered_ascending}
use Rattle.tableau_order.proofs.MergedRows.{keeps}
use Rattle.syzygies.proofs.Splits.{HasBelow}

-- ---- rows that increase

none_below : (p : ℕ) (ps : List ℕ) → AllByRecursion (λ q. p < q) ps → many (λ q. nat_lt q p) ps ≡ 0
none_below p [] h = refl
none_below p (q ∷ ps) h =
    let l : p < q = h.0 in
    let here : one_if (nat_lt q p) ≡ 0 = ap one_if (le-ltb q p (omega arith)) in
    let rest : many (λ q. nat_lt q p) ps ≡ 0 = none_below p ps h.1 in
    omega arith

no_inversion : (ps : List ℕ) → IsIncreasing ps → inversions ps ≡ 0
no_inversion [] h = refl
no_inversion (p ∷ ps) h =
    let here : count_by (λ q. nat_lt q p) ps ≡ 0 = count-many (λ q. nat_lt q p) ps ∙ none_below p ps h.0 in
    let rest : inversions ps ≡ 0 = no_inversion ps h.1 in
    omega arith

-- the sign of points that increase is +1
pub increasing_even : (ps : List ℕ) → IsIncreasing ps → is_odd ps ≡ false
increasing_even ps h = ap (λ n. n % 2 == 1) (no_inversion ps h)

range_above : (p m n : ℕ) → p < m → AllByRecursion (λ q. p < q) (range_from m n)
range_above p m zero l = tt
range_above p m (suc n) l = (l, range_above p (suc m) n (omega arith))

pub range_increases : (m n : ℕ) → IsIncreasing (range_from m n)
range_increases m zero = tt
range_increases m (suc n) = (range_above m (suc m) n (omega arith), range_increases (suc m) n)

least : (p : ℕ) (ps : List ℕ) → AllByRecursion (λ q. p < q) ps → IsLeast nat_cmp_total p ps
least p [] h = tt
least p (q ∷ ps) h =
    let l : p < q = h.0 in
    (gt-lt p q ∙ le-ltb q p (omega arith), least p ps h.1)

ascends : (ps : List ℕ) → IsIncreasing ps → IsAscending nat_cmp_total ps
ascends [] h = tt
ascends (p ∷ ps) h = (least p ps h.0, ascends ps h.1)

-- points that increase are sorted
pub increasing_sorted : (ps : List ℕ) → IsIncreasing ps → sorted ps ≡ ps
increasing_sorted ps h = ordered_ascending nat_cmp nat_cmp_total ps (ascends ps h)

all_drop : (P : ℕ → Type 0) (k : ℕ) (ps : List ℕ) → AllByRecursion P ps → AllByRecursion P (drop k ps)
all_drop P zero ps h = h
all_drop P (suc k) [] h = tt
all_drop P (suc k) (p ∷ ps) h = all_drop P k ps h.1

pub increasing_drop : (k : ℕ) (ps : List ℕ) → IsIncreasing ps → IsIncreasing (drop k ps)
increasing_drop zero ps h = h
increasing_drop (suc k) [] h = tt
increasing_drop (suc k) (p ∷ ps) h = increasing_drop k ps h.1

-- of points that increase each of the first k is less than the next one
pub before_next : (k : ℕ) (ps : List ℕ) (y : ℕ) (ys : List ℕ) → IsIncreasing ps → drop k ps ≡ y ∷ ys → (i : ℕ) → i < k
    → get_or ps i 0 < y
before_next zero ps y ys h e i l = absurd (omega arith)
before_next (suc k) [] y ys h e i l = cc
before_next (suc k) (p ∷ ps) y ys h e zero l =
    (subst (AllByRecursion (λ q. p < q)) e (all_drop (λ q. p < q) k ps h.0)).0
before_next (suc k) (p ∷ ps) y ys h e (suc i) l = before_next k ps y ys h.1 e i (omega arith)

-- ---- smaller rows

-- the first point is less than y
abbrev BeginsBelow : ℕ → List ℕ → Type 0
BeginsBelow y [] = ⊥
BeginsBelow y (x ∷ xs) = x < y

place_below : (y x : ℕ) (xs : List ℕ) → x < y → BeginsBelow y (place nat_cmp x xs)
place_below y x [] l = l
place_below y x (z ∷ xs) l = step (is_gt (nat_cmp x z)) (sym (gt-lt x z))
  where
    step : (b : Bool) → nat_lt z x ≡ b → BeginsBelow y (cond b (z ∷ place nat_cmp x xs) (x ∷ z ∷ xs))
    step true e = let m : z < x = ltb-true z x e in omega arith
    step false e = l

place_behind : (y x : ℕ) (xs : List ℕ) → BeginsBelow y xs → BeginsBelow y (place nat_cmp x xs)
place_behind y x [] l = absurd l
place_behind y x (z ∷ xs) l = step (is_gt (nat_cmp x z)) (sym (gt-lt x z))
  where
    step : (b : Bool) → nat_lt z x ≡ b → BeginsBelow y (cond b (z ∷ place nat_cmp x xs) (x ∷ z ∷ xs))
    step true e = l
    step false e = let m : x ≤ z = ltb-false z x e in let k : z < y = l in omega arith

sorted_below : (y : ℕ) (xs : List ℕ) → HasBelow y xs → BeginsBelow y (ordered nat_cmp xs)
sorted_below y [] h = absurd h
sorted_below y (x ∷ xs) h =
    elim h [
      | inl l ↦ place_below y x (ordered nat_cmp xs) l
      | inr r ↦ place_behind y x (ordered nat_cmp xs) (sorted_below y xs r)
    ]

first_less : (y : ℕ) (xs ys : List ℕ) → BeginsBelow y xs → slice_cmp nat_cmp xs (y ∷ ys) ≡ Less
first_less y [] ys l = absurd l
first_less y (x ∷ xs) ys l = ap (λ r. ordering_then r (slice_cmp nat_cmp xs ys)) (sym (nat_cmp_is x y Less l))

-- points with α before them make a smaller row where one of them is less than the first of as many others
pub smaller_row : (α xs : List ℕ) (y : ℕ) (ys : List ℕ) → IsIncreasing (α ++ y ∷ ys) → IsIncreasing (y ∷ ys)
    → length xs ≡ length (y ∷ ys)
    → HasBelow y xs
    → row_cmp (sorted (α ++ xs)) (α ++ y ∷ ys) ≡ Less
smaller_row α xs y ys all rest e h =
    ap (row_cmp (sorted (α ++ xs))) (sym (increasing_sorted (α ++ y ∷ ys) all))
    ∙ keeps nat_cmp nat_cmp_total nat_cmp-IsAntisymmetric α xs (y ∷ ys) e
    ∙ ap (row_cmp (sorted xs)) (increasing_sorted (y ∷ ys) rest) ∙ first_less y (sorted xs) ys (sorted_below y xs h)
