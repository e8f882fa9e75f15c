-- What std's sort gives is the sorted sequence; and no point comes twice exactly where that strictly increases.
use Rattle.std.proofs.Common.{◌≡◌, ℕ, ◌+◌, ◌<◌, ◌≤◌, ◌==◌, ◌||◌, Bool, true, false, List, [], ◌∷◌, refl, sym, ap, ◌∙◌}
use Rattle.std.proofs.Common.{arith, nat_cmp, true≢false, eqb-true, eq-eqb, ne_eqb}
use Rattle.std.proofs.lemmas.Bool.{ltb-false}
use Rattle.std.proofs.lemmas.List.Sorted.{sum_by-IsPermutation}
use Rattle.std.proofs.lemmas.List.Sums.{sum_by-cons}
use Rattle.std.specs.List.{AllByRecursion, sum_by}
use Rattle.std.specs.List.Sorted.{IsPermutation, IsNonDecreasing, IsStrictlyIncreasing}
use Rattle.std.specs.Cmp.{nat_cmp_total}
use Rattle.coordinate_model.specs.Sequences.{has, repeats}
use Rattle.coordinate_model.specs.Words.{ordered}
use Rattle.coordinate_model.specs.Syzygy.{sorted}
use Rattle.coordinate_model.proofs.Counts.{one_if}
use Rattle.coordinate_model.proofs.Orders.{IsLeast, count_ordered}
use Rattle.coordinate_model.proofs.Exponents.{IsAscending, ascending_ordered}
use Rattle.coordinate_model.proofs.Sorting.{gt-lt}
use Rattle.coordinate_model.proofs.Increasing.{IsIncreasing, IsRising, increasing_all, rising_all}
use Rattle.coordinate_model.proofs.Keys.{times_in, same_items}

least_rising : (x : ℕ) (xs : List ℕ) → IsLeast nat_cmp_total x xs → AllByRecursion (λ q. x ≤ q) xs
least_rising x [] h = tt
least_rising x (y ∷ ys) h = (ltb-false y x (sym (gt-lt x y) ∙ h.0), least_rising x ys h.1)

pub ascending_rising : (xs : List ℕ) → IsAscending nat_cmp_total xs → IsRising xs
ascending_rising [] h = tt
ascending_rising (x ∷ xs) h = (least_rising x xs h.0, ascending_rising xs h.1)

many-sum_by : (i : ℕ) (xs : List ℕ) → times_in i xs ≡ sum_by (λ x. one_if (i == x)) xs
many-sum_by i [] = refl
many-sum_by i (x ∷ xs) =
    ap (λ n. one_if (i == x) + n) (many-sum_by i xs) ∙ sym (sum_by-cons (λ x. one_if (i == x)) x xs)

pub sorted-is : (xs ys : List ℕ) → IsPermutation xs ys → IsNonDecreasing ys → ys ≡ sorted xs
sorted-is xs ys p h =
    same_items ys (ordered nat_cmp xs) (rising_all ys h)
    (ascending_rising (ordered nat_cmp xs) (ascending_ordered nat_cmp_total xs))
    (λ i. many-sum_by i ys ∙ sum_by-IsPermutation (λ x. one_if (i == x)) xs ys p ∙ sym (many-sum_by i xs)
    ∙ sym (count_ordered nat_cmp_total (λ x. i == x) xs))

-- ---- repeats

no_more : (i x : ℕ) (xs : List ℕ) → i ≡ x → AllByRecursion (λ q. x < q) xs → times_in i xs ≡ 0
no_more i x [] e h = refl
no_more i x (y ∷ ys) e h =
    let lt : x < y = h.0 in
    let here : one_if (i == y) ≡ 0 = ap one_if (ne_eqb i y (omega arith)) in
    let rest : times_in i ys ≡ 0 = no_more i x ys e h.1 in
    omega arith

once : (i : ℕ) (xs : List ℕ) → IsIncreasing xs → times_in i xs ≤ 1
once i [] h = omega arith
once i (x ∷ xs) h = step (i == x) refl (once i xs h.1)
  where
    step : (b : Bool) → (i == x) ≡ b → times_in i xs ≤ 1 → one_if (i == x) + times_in i xs ≤ 1
    step true e l =
        let here : one_if (i == x) ≡ 1 = ap one_if e in
        let rest : times_in i xs ≡ 0 = no_more i x xs (eqb-true i x e) h.0 in
        omega arith
    step false e l = let here : one_if (i == x) ≡ 0 = ap one_if e in omega arith

has_times : (x : ℕ) (xs : List ℕ) → has xs x ≡ true → 1 ≤ times_in x xs
has_times x [] h = absurd (true≢false (sym h))
has_times x (y ∷ ys) h = step (x == y) refl h (has_times x ys)
  where
    step : (b : Bool) → (x == y) ≡ b → (b || has ys x) ≡ true → (has ys x ≡ true → 1 ≤ times_in x ys)
        → 1 ≤ one_if (x == y) + times_in x ys
    step true e i ih = let here : one_if (x == y) ≡ 1 = ap one_if e in omega arith
    step false e i ih = let rest : 1 ≤ times_in x ys = ih i in omega arith

none_twice : (xs : List ℕ) → ((i : ℕ) → times_in i xs ≤ 1) → repeats xs ≡ false
none_twice [] h = refl
none_twice (x ∷ xs) h = step (has xs x) refl (none_twice xs (λ i. let l = h i in omega arith))
  where
    step : (b : Bool) → has xs x ≡ b → repeats xs ≡ false → (b || repeats xs) ≡ false
    step true e ih =
        let l : one_if (x == x) + times_in x xs ≤ 1 = h x in
        let here : one_if (x == x) ≡ 1 = ap one_if (eq-eqb x x refl) in
        let more : 1 ≤ times_in x xs = has_times x xs e in
        absurd (omega arith)
    step false e ih = ih

-- no point comes twice in points that strictly increase
pub increasing-repeats : (ps : List ℕ) → IsStrictlyIncreasing ps → repeats ps ≡ false
increasing-repeats ps h = none_twice ps (λ i. once i ps (increasing_all ps h))

-- where the sorted sequence strictly increases no point comes twice; the other way is `sorted_increasing`
pub increasing-no_repeat : (ps : List ℕ) → IsStrictlyIncreasing (sorted ps) → repeats ps ≡ false
increasing-no_repeat ps h =
    none_twice ps (λ i. let l : times_in i (ordered nat_cmp ps) ≤ 1 = once i (ordered nat_cmp ps)
    (increasing_all _ h) in
    let e : times_in i (ordered nat_cmp ps) ≡ times_in i ps = count_ordered nat_cmp_total (λ x. i == x) ps in
    omega arith)
