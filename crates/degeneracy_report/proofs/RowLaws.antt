-- Points that increase, and fresh ones behind them, are a row as they stand.
use Rattle.std.proofs.Common.{◌≡◌, ℕ, zero, suc, ◌+◌, ◌<◌, ◌≤◌, ◌==◌, ◌%◌, false, List, [], ◌∷◌, ◌++◌, take, refl, ap, ap₂, ◌∙◌, arith}
use Rattle.std.specs.Prelude.{nat_lt, count_by}
use Rattle.std.specs.Cmp.{nat_cmp_total}
use Rattle.std.specs.List.{AllByRecursion}
use Rattle.std.specs.List.Sorted.{IsStrictlyIncreasing}
use Rattle.std.specs.Ordering.{nat_cmp}
use Rattle.std.proofs.lemmas.Bool.{le-ltb}
use Rattle.coordinate_model.specs.Sequences.{range_from, inversions, is_odd, repeats}
use Rattle.coordinate_model.specs.Syzygy.{sorted}
use Rattle.coordinate_model.proofs.Counts.{many, one_if}
use Rattle.coordinate_model.proofs.Exponents.{IsAscending}
use Rattle.coordinate_model.proofs.Increasing.{IsIncreasing, increasing_all, increasing_next}
use Rattle.coordinate_model.proofs.Orders.{IsLeast}
use Rattle.coordinate_model.proofs.Sorting.{gt-lt, count-many}
use Rattle.coordinate_model.proofs.Splits.{all_append, all_so}
use Rattle.coordinate_model.proofs.StdSort.{increasing-repeats}
use Rattle.coordinate_model.proofs.WordLemmas.{ordered_ascending}
use Rattle.bracket_terms.specs.Signed.{sorted_with_sign}
use Rattle.bracket_terms.specs.declared.signed.Signed.{Signed}
use Rattle.bracket_terms.specs.declared.signed.Signed.TheVariants.{Plus}

-- ---- points that increase

none_below : (p : ℕ) (ps : List ℕ) → AllByRecursion (λ q. p < q) ps → many (λ q. nat_lt q p) ps ≡ 0
none_below p [] h = refl
none_below p (q ∷ ps) h =
    let l : p < q = h.0 in
    let here : one_if (nat_lt q p) ≡ 0 = ap one_if (le-ltb q p (omega arith)) in
    let rest : many (λ q. nat_lt q p) ps ≡ 0 = none_below p ps h.1 in
    omega arith

no_inversion : (ps : List ℕ) → IsIncreasing ps → inversions ps ≡ 0
no_inversion [] h = refl
no_inversion (p ∷ ps) h =
    let here : count_by (λ q. nat_lt q p) ps ≡ 0 = count-many (λ q. nat_lt q p) ps ∙ none_below p ps h.0 in
    let rest : inversions ps ≡ 0 = no_inversion ps h.1 in
    omega arith

least : (p : ℕ) (ps : List ℕ) → AllByRecursion (λ q. p < q) ps → IsLeast nat_cmp_total p ps
least p [] h = tt
least p (q ∷ ps) h = let l : p < q = h.0 in (gt-lt p q ∙ le-ltb q p (omega arith), least p ps h.1)

ascends : (ps : List ℕ) → IsIncreasing ps → IsAscending nat_cmp_total ps
ascends [] h = tt
ascends (p ∷ ps) h = (least p ps h.0, ascends ps h.1)

-- their bracket is that of these points, with the sign +
increasing_plus : {d : ℕ} (ps : List ℕ) → IsIncreasing ps → ◌≡◌ {A = Signed d} (sorted_with_sign ps) (Plus ps)
increasing_plus ps h =
    let once : repeats ps ≡ false = increasing-repeats ps (increasing_next ps h) in
    let even : is_odd ps ≡ false = ap (λ n. n % 2 == 1) (no_inversion ps h) in
    let same : sorted ps ≡ ps = ordered_ascending nat_cmp nat_cmp_total ps (ascends ps h) in
    rw (once, even, same) refl

pub plus_points : {d : ℕ} (ps others : List ℕ) → ◌≡◌ {A = Signed d} (Plus ps) (Plus others) → ps ≡ others
plus_points ps others e = cc

-- ---- fresh points behind them

from_range : (n m k : ℕ) → n ≤ m → AllByRecursion (λ p. n ≤ p) (range_from m k)
from_range n m zero h = tt
from_range n m (suc k) h = (h, from_range n (suc m) k (omega arith))

range_increases : (n k : ℕ) → IsIncreasing (range_from n k)
range_increases n zero = tt
range_increases n (suc k) = (from_range (suc n) (suc n) k (omega arith), range_increases (suc n) k)

increases : (n k : ℕ) (ps : List ℕ) → IsIncreasing ps → AllByRecursion (λ p. p < n) ps → IsIncreasing (ps ++ range_from n k)
increases n k [] h b = range_increases n k
increases n k (p ∷ ps) h b =
    let l : p < n = b.0 in (
      all_append (λ q. p < q) ps (range_from n k) h.0
          (all_so (λ q. n ≤ q) (λ q. p < q) (λ q m. omega arith) (range_from n k) (from_range n n k (omega arith))),
      increases n k ps h.1 b.1,
    )

-- the bracket of points that increase and of fresh ones
pub fresh_plus : {d : ℕ} (n k : ℕ) (ps : List ℕ) → IsStrictlyIncreasing ps → AllByRecursion (λ p. p < n) ps
    → ◌≡◌ {A = Signed d} (sorted_with_sign (ps ++ range_from n k)) (Plus (ps ++ range_from n k))
fresh_plus n k ps h b = increasing_plus (ps ++ range_from n k) (increases n k ps (increasing_all ps h) b)

-- at most three of them
pub three_fresh : (n k : ℕ) → k ≤ 3 → take k (n ∷ (n + 1) ∷ (n + 2) ∷ []) ≡ range_from n k
three_fresh n zero h = refl
three_fresh n (suc zero) h = refl
three_fresh n (suc (suc zero)) h = ap (λ m. n ∷ m ∷ []) (omega arith)
three_fresh n (suc (suc (suc zero))) h = ap₂ (λ m l. n ∷ m ∷ l ∷ []) (omega arith) (omega arith)
three_fresh n (suc (suc (suc (suc k)))) h = absurd (omega arith)
