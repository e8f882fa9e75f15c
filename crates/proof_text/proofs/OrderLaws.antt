-- The tests of orders, and the orders of the model.
use Rattle.std.proofs.Common.{◌≡◌, ℕ, zero, suc, ◌<◌, true, false, not, List, [], ◌∷◌, refl, sym, ap, subst, ◌∙◌, arith, suc-add, slice_index, get_or}
use Rattle.std.specs.Prelude.{nat_lt, IsSorted}
use Rattle.std.specs.declared.cmp.Ordering.{Ordering}
use Rattle.std.specs.declared.cmp.Ordering.TheVariants.{Less, Equal, Greater}
use Rattle.std.specs.Ordering.{is_lt, is_gt, ordering_reverse}
use Rattle.std.specs.List.Sorted.{IsStrictlyIncreasing}
use Rattle.std.specs.Cmp.Lexicographic.{nat_list_cmp_total}
use Rattle.std.proofs.lemmas.Bool.{ltb-true, lt-ltb, not-true}
use Rattle.coordinate_model.specs.Key.{row_cmp}
use Rattle.proof_text.specs.Meant.{is_rising, is_ascending}
use Rattle.proof_text.proofs.NumberLaws.{and_true}

pub rising_increases : (xs : List ℕ) → is_rising xs ≡ true → IsStrictlyIncreasing xs
rising_increases [] rises k h = absurd (omega arith)
rising_increases (x ∷ []) rises k h = absurd (omega arith)
rising_increases (x ∷ y ∷ xs) rises zero h = ltb-true x y (and_true (nat_lt x y) (is_rising (y ∷ xs)) rises).0
rising_increases (x ∷ y ∷ xs) rises (suc k) h =
    subst (λ n. slice_index (y ∷ xs) k < slice_index (x ∷ y ∷ xs) n) (sym (suc-add k 1))
    (rising_increases (y ∷ xs) (and_true (nat_lt x y) (is_rising (y ∷ xs)) rises).1 k (omega arith))

increasing_tail : (x : ℕ) (xs : List ℕ) → IsStrictlyIncreasing (x ∷ xs) → IsStrictlyIncreasing xs
increasing_tail x xs s k h =
    subst (λ n. slice_index xs k < slice_index (x ∷ xs) n) (suc-add k 1) (s (suc k) (omega arith))

pub increases_rising : (xs : List ℕ) → IsStrictlyIncreasing xs → is_rising xs ≡ true
increases_rising [] s = refl
increases_rising (x ∷ []) s = refl
increases_rising (x ∷ y ∷ xs) s =
    rw (lt-ltb x y (s 0 (omega arith))) (increases_rising (y ∷ xs) (increasing_tail x (y ∷ xs) s))

-- ---- rows

reversed : (r : Ordering) → is_lt (ordering_reverse r) ≡ is_gt r
reversed Less = refl
reversed Equal = refl
reversed Greater = refl

under : (a b : List ℕ) → is_lt (row_cmp b a) ≡ is_gt (row_cmp a b)
under a b = ap is_lt (nat_list_cmp_total.antisymm b a) ∙ reversed (row_cmp a b)

pub ascending_sorted : (rows : List (List ℕ)) → is_ascending rows ≡ true → IsSorted row_cmp rows
ascending_sorted [] up k d z h = absurd (omega arith)
ascending_sorted (x ∷ []) up k d z h = absurd (omega arith)
ascending_sorted (x ∷ y ∷ rows) up zero d z h =
    under x y ∙ not-true _ (and_true (not (is_gt (row_cmp x y))) (is_ascending (y ∷ rows)) up).0
ascending_sorted (x ∷ y ∷ rows) up (suc k) d z h =
    ap (λ n. is_lt (row_cmp (get_or (x ∷ y ∷ rows) n d) (get_or (y ∷ rows) k d))) (suc-add k 1)
    ∙ ascending_sorted (y ∷ rows) (and_true (not (is_gt (row_cmp x y))) (is_ascending (y ∷ rows)) up).1 k d (omega arith) (omega arith)

pub sorted_ascending : (rows : List (List ℕ)) → IsSorted row_cmp rows → is_ascending rows ≡ true
sorted_ascending [] s = refl
sorted_ascending (x ∷ []) s = refl
sorted_ascending (x ∷ y ∷ rows) s =
    let first : is_gt (row_cmp x y) ≡ false = sym (under x y) ∙ s 0 [] (omega arith) (omega arith) in
    rw first (sorted_ascending (y ∷ rows) (λ k d z h.
    ap (λ n. is_lt (row_cmp (get_or (x ∷ y ∷ rows) n d) (get_or (y ∷ rows) k d))) (sym (suc-add k 1))
    ∙ s (suc k) d (omega arith) (omega arith)))
