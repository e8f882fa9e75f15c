-- The rows that one of two ascending lists has alone, from the first row on.
use Rattle.std.proofs.Common.{◌≡◌, ℕ, suc, false, cond, List, [], ◌∷◌, get_or, is_eq, is_lt, refl, sym, ap}
use Rattle.std.proofs.Common.{◌∙◌, arith, subst}
use Rattle.std.proofs.Math.Nat.{suc-add}
use Rattle.std.specs.Prelude.{IsSorted}
use Rattle.std.specs.Cmp.Lexicographic.{nat_list_cmp_total}
use Rattle.std.specs.List.{AllByRecursion}
use Rattle.std.specs.Ordering.{ordering_reverse, is_gt}
use Rattle.std.specs.declared.cmp.Ordering.{Ordering}
use Rattle.std.specs.declared.cmp.Ordering.TheVariants.{Less, Equal, Greater}
use Rattle.coordinate_model.specs.Key.{row_cmp}
use Rattle.coordinate_model.proofs.KeySumLaws.{row_same, sorted_ascending}
use Rattle.coordinate_model.proofs.Orders.{IsLeast}
use Rattle.coordinate_model.proofs.SortedRows.{sorted-ordered}
use Rattle.coordinate_model.proofs.WordLemmas.{ordered_ascending}
use Rattle.contraction.specs.Passes.{less_row, own_rows}
use Rattle.contraction.proofs.RowCounts.{Rows, Ascends, ascends_own}

-- ---- ascending lists

pub sorted_tail : (x : List ℕ) (rows : Rows) → IsSorted row_cmp (x ∷ rows) → IsSorted row_cmp rows
sorted_tail x rows s k d z l =
    ap (λ n. is_lt (row_cmp (get_or (x ∷ rows) n d) (get_or rows k d))) (sym (suc-add k 1))
    ∙ s (suc k) d (omega arith) (omega arith)

-- the rows that one ascending list has alone ascend
pub sorted_own : (rows others : Rows) → IsSorted row_cmp rows → IsSorted row_cmp (own_rows rows others)
sorted_own rows others s =
    let a : Ascends (own_rows rows others) = ascends_own rows others (sorted_ascending rows s) in
    subst (λ (w : Rows). IsSorted row_cmp w) (ordered_ascending row_cmp nat_list_cmp_total (own_rows rows others) a)
    (sorted-ordered nat_list_cmp_total (own_rows rows others))

-- ---- a row below others

abbrev IsBelow : List ℕ → Rows → Type 0
IsBelow x rows = AllByRecursion (λ r. row_cmp x r ≡ Less) rows

below : (x y : List ℕ) (ys : Rows) → row_cmp x y ≡ Less → IsLeast nat_list_cmp_total y ys → IsBelow x ys
below x y [] e h = tt
below x y (z ∷ ys) e h = (step (row_cmp y z) refl h.0, below x y ys e h.1)
  where
    step : (o : Ordering) → row_cmp y z ≡ o → is_gt o ≡ false → row_cmp x z ≡ Less
    step Less f n = nat_list_cmp_total.trans x y z e f
    step Equal f n = ap (row_cmp x) (sym (row_same y z f)) ∙ e
    step Greater f n = cc

below_all : (x y : List ℕ) (ys : Rows) → row_cmp x y ≡ Less → IsSorted row_cmp (y ∷ ys) → IsBelow x (y ∷ ys)
below_all x y ys e s = (e, below x y ys e (sorted_ascending (y ∷ ys) s).0)

other_way : (x y : List ℕ) (o : Ordering) → row_cmp x y ≡ o → row_cmp y x ≡ ordering_reverse o
other_way x y o e = nat_list_cmp_total.antisymm y x ∙ ap ordering_reverse e

-- the list keeps it
own_below : (x : List ℕ) (xs others : Rows) → IsBelow x others → own_rows (x ∷ xs) others ≡ x ∷ own_rows xs others
own_below x xs [] h = refl
own_below x xs (r ∷ others) h =
    ap (λ b. own_rows (cond b xs (x ∷ less_row r xs)) others) (ap is_eq (other_way x r Less h.0))
    ∙ own_below x (less_row r xs) others h.1

-- and they lack it
less_below : (x : List ℕ) (rows : Rows) → IsBelow x rows → less_row x rows ≡ rows
less_below x [] h = refl
less_below x (r ∷ rows) h =
    ap (λ b. cond b rows (r ∷ less_row x rows)) (ap is_eq h.0) ∙ ap (λ (w : Rows). r ∷ w) (less_below x rows h.1)

-- ---- the first rows

pub own_none : (others : Rows) → own_rows [] others ≡ []
own_none [] = refl
own_none (r ∷ others) = own_none others

module _ (x : List ℕ) (xs : Rows) (y : List ℕ) (ys : Rows) where
  pub own_less : row_cmp x y ≡ Less → IsSorted row_cmp (y ∷ ys) → own_rows (x ∷ xs) (y ∷ ys) ≡ x ∷ own_rows xs (y ∷ ys)
  own_less e s = own_below x xs (y ∷ ys) (below_all x y ys e s)

  pub own_equal : row_cmp x y ≡ Equal → own_rows (x ∷ xs) (y ∷ ys) ≡ own_rows xs ys
  own_equal e = ap (λ b. own_rows (cond b xs (x ∷ less_row y xs)) ys) (ap is_eq (other_way x y Equal e))

  pub own_greater : row_cmp x y ≡ Greater → IsSorted row_cmp (x ∷ xs)
      → own_rows (x ∷ xs) (y ∷ ys) ≡ own_rows (x ∷ xs) ys
  own_greater e s =
      ap (λ (w : Rows). own_rows w ys) (less_below y (x ∷ xs) (below_all y x xs (other_way x y Greater e) s))
