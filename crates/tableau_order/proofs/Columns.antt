-- Columns that rise from each row to the next rise over the whole list, and then the rows ascend.
use Rattle.std.proofs.Common.{◌≡◌, ℕ, suc, ◌+◌, ◌-◌, ◌<◌, ◌≤◌, true, false, List, [], ◌∷◌, length, get_or, slice_index}
use Rattle.std.proofs.Common.{refl, sym, ap, subst, ◌∙◌, arith, Ordering, Less, Equal, Greater, is_lt, is_gt, nat_cmp}
use Rattle.std.proofs.lemmas.Bool.{ltb-true}
use Rattle.std.specs.Cmp.{nat_cmp_total}
use Rattle.coordinate_model.proofs.Sorting.{gt-lt}
use Rattle.std.proofs.lemmas.List.{length-map, get_or-map, get_or_default}
use Rattle.std.proofs.lemmas.List.Sorted.{IsNonDecreasingBy-from_all_adjacent}
use Rattle.std.specs.List.Sorted.{IsSorted}
use Rattle.std.specs.Ordering.{ordering_then, ordering_reverse}
use Rattle.coordinate_model.specs.Key.{IsRow, row_cmp, column, HasRisingColumns}
use Rattle.tableau_order.specs.Standard.{IsStandard, Rises, IsFirstFall, IsFirstViolation, row_at}

-- a point of a column is a point of its row
pub column_at : (j : ℕ) (rows : List (List ℕ)) (i x : ℕ) → i < length rows
    → get_or (column j rows) i x ≡ slice_index (row_at rows i) j
column_at j rows i x h = get_or-map (λ r. slice_index r j) rows i [] x h

-- no column falls from a row to the next
abbrev pub RisesOnward : ℕ → List (List ℕ) → Type 0
RisesOnward d rows = (i : ℕ) → i + 1 < length rows → Rises d (row_at rows i) (row_at rows (i + 1))

pub rising_columns : (d : ℕ) (rows : List (List ℕ)) → RisesOnward d rows → HasRisingColumns d rows
rising_columns d rows h j l =
    IsNonDecreasingBy-from_all_adjacent (λ x. x) (column j rows)
    (λ k x m.
    let n : length (column j rows) ≡ length rows = length-map rows (λ r. slice_index r j) in
    let a : get_or (column j rows) k x ≡ slice_index (row_at rows k) j = column_at j rows k x (omega arith) in
    let b : get_or (column j rows) (k + 1) x ≡ slice_index (row_at rows (k + 1)) j =
    column_at j rows (k + 1) x (omega arith) in
    let c : slice_index (row_at rows k) j ≤ slice_index (row_at rows (k + 1)) j = h k (omega arith) j l in
    omega arith)

-- rows of one length of which no column falls do not fall
rises_lt : (low high : List ℕ) → length low ≡ length high
    → ((j : ℕ) → j < length low → slice_index low j ≤ slice_index high j) → is_lt (row_cmp high low) ≡ false
rises_lt [] [] e h = refl
rises_lt [] (q ∷ high) e h = absurd (omega arith)
rises_lt (p ∷ low) [] e h = absurd (omega arith)
rises_lt (p ∷ low) (q ∷ high) e h =
    step (nat_cmp q p) refl (rises_lt low high (omega arith) (λ j l. h (suc j) (omega arith)))
  where
    step : (r : Ordering) → nat_cmp q p ≡ r → is_lt (row_cmp high low) ≡ false
        → is_lt (ordering_then r (row_cmp high low)) ≡ false
    step Less l ih =
        let above : is_gt (nat_cmp p q) ≡ true = ap is_gt (nat_cmp_total.antisymm p q ∙ ap ordering_reverse l) in
        let less : q < p = ltb-true q p (sym (gt-lt p q) ∙ above) in
        let le : p ≤ q = h 0 (omega arith) in
        absurd (omega arith)
    step Equal l ih = ih
    step Greater l ih = refl

rows_ascend : (d : ℕ) (rows : List (List ℕ))
    → ((i : ℕ) → i + 1 < length rows → IsRow d (row_at rows i) × IsRow d (row_at rows (i + 1)))
    → RisesOnward d rows → IsSorted row_cmp rows
rows_ascend d rows each h k x z l =
    let low : List ℕ = row_at rows k in
    let high : List ℕ = row_at rows (k + 1) in
    let m : length low ≡ d = (each k l).0.0 in
    let n : length high ≡ d = (each k l).1.0 in
    let a : get_or rows k x ≡ low = get_or_default rows k x [] (omega arith) in
    let b : get_or rows (k + 1) x ≡ high = get_or_default rows (k + 1) x [] l in
    ap (λ r. is_lt (row_cmp r (get_or rows k x))) b ∙ ap (λ r. is_lt (row_cmp high r)) a
    ∙ rises_lt low high (m ∙ sym n) (λ j i. h k l j (omega arith))

-- no column falls from the row at i to the next, which both are rows of rank d
pub record StepsUp (d : ℕ) (list : List (List ℕ)) (i : ℕ) : Type 0 where
  pub rows : IsRow d (row_at list i) × IsRow d (row_at list (i + 1))
  pub rises : Rises d (row_at list i) (row_at list (i + 1))

-- where no neighbours fall the list is standard
pub steps_standard : (d : ℕ) (rows : List (List ℕ)) → ((i : ℕ) → i + 1 < length rows → StepsUp d rows i)
    → IsStandard d rows
steps_standard d rows h = record {
  ascending = rows_ascend d rows (λ i l. (h i l).rows) (λ i l. (h i l).rises);
  columns = rising_columns d rows (λ i l. (h i l).rises);
}

-- where a row falls the list is not standard
pub falls_not_standard : (d : ℕ) (rows : List (List ℕ)) (i j : ℕ) → IsFirstViolation d rows i j → IsStandard d rows → ⊥
falls_not_standard d rows i j v s =
    let within : i + 1 < length rows = v.within in
    let falls : slice_index (row_at rows (i + 1)) j < slice_index (row_at rows i) j = v.fall.falls in
    let n : length (column j rows) ≡ length rows = length-map rows (λ r. slice_index r j) in
    let rises : get_or (column j rows) i 0 ≤ get_or (column j rows) (i + 1) 0 =
    s.columns j v.fall.within i (i + 1) 0 (omega arith) (omega arith) in
    let a : get_or (column j rows) i 0 ≡ slice_index (row_at rows i) j = column_at j rows i 0 (omega arith) in
    let b : get_or (column j rows) (i + 1) 0 ≡ slice_index (row_at rows (i + 1)) j =
    column_at j rows (i + 1) 0 within in
    omega arith

-- the row before the place n is the first that falls
pub found_violation : (d : ℕ) (rows : List (List ℕ)) (n : ℕ) (low high : List ℕ) (j : ℕ) → 1 ≤ n → n < length rows
    → low ≡ get_or rows (n - 1) low → high ≡ get_or rows n high → IsFirstFall d low high j
    → ((i : ℕ) → i + 1 < n → StepsUp d rows i) → IsFirstViolation d rows (n - 1) j
found_violation d rows n low high j pos l a b f h =
    let next : n - 1 + 1 ≡ n = omega arith in
    let low_is : low ≡ row_at rows (n - 1) = a ∙ get_or_default rows (n - 1) low [] (omega arith) in
    let high_is : high ≡ row_at rows (n - 1 + 1) =
    b ∙ get_or_default rows n high [] l ∙ ap (λ k. row_at rows k) (sym next) in
    record {
      within = omega arith;
      fall =
          subst (λ (r : List ℕ). IsFirstFall d r (row_at rows (n - 1 + 1)) j) low_is
          (subst (λ (r : List ℕ). IsFirstFall d low r j) high_is f);
      before = λ k m. (h k (omega arith)).rises;
    }
