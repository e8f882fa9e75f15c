-- The points of two rows at the first column where they fall.
use Rattle.std.proofs.Common.{◌≡◌, ℕ, zero, suc, ◌+◌, ◌<◌, ◌≤◌, true, false, List, [], ◌∷◌, ◌++◌, length}
use Rattle.std.proofs.Common.{slice_index, take, drop}
use Rattle.std.proofs.Common.{refl, sym, ap, ◌∙◌, arith, true≢false, Ordering, Less, Equal, Greater, is_gt, is_lt}
use Rattle.std.proofs.Common.{nat_cmp, length-append, length-drop, add-one}
use Rattle.std.proofs.lemmas.Bool.{lt-ltb}
use Rattle.std.proofs.lemmas.List.{take-append-drop, length-take-le}
use Rattle.std.proofs.Math.Seq.{drop-append_seam, take-append_seam}
use Rattle.std.specs.List.{AllByRecursion}
use Rattle.std.specs.Cmp.Lexicographic.{nat_list_cmp_total}
use Rattle.std.specs.Ordering.{ordering_then, ordering_reverse}
use Rattle.coordinate_model.specs.Key.{IsRow, row_cmp}
use Rattle.coordinate_model.proofs.Increasing.{IsIncreasing, increasing_all, increasing_next}
use Rattle.coordinate_model.proofs.Sorting.{gt-lt}
use Rattle.tableau_order.specs.Tableaux.{IsTableau}
use Rattle.tableau_order.specs.Standard.{row_at}
use Rattle.tableau_order.specs.Violations.{beta_at, SplitsAtFall, SplitsAtViolation}

-- a row that falls in the first column is the greater one
falls_at_first : (low high : List ℕ) → 0 < length low → 0 < length high → slice_index high 0 < slice_index low 0
    → is_gt (row_cmp low high) ≡ true
falls_at_first [] high a b h = absurd (omega arith)
falls_at_first (p ∷ low) [] a b h = absurd (omega arith)
falls_at_first (p ∷ low) (q ∷ high) a b h = step (nat_cmp p q) (gt-lt p q ∙ lt-ltb q p h)
  where
    step : (r : Ordering) → is_gt r ≡ true → is_gt (ordering_then r (row_cmp low high)) ≡ true
    step Less e = absurd (true≢false (sym e))
    step Equal e = absurd (true≢false (sym e))
    step Greater e = refl

not_first : (d j : ℕ) (low high : List ℕ) → 0 < d → length low ≡ d → length high ≡ d → is_gt (row_cmp low high) ≡ false
    → slice_index high j < slice_index low j → 1 ≤ j
not_first d zero low high r m n g h =
    absurd (true≢false (sym (falls_at_first low high (omega arith) (omega arith) h) ∙ g))
not_first d (suc j) low high r m n g h = omega arith

above_all : (x y : ℕ) (w : List ℕ) → x < y → AllByRecursion (λ q. y < q) w → AllByRecursion (λ q. x < q) w
above_all x y [] l h = tt
above_all x y (z ∷ w) l h = (let i = h.0 in omega arith, above_all x y w l h.1)

-- beta ascends
beta_increases : (j : ℕ) (low high : List ℕ) → j < length low → j < length high → IsIncreasing low → IsIncreasing high
    → slice_index high j < slice_index low j → IsIncreasing (take (suc j) high ++ drop j low)
beta_increases j [] high m n s t h = absurd (omega arith)
beta_increases j (p ∷ low) [] m n s t h = absurd (omega arith)
beta_increases zero (p ∷ low) (q ∷ high) m n s t h = ((h, above_all q p low h s.0), s)
beta_increases (suc j) (p ∷ low) (q ∷ []) m n s t h = absurd (omega arith)
beta_increases (suc j) (p ∷ low) (q ∷ q' ∷ high) m n s t h =
    let rest : IsIncreasing (q' ∷ (take j high ++ drop j low)) =
    beta_increases j low (q' ∷ high) (omega arith) (omega arith) s.1 t.1 h in
    let less : q < q' = t.0.0 in
    ((less, above_all q q' (take j high ++ drop j low) less rest.0), rest)

drop-front : (n : ℕ) (xs ys : List ℕ) → length xs ≡ n → drop n (xs ++ ys) ≡ ys
drop-front n xs ys e = ap (λ m. drop m (xs ++ ys)) (sym e) ∙ drop-append_seam xs ys

take-front : (n : ℕ) (xs ys : List ℕ) → length xs ≡ n → take n (xs ++ ys) ≡ xs
take-front n xs ys e = ap (λ m. take m (xs ++ ys)) (sym e) ∙ take-append_seam xs ys

pub splits_at_fall : SplitsAtFall
splits_at_fall d j low high rank low_is high_is g f =
    let m : length low ≡ d = low_is.0 in
    let n : length high ≡ d = high_is.0 in
    let pos : 0 < d = omega (arith, rank.0) in
    let within : j < d = f.within in
    let front : length (take (j + 1) high) ≡ j + 1 = length-take-le (j + 1) high (omega arith) in
    let first : length (take j low) ≡ j = length-take-le j low (omega arith) in
    record {
      not_first = not_first d j low high pos m n g f.falls;
      sizes = record {
        rank = rank;
        beta = omega (arith, length-append (take (j + 1) high) (drop j low), length-drop j low);
        others = omega (arith, length-drop (j + 1) high);
      };
      increasing =
          increasing_next (beta_at j low high)
          (rw add-one (beta_increases j low high (omega arith) (omega arith) (increasing_all low low_is.1)
          (increasing_all high high_is.1) f.falls));
      low_row =
          sym
          (ap (λ w. take j low ++ w) (drop-front (j + 1) (take (j + 1) high) (drop j low) front)
          ∙ take-append-drop j low);
      high_row =
          sym (ap (λ w. w ++ drop (j + 1) high) (take-front (j + 1) (take (j + 1) high) (drop j low) front)
          ∙ take-append-drop (j + 1) high);
    }

-- ---- in a tableau

pub row_of : (d : ℕ) (rows : List (List ℕ)) → AllByRecursion (IsRow d) rows → (i : ℕ) → i < length rows
    → IsRow d (row_at rows i)
row_of d [] h i l = absurd (omega arith)
row_of d (r ∷ rows) h zero l = h.0
row_of d (r ∷ rows) h (suc i) l = row_of d rows h.1 i (omega arith)

not_above : (x y : List ℕ) (r : Ordering) → row_cmp y x ≡ r → is_lt r ≡ false → is_gt (row_cmp x y) ≡ false
not_above x y Less e h = absurd (true≢false h)
not_above x y Equal e h = ap is_gt (nat_list_cmp_total.antisymm x y ∙ ap ordering_reverse e)
not_above x y Greater e h = ap is_gt (nat_list_cmp_total.antisymm x y ∙ ap ordering_reverse e)

-- a row of a tableau is not greater than the next
pub next_not_above : (d i : ℕ) (rows : List (List ℕ)) → IsTableau d rows → i + 1 < length rows
    → is_gt (row_cmp (row_at rows i) (row_at rows (i + 1))) ≡ false
next_not_above d i rows t within =
    not_above (row_at rows i) (row_at rows (i + 1)) (row_cmp (row_at rows (i + 1)) (row_at rows i)) refl
    (t.ascending i [] (omega arith) within)

pub splits_at_violation : SplitsAtViolation
splits_at_violation d i j rows t v =
    let within : i + 1 < length rows = v.within in
    splits_at_fall d j (row_at rows i) (row_at rows (i + 1)) t.rank (row_of d rows t.each i (omega arith))
    (row_of d rows t.each (i + 1) within)
    (next_not_above d i rows t within)
    v.fall
