-- Rows that are put in their places.
use Rattle.std.proofs.Common.{◌≡◌, ◌<◌, ◌≤◌, ◌+◌, ℕ, suc, true, false, cond, List, [], ◌∷◌, ◌++◌, length, take, drop}
use Rattle.std.proofs.Common.{get_or}
use Rattle.std.proofs.Common.{sym, ap, ◌∙◌, arith, append_assoc}
use Rattle.std.proofs.lemmas.List.{drop_all}
use Rattle.std.proofs.Math.Seq.{drop-cons, take-suc}
use Rattle.std.specs.Ordering.{is_gt}
use Rattle.std.specs.Cmp.Lexicographic.{nat_list_cmp_total}
use Rattle.std.specs.List.Sorted.{IsSorted}
use Rattle.coordinate_model.specs.Key.{row_cmp}
use Rattle.coordinate_model.specs.Words.{ordered, place}
use Rattle.coordinate_model.proofs.KeySumLaws.{ordered_rows, row_same}
use Rattle.coordinate_model.proofs.Orders.{ordered_append_comm}

abbrev Rows : Type 0
Rows = List (List ℕ)

-- two rows that are put among ascending ones
pub with_two : (rows : Rows) (low high : List ℕ) → IsSorted row_cmp rows
    → place row_cmp low (place row_cmp high rows) ≡ ordered row_cmp (rows ++ low ∷ high ∷ [])
with_two rows low high s =
    ap (λ rs. place row_cmp low (place row_cmp high rs)) (sym (ordered_rows rows s))
    ∙ ordered_append_comm nat_list_cmp_total row_same (low ∷ high ∷ []) rows

module _ (row : List ℕ) (rows : Rows) (i : ℕ) (d : List ℕ) where
  -- behind a smaller row
  pub place_on : i < length rows → is_gt (row_cmp row (get_or rows i d)) ≡ true
      → place row_cmp row rows ≡ take i rows ++ place row_cmp row (drop i rows)
      → place row_cmp row rows ≡ take (i + 1) rows ++ place row_cmp row (drop (i + 1) rows)
  place_on l g h =
      let one : suc i ≡ i + 1 = omega arith in
      let x : List ℕ = get_or rows i d in
      let rest : Rows = drop (suc i) rows in
      h ∙ ap (λ rs. take i rows ++ place row_cmp row rs) (drop-cons rows i d l)
      ∙ ap (λ b. take i rows ++ cond b (x ∷ place row_cmp row rest) (row ∷ x ∷ rest)) g
      ∙ sym (append_assoc (take i rows) (x ∷ []) (place row_cmp row rest))
      ∙ ap (λ rs. rs ++ place row_cmp row rest) (sym (take-suc rows i d l))
      ∙ ap (λ n. take n rows ++ place row_cmp row (drop n rows)) one

  -- before one that is not smaller
  pub place_before : i < length rows → is_gt (row_cmp row (get_or rows i d)) ≡ false
      → place row_cmp row rows ≡ take i rows ++ place row_cmp row (drop i rows)
      → take i rows ++ row ∷ drop i rows ≡ place row_cmp row rows
  place_before l g h =
      let x : List ℕ = get_or rows i d in
      let rest : Rows = drop (suc i) rows in
      sym (h ∙ ap (λ rs. take i rows ++ place row_cmp row rs) (drop-cons rows i d l)
      ∙ ap (λ b. take i rows ++ cond b (x ∷ place row_cmp row rest) (row ∷ x ∷ rest)) g
      ∙ ap (λ rs. take i rows ++ row ∷ rs) (sym (drop-cons rows i d l)))

-- behind all
pub place_last : (row : List ℕ) (rows : Rows) (i : ℕ) → length rows ≤ i
    → place row_cmp row rows ≡ take i rows ++ place row_cmp row (drop i rows)
    → take i rows ++ row ∷ drop i rows ≡ place row_cmp row rows
place_last row rows i l h =
    let none : drop i rows ≡ [] = drop_all i rows l in
    ap (λ rs. take i rows ++ row ∷ rs) none
    ∙ sym (h ∙ ap (λ rs. take i rows ++ place row_cmp row rs) none)
