-- A multiple of the syzygy at the first violation of a tableau: its keys are that tableau, or smaller ones.
use Rattle.std.proofs.Common.{◌≡◌, ℕ, suc, ◌+◌, ◌<◌, ◌==◌, false, List, [], ◌∷◌, ◌++◌, length, count_by, take, drop}
use Rattle.std.proofs.Common.{sym, ap, subst, ◌∙◌, arith, ◌⊎◌, inl, inr, Less, is_gt, append_assoc, append-nil}
use Rattle.std.proofs.Math.Seq.{drop-cons}
use Rattle.std.proofs.lemmas.List.{take-append-drop}
use Rattle.std.specs.Cmp.Lexicographic.{nat_list_cmp_total}
use Rattle.coordinate_model.specs.Words.{ordered}
use Rattle.coordinate_model.specs.Key.{Key, row_cmp, rows_cmp, points, HasPoints}
use Rattle.coordinate_model.proofs.Counts.{many-append}
use Rattle.coordinate_model.proofs.Homogeneous.{points_of_syzygy}
use Rattle.coordinate_model.proofs.Keys.{times_in}
use Rattle.coordinate_model.proofs.KeySumLaws.{row_same, ordered_rows}
use Rattle.coordinate_model.proofs.Orders.{ordered_append_comm}
use Rattle.coordinate_model.proofs.Sorting.{count-many}
use Rattle.coordinate_model.proofs.WordLemmas.{ordered_last}
use Rattle.tableau_order.specs.Merged.{merged_rows, SamePoints}
use Rattle.tableau_order.specs.Standard.{row_at}
use Rattle.tableau_order.specs.Tableaux.{IsTableau}
use Rattle.tableau_order.specs.Violations.{alpha_at, beta_at, gamma_at, SplitsRows}
use Rattle.tableau_order.proofs.MergedRows.{smaller_pairs, keeps_points}
use Rattle.tableau_order.proofs.Splits.{row_of, next_not_above, splits_at_violation}
use Rattle.syzygies.specs.Places.{rest_at, syzygy_at, IsSameOrSmaller, RewritesToSmaller}
use Rattle.syzygies.proofs.Falls.{others_are_smaller, all_both}

-- two rows of a list and the others are all of it
pub two_rows : (rows : List (List ℕ)) (i : ℕ) → i + 1 < length rows
    → rows ≡ take i rows ++ (row_at rows i ∷ row_at rows (i + 1) ∷ drop (i + 2) rows)
two_rows rows i h =
    let one : suc i ≡ i + 1 = omega arith in
    let two : suc (i + 1) ≡ i + 2 = omega arith in
    let low : drop i rows ≡ row_at rows i ∷ drop (i + 1) rows =
    drop-cons rows i [] (omega arith) ∙ ap (λ n. row_at rows i ∷ drop n rows) one in
    let high : drop (i + 1) rows ≡ row_at rows (i + 1) ∷ drop (i + 2) rows =
    drop-cons rows (i + 1) [] h ∙ ap (λ n. row_at rows (i + 1) ∷ drop n rows) two in
    sym (take-append-drop i rows) ∙ ap (λ w. take i rows ++ w) (low ∙ ap (λ w. row_at rows i ∷ w) high)

-- merged into the others they make the tableau again
pub merged_again : (d : ℕ) (rows : List (List ℕ)) (i : ℕ) → IsTableau d rows → i + 1 < length rows
    → merged_rows (rest_at rows i) (row_at rows i ∷ row_at rows (i + 1) ∷ []) ≡ rows
merged_again d rows i t h =
    let front : List (List ℕ) = take i rows in
    let back : List (List ℕ) = drop (i + 2) rows in
    let pair : List (List ℕ) = row_at rows i ∷ row_at rows (i + 1) ∷ [] in
    ap (ordered row_cmp) (append_assoc front back pair)
    ∙ sym (ordered_last row_cmp nat_list_cmp_total row_same front (back ++ pair))
    ∙ ap (λ w. ordered row_cmp (front ++ w)) (ordered_append_comm nat_list_cmp_total row_same back pair)
    ∙ ordered_last row_cmp nat_list_cmp_total row_same front (pair ++ back)
    ∙ ap (ordered row_cmp) (sym (two_rows rows i h)) ∙ ordered_rows rows t.ascending

-- a key of the syzygy has the points of the two rows
pair_points : (d j : ℕ) (low high : List ℕ) (k : Key) → SplitsRows d j low high
    → HasPoints (alpha_at j low ++ (beta_at j low high ++ gamma_at j high)) k
    → SamePoints k.rows (low ∷ high ∷ [])
pair_points d j low high k s h i =
    let α : List ℕ = alpha_at j low in
    let β : List ℕ = beta_at j low high in
    let γ : List ℕ = gamma_at j high in
    let front : List ℕ = take (j + 1) β in
    let back : List ℕ = drop (j + 1) β in
    let a : count_by (λ p. i == p) (points k.rows) ≡ count_by (λ p. i == p) (α ++ (β ++ γ)) = h i in
    let b : count_by (λ p. i == p) (α ++ (β ++ γ)) ≡ times_in i (α ++ (β ++ γ)) = count-many (λ p. i == p) _ in
    let c : times_in i (α ++ (β ++ γ)) ≡ times_in i α + times_in i (β ++ γ) = many-append (λ p. i == p) α (β ++ γ) in
    let d : times_in i (β ++ γ) ≡ times_in i β + times_in i γ = many-append (λ p. i == p) β γ in
    let e : times_in i (front ++ back) ≡ times_in i front + times_in i back = many-append (λ p. i == p) front back in
    let f : times_in i (front ++ back) ≡ times_in i β = ap (times_in i) (take-append-drop (j + 1) β) in
    let g : times_in i low ≡ times_in i (α ++ back) = ap (times_in i) s.low_row in
    let l : times_in i (α ++ back) ≡ times_in i α + times_in i back = many-append (λ p. i == p) α back in
    let m : times_in i high ≡ times_in i (front ++ γ) = ap (times_in i) s.high_row in
    let n : times_in i (front ++ γ) ≡ times_in i front + times_in i γ = many-append (λ p. i == p) front γ in
    let o : count_by (λ p. i == p) (points (low ∷ high ∷ [])) ≡ times_in i (low ++ (high ++ []))
    = count-many (λ p. i == p) _ in
    let p : times_in i (low ++ (high ++ [])) ≡ times_in i low + times_in i (high ++ [])
    = many-append (λ p. i == p) low (high ++ []) in
    let q : times_in i (high ++ []) ≡ times_in i high = ap (times_in i) (append-nil high) in
    omega arith

-- what the keys of the syzygy have, with the rest merged in
abbrev MergesInto : List (List ℕ) → List (List ℕ) → Key → Type 0
MergesInto rest rows k =
    let merged = merged_rows rest k.rows in
    ((merged ≡ rows) ⊎ (rows_cmp merged rows ≡ Less)) × SamePoints merged rows

merges_into : (rest rows : List (List ℕ)) (low high : List ℕ) (k : Key) → merged_rows rest (low ∷ high ∷ []) ≡ rows
    → is_gt (row_cmp low high) ≡ false
    → IsSameOrSmaller low high k
    → SamePoints k.rows (low ∷ high ∷ [])
    → MergesInto rest rows k
merges_into rest rows low high k whole up s same = (
  elim s [
    | inl e ↦ inl (ap (λ (l : Key). merged_rows rest l.rows) e ∙ whole)
    | inr t ↦
        inr
        (ap (λ (l : Key). rows_cmp (merged_rows rest l.rows) rows) t.2
        ∙ ap (rows_cmp (merged_rows rest (t.0 ∷ t.1 ∷ []))) (sym whole)
        ∙ smaller_pairs rest low high t.0 t.1 up t.3)
  ],
  subst (SamePoints (merged_rows rest k.rows)) whole ((keeps_points rest k.rows).same (low ∷ high ∷ []) same),
)

pub rewrites_to_smaller : RewritesToSmaller
rewrites_to_smaller d i j rows t v =
    let within : i + 1 < length rows = v.within in
    let low : List ℕ = row_at rows i in
    let high : List ℕ = row_at rows (i + 1) in
    let up : is_gt (row_cmp low high) ≡ false = next_not_above d i rows t within in
    let α : List ℕ = alpha_at j low in
    let β : List ℕ = beta_at j low high in
    let γ : List ℕ = gamma_at j high in
    all_both
    (λ e. IsSameOrSmaller low high e.0)
    (λ e. (e.0.exponents ≡ []) × HasPoints (α ++ (β ++ γ)) e.0)
    (λ e. MergesInto (rest_at rows i) rows e.0)
    (λ e s h. merges_into (rest_at rows i) rows low high e.0 (merged_again d rows i t within) up s
    (pair_points d j low high e.0 (splits_at_violation d i j rows t v) h.1))
    (syzygy_at j low high).terms
    (others_are_smaller d j low high t.rank (row_of d rows t.each i (omega arith))
    (row_of d rows t.each (i + 1) within)
    up v.fall)
    (points_of_syzygy α β γ)
