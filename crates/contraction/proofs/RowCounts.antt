-- How often rows come: in the rows that one list has alone, and in those that both have; and sorted lists in which each row
-- comes as often are equal.
use Rattle.std.proofs.Common.{◌≡◌, ℕ, ◌+◌, ◌-◌, Bool, true, false, cond, List, [], ◌∷◌, ◌++◌, refl, sym, ap, ap₂}
use Rattle.std.proofs.Common.{◌∙◌, arith, is_eq}
use Rattle.std.specs.Cmp.{Equal-is, tied_itself}
use Rattle.std.specs.Cmp.Lexicographic.{nat_list_cmp_total}
use Rattle.std.specs.Ordering.{eq_by_cmp, ordering_reverse}
use Rattle.std.specs.declared.cmp.Ordering.{Ordering}
use Rattle.std.specs.declared.cmp.Ordering.TheVariants.{Less, Equal, Greater}
use Rattle.coordinate_model.specs.Words.{ordered}
use Rattle.coordinate_model.specs.Key.{row_cmp}
use Rattle.coordinate_model.proofs.Counts.{many, many-append, one_if}
use Rattle.coordinate_model.proofs.Exponents.{IsAscending, ascending_ordered, none_from}
use Rattle.coordinate_model.proofs.KeySumLaws.{row_same}
use Rattle.coordinate_model.proofs.Orders.{IsLeast, count_ordered}
use Rattle.contraction.specs.Passes.{less_row, own_rows}

abbrev pub Rows : Type 0
Rows = List (List ℕ)

abbrev same : List ℕ → List ℕ → Bool
same r x = eq_by_cmp row_cmp r x

-- how often the row comes
abbrev pub times_row : List ℕ → Rows → ℕ
times_row r rows = many (eq_by_cmp row_cmp r) rows

same_is : (r x : List ℕ) → same r x ≡ true → r ≡ x
same_is r x e = row_same r x ((Equal-is (row_cmp r x)).0 e)

pub itself : (r : List ℕ) → same r r ≡ true
itself r = ap is_eq (tied_itself nat_list_cmp_total r)

-- ---- rows that one list has alone

times_less : (r y : List ℕ) (rows : Rows)
    → times_row r (less_row y rows) ≡ times_row r rows - one_if (same r y)
times_less r y [] = omega arith
times_less r y (x ∷ rows) = step (same y x) (same r y) refl refl (times_less r y rows)
  where
    step : (b c : Bool) → same y x ≡ b → same r y ≡ c → times_row r (less_row y rows) ≡ times_row r rows - one_if (same r y)
        → times_row r (cond b rows (x ∷ less_row y rows)) ≡ one_if (same r x) + times_row r rows - one_if (same r y)
    step true c e f ih =
        let g : one_if (same r x) ≡ one_if (same r y) = ap (λ z. one_if (same r z)) (sym (same_is y x e)) in
        omega arith
    step false true e f ih =
        let g : one_if (same r x) ≡ 0 = ap (λ z. one_if (same z x)) (same_is r y f) ∙ ap one_if e in
        omega arith
    step false false e f ih =
        let g : one_if (same r y) ≡ 0 = ap one_if f in
        omega arith

pub times_own : (r : List ℕ) (rows others : Rows) → times_row r (own_rows rows others) ≡ times_row r rows - times_row r others
times_own r rows [] = omega arith
times_own r rows (y ∷ others) =
    let a : times_row r (own_rows (less_row y rows) others) ≡ times_row r (less_row y rows) - times_row r others =
    times_own r (less_row y rows) others in
    let b : times_row r (less_row y rows) ≡ times_row r rows - one_if (same r y) = times_less r y rows in
    omega arith

-- ---- ascending lists

abbrev pub Ascends : Rows → Type 0
Ascends rows = IsAscending nat_list_cmp_total rows

least_less : (x r : List ℕ) (rows : Rows) → IsLeast nat_list_cmp_total x rows
    → IsLeast nat_list_cmp_total x (less_row r rows)
least_less x r [] h = tt
least_less x r (y ∷ rows) h = step (same r y) (least_less x r rows h.1)
  where
    step : (b : Bool) → IsLeast nat_list_cmp_total x (less_row r rows)
        → IsLeast nat_list_cmp_total x (cond b rows (y ∷ less_row r rows))
    step true i = h.1
    step false i = (h.0, i)

ascends_less : (r : List ℕ) (rows : Rows) → Ascends rows → Ascends (less_row r rows)
ascends_less r [] h = tt
ascends_less r (y ∷ rows) h = step (same r y) (least_less y r rows h.0) (ascends_less r rows h.1)
  where
    step : (b : Bool) → IsLeast nat_list_cmp_total y (less_row r rows) → Ascends (less_row r rows)
        → Ascends (cond b rows (y ∷ less_row r rows))
    step true l i = h.1
    step false l i = (l, i)

pub ascends_own : (rows others : Rows) → Ascends rows → Ascends (own_rows rows others)
ascends_own rows [] h = h
ascends_own rows (r ∷ others) h = ascends_own (less_row r rows) others (ascends_less r rows h)

-- ascending lists in which each row comes as often are equal
pub same_lists : (xs ys : Rows) → Ascends xs → Ascends ys → ((r : List ℕ) → times_row r xs ≡ times_row r ys) → xs ≡ ys
same_lists [] [] h k e = refl
same_lists [] (y ∷ ys) h k e =
    let a : 0 ≡ one_if (same y y) + times_row y ys = e y in
    let b : one_if (same y y) ≡ 1 = ap one_if (itself y) in
    absurd (omega arith)
same_lists (x ∷ xs) [] h k e =
    let a : one_if (same x x) + times_row x xs ≡ 0 = e x in
    let b : one_if (same x x) ≡ 1 = ap one_if (itself x) in
    absurd (omega arith)
same_lists (x ∷ xs) (y ∷ ys) h k e = step (row_cmp x y) refl (λ g. same_lists xs ys h.1 k.1 g)
  where
    step : (o : Ordering) → row_cmp x y ≡ o → (((r : List ℕ) → times_row r xs ≡ times_row r ys) → xs ≡ ys)
        → x ∷ xs ≡ y ∷ ys
    step Less q ih =
        let a : one_if (same x x) + times_row x xs ≡ times_row x (y ∷ ys) = e x in
        let b : one_if (same x x) ≡ 1 = ap one_if (itself x) in
        let c : times_row x (y ∷ ys) ≡ 0 = none_from nat_list_cmp_total x y ys q k.0 in
        absurd (omega arith)
    step Equal q ih =
        let s : x ≡ y = row_same x y q in
        ap₂ (λ (z : List ℕ) (zs : Rows). z ∷ zs) s
        (ih (λ r. let a : one_if (same r x) + times_row r xs ≡ one_if (same r y) + times_row r ys = e r in
        let b : one_if (same r x) ≡ one_if (same r y) = ap (λ z. one_if (same r z)) s in
        omega arith))
    step Greater q ih =
        let l : row_cmp y x ≡ Less = nat_list_cmp_total.antisymm y x ∙ ap ordering_reverse q in
        let a : times_row y (x ∷ xs) ≡ one_if (same y y) + times_row y ys = e y in
        let b : one_if (same y y) ≡ 1 = ap one_if (itself y) in
        let c : times_row y (x ∷ xs) ≡ 0 = none_from nat_list_cmp_total y x xs l h.0 in
        absurd (omega arith)

-- ---- merged rows

pub times_merged : (r : List ℕ) (rest rows : Rows)
    → times_row r (ordered row_cmp (rest ++ rows)) ≡ times_row r rest + times_row r rows
times_merged r rest rows =
    count_ordered nat_list_cmp_total (eq_by_cmp row_cmp r) (rest ++ rows) ∙ many-append (eq_by_cmp row_cmp r) rest rows

-- the common rows with those that the first list has alone are the first list, and with those of the second the second
pub merged_first : (rows others : Rows) → Ascends rows
    → ordered row_cmp (own_rows rows (own_rows rows others) ++ own_rows rows others) ≡ rows
merged_first rows others h =
    same_lists (ordered row_cmp (own_rows rows (own_rows rows others) ++ own_rows rows others)) rows
    (ascending_ordered nat_list_cmp_total (own_rows rows (own_rows rows others) ++ own_rows rows others)) h
    (λ r. times_merged r (own_rows rows (own_rows rows others)) (own_rows rows others)
    ∙ (let a = times_own r rows others in let b = times_own r rows (own_rows rows others) in
    let c : times_row r (own_rows rows (own_rows rows others)) + times_row r (own_rows rows others) ≡ times_row r rows =
    omega arith in c))

pub merged_second : (rows others : Rows) → Ascends others
    → ordered row_cmp (own_rows rows (own_rows rows others) ++ own_rows others rows) ≡ others
merged_second rows others h =
    same_lists (ordered row_cmp (own_rows rows (own_rows rows others) ++ own_rows others rows)) others
    (ascending_ordered nat_list_cmp_total (own_rows rows (own_rows rows others) ++ own_rows others rows)) h
    (λ r. times_merged r (own_rows rows (own_rows rows others)) (own_rows others rows)
    ∙ (let a = times_own r rows others in let b = times_own r rows (own_rows rows others) in
    let c = times_own r others rows in
    let e : times_row r (own_rows rows (own_rows rows others)) + times_row r (own_rows others rows) ≡ times_row r others =
    omega arith in e))

-- and what is merged with the same rows to the same list is the same
pub merged_same : (rest xs ys : Rows) → Ascends xs → Ascends ys
    → ordered row_cmp (rest ++ xs) ≡ ordered row_cmp (rest ++ ys) → xs ≡ ys
merged_same rest xs ys h k e =
    same_lists xs ys h k
    (λ r. let a = times_merged r rest xs in let b = times_merged r rest ys in
    let c : times_row r (ordered row_cmp (rest ++ xs)) ≡ times_row r (ordered row_cmp (rest ++ ys)) =
    ap (λ (w : Rows). times_row r w) e in
    omega arith)
