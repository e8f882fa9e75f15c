-- What std's sort gives is the row list in ascending order.
use Rattle.std.proofs.Common.{◌≡◌, ℕ, ◌+◌, Bool, List, [], ◌∷◌, refl, sym, ap, ◌∙◌, arith}
use Rattle.std.proofs.Common.{Ordering, Less, Equal, Greater, is_eq}
use Rattle.std.proofs.lemmas.List.Sorted.{sum_by-IsPermutation}
use Rattle.std.proofs.lemmas.List.Sums.{sum_by-cons}
use Rattle.std.specs.List.{sum_by}
use Rattle.std.specs.List.Sorted.{IsPermutation, IsSorted}
use Rattle.std.specs.Ordering.{eq_by_cmp, ordering_reverse}
use Rattle.std.specs.Cmp.{IsTotalOrder, tied_itself}
use Rattle.std.specs.Cmp.Lexicographic.{nat_list_cmp_total}
use Rattle.std.specs.FinMap.{IsAntisymmetric}
use Rattle.coordinate_model.specs.Key.{row_cmp}
use Rattle.coordinate_model.specs.Words.{ordered}
use Rattle.coordinate_model.proofs.Counts.{many, one_if}
use Rattle.coordinate_model.proofs.Orders.{count_ordered}
use Rattle.coordinate_model.proofs.Exponents.{IsAscending, ascending_ordered, exponent, none_from}
use Rattle.coordinate_model.proofs.KeySumLaws.{row_same, sorted_ascending}

module _ {V : Type 0} {R : V → V → Ordering} (o : IsTotalOrder R) (same : IsAntisymmetric R) where
  one_more : (u : V) (w : List V) → exponent o u (u ∷ w) ≡ 1 + exponent o u w
  one_more u w = ap (λ r. one_if (is_eq r) + exponent o u w) (tied_itself o u)

  -- ascending lists with the same items are equal
  pub same_ascending : (xs ys : List V) → IsAscending o xs → IsAscending o ys
      → ((u : V) → exponent o u xs ≡ exponent o u ys) → xs ≡ ys
  same_ascending [] [] s t e = refl
  same_ascending [] (y ∷ ys) s t e =
      let a : 0 ≡ exponent o y (y ∷ ys) = e y in
      let b : exponent o y (y ∷ ys) ≡ 1 + exponent o y ys = one_more y ys in
      absurd (omega arith)
  same_ascending (x ∷ xs) [] s t e =
      let a : exponent o x (x ∷ xs) ≡ 0 = e x in
      let b : exponent o x (x ∷ xs) ≡ 1 + exponent o x xs = one_more x xs in
      absurd (omega arith)
  same_ascending (x ∷ xs) (y ∷ ys) s t e = step (R x y) refl (same_ascending xs ys s.1 t.1)
    where
      absent : (p q : V) (ps qs : List V) → R p q ≡ Less → IsAscending o (q ∷ qs)
          → exponent o p (p ∷ ps) ≡ exponent o p (q ∷ qs) → ⊥
      absent p q ps qs l h k =
          let none : exponent o p (q ∷ qs) ≡ 0 = none_from o p q qs l h.0 in
          let here : exponent o p (p ∷ ps) ≡ 1 + exponent o p ps = one_more p ps in
          omega arith

      rest : (u : V) → x ≡ y → exponent o u xs ≡ exponent o u ys
      rest u p =
          let all : exponent o u (x ∷ xs) ≡ exponent o u (y ∷ ys) = e u in
          let head : one_if (eq_by_cmp R u x) ≡ one_if (eq_by_cmp R u y) = ap (λ z. one_if (eq_by_cmp R u z)) p in
          omega arith

      step : (r : Ordering) → R x y ≡ r → (((u : V) → exponent o u xs ≡ exponent o u ys) → xs ≡ ys) → x ∷ xs ≡ y ∷ ys
      step Less l ih = absurd (absent x y xs ys l t (e x))
      step Equal l ih = λ i. same x y l i ∷ ih (λ u. rest u (same x y l)) i
      step Greater l ih =
          absurd (absent y x ys xs (o.antisymm y x ∙ ap ordering_reverse l) s (sym (e y)))

many-sum_by : {V : Type 0} (p : V → Bool) (xs : List V) → many p xs ≡ sum_by (λ x. one_if (p x)) xs
many-sum_by p [] = refl
many-sum_by p (x ∷ xs) =
    ap (λ n. one_if (p x) + n) (many-sum_by p xs) ∙ sym (sum_by-cons (λ y. one_if (p y)) x xs)

many-IsPermutation : {V : Type 0} (p : V → Bool) (xs ys : List V) → IsPermutation xs ys → many p ys ≡ many p xs
many-IsPermutation p xs ys h =
    many-sum_by p ys ∙ sum_by-IsPermutation (λ x. one_if (p x)) xs ys h ∙ sym (many-sum_by p xs)

-- the sorted rows are the rows in ascending order
pub sorted_rows : (rows sorted : List (List ℕ)) → IsPermutation rows sorted → IsSorted row_cmp sorted
    → sorted ≡ ordered row_cmp rows
sorted_rows rows sorted p s =
    same_ascending nat_list_cmp_total row_same sorted (ordered row_cmp rows) (sorted_ascending sorted s)
    (ascending_ordered nat_list_cmp_total rows)
    (λ u. many-IsPermutation (eq_by_cmp row_cmp u) rows sorted p
    ∙ sym (count_ordered nat_list_cmp_total (eq_by_cmp row_cmp u) rows))
