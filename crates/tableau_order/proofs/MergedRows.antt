-- Rows merged into two lists of one length keep their order, and the points stay.
use Rattle.std.proofs.Common.{◌≡◌, ℕ, suc, ◌+◌, ◌==◌, Bool, true, false, cond, List, [], ◌∷◌, ◌++◌, length, count_by}
use Rattle.std.proofs.Common.{refl, sym, ap, subst, ◌∙◌, arith, true≢false, Ordering, Less, Equal, Greater, is_gt}
use Rattle.std.specs.Cmp.{IsTotalOrder, tied_itself}
use Rattle.std.specs.Cmp.Lexicographic.{slice_cmp, nat_list_cmp_total}
use Rattle.std.specs.FinMap.{IsAntisymmetric}
use Rattle.std.specs.Ordering.{ordering_then, ordering_reverse}
use Rattle.coordinate_model.specs.Key.{row_cmp, points}
use Rattle.coordinate_model.specs.Words.{place, ordered}
use Rattle.coordinate_model.proofs.Homogeneous.{times-ordered, times-append}
use Rattle.coordinate_model.proofs.Keys.{times_in}
use Rattle.coordinate_model.proofs.KeySumLaws.{row_same}
use Rattle.coordinate_model.proofs.Sorting.{count-many}
use Rattle.tableau_order.specs.Merged.{merged_rows, KeepsOrder, SmallerPair, KeepsPoints}

module _ {A : Type 0} (R : A → A → Ordering) (o : IsTotalOrder R) (same : IsAntisymmetric R) where
  is_greater : (r : Ordering) → is_gt r ≡ true → r ≡ Greater
  is_greater Less e = cc
  is_greater Equal e = cc
  is_greater Greater e = refl

  under : (x a : A) → is_gt (R x a) ≡ true → R a x ≡ Less
  under x a e = o.antisymm a x ∙ ap ordering_reverse (is_greater (R x a) e)

  -- x is greater than a and not greater than b
  between : (x a b : A) → is_gt (R x a) ≡ true → is_gt (R x b) ≡ false → R a b ≡ Less
  between x a b e f = step (R x b) refl f
    where
      step : (r : Ordering) → R x b ≡ r → is_gt r ≡ false → R a b ≡ Less
      step Less h k = o.trans a x b (under x a e) h
      step Equal h k = subst (λ (z : A). R a z ≡ Less) (same x b h) (under x a e)
      step Greater h k = absurd (true≢false k)

  place_both : (x a b : A) (xs ys : List A) (s t : Bool) → is_gt (R x a) ≡ s → is_gt (R x b) ≡ t
      → slice_cmp R (place R x xs) (place R x ys) ≡ slice_cmp R xs ys
      → slice_cmp R (cond s (a ∷ place R x xs) (x ∷ a ∷ xs)) (cond t (b ∷ place R x ys) (x ∷ b ∷ ys))
      ≡ slice_cmp R (a ∷ xs) (b ∷ ys)
  place_both x a b xs ys true true p q later = ap (ordering_then (R a b)) later
  place_both x a b xs ys true false p q later =
      ap (λ r. ordering_then r (slice_cmp R (place R x xs) (b ∷ ys))) (under x a p)
      ∙ sym (ap (λ r. ordering_then r (slice_cmp R xs ys)) (between x a b p q))
  place_both x a b xs ys false true p q later =
      ap (λ r. ordering_then r (slice_cmp R (a ∷ xs) (place R x ys))) (is_greater (R x b) q)
      ∙ sym (ap (λ r. ordering_then r (slice_cmp R xs ys)) (o.antisymm a b ∙ ap ordering_reverse (between x b a q p)))
  place_both x a b xs ys false false p q later =
      ap (λ r. ordering_then r (slice_cmp R (a ∷ xs) (b ∷ ys))) (tied_itself o x)

  place_keeps : (x : A) (xs ys : List A) → length xs ≡ length ys
      → slice_cmp R (place R x xs) (place R x ys) ≡ slice_cmp R xs ys
  place_keeps x [] [] e = ap (λ r. ordering_then r Equal) (tied_itself o x)
  place_keeps x [] (b ∷ ys) e = absurd (omega arith)
  place_keeps x (a ∷ xs) [] e = absurd (omega arith)
  place_keeps x (a ∷ xs) (b ∷ ys) e =
      place_both x a b xs ys (is_gt (R x a)) (is_gt (R x b)) refl refl (place_keeps x xs ys (omega arith))

  length-place : (x : A) (ys : List A) → length (place R x ys) ≡ suc (length ys)
  length-place x [] = refl
  length-place x (y ∷ ys) =
      elim (is_gt (R x y)) as (λ b. length (cond b (y ∷ place R x ys) (x ∷ y ∷ ys)) ≡ suc (suc (length ys))) [
        | true ↦ ap suc (length-place x ys)
        | false ↦ refl
      ]

  pub length-ordered : (xs : List A) → length (ordered R xs) ≡ length xs
  length-ordered [] = refl
  length-ordered (x ∷ xs) = length-place x (ordered R xs) ∙ ap suc (length-ordered xs)

  same_length : (rs xs ys : List A) → length xs ≡ length ys
      → length (ordered R (rs ++ xs)) ≡ length (ordered R (rs ++ ys))
  same_length [] xs ys e = length-ordered xs ∙ e ∙ sym (length-ordered ys)
  same_length (r ∷ rs) xs ys e =
      length-place r (ordered R (rs ++ xs)) ∙ ap suc (same_length rs xs ys e)
      ∙ sym (length-place r (ordered R (rs ++ ys)))

  -- the same items in both change no comparison
  pub keeps : (rs xs ys : List A) → length xs ≡ length ys
      → slice_cmp R (ordered R (rs ++ xs)) (ordered R (rs ++ ys)) ≡ slice_cmp R (ordered R xs) (ordered R ys)
  keeps [] xs ys e = refl
  keeps (r ∷ rs) xs ys e =
      place_keeps r (ordered R (rs ++ xs)) (ordered R (rs ++ ys)) (same_length rs xs ys e) ∙ keeps rs xs ys e

  -- a pair in order
  pub pair_in_order : (a b : A) → is_gt (R a b) ≡ false → ordered R (a ∷ b ∷ []) ≡ a ∷ b ∷ []
  pair_in_order a b e = ap (λ s. cond s (b ∷ a ∷ []) (a ∷ b ∷ [])) e

  less_head : (x a : A) (xs ys : List A) → R x a ≡ Less → slice_cmp R (x ∷ xs) (a ∷ ys) ≡ Less
  less_head x a xs ys e = ap (λ r. ordering_then r (slice_cmp R xs ys)) e

  smaller_pair : (low high first second : A) → is_gt (R low high) ≡ false → R first low ≡ Less
      → slice_cmp R (ordered R (first ∷ second ∷ [])) (ordered R (low ∷ high ∷ [])) ≡ Less
  smaller_pair low high first second g l =
      ap (slice_cmp R (ordered R (first ∷ second ∷ []))) (pair_in_order low high g) ∙ step (is_gt (R first second)) refl
    where
      step : (s : Bool) → is_gt (R first second) ≡ s
          → slice_cmp R (cond s (second ∷ first ∷ []) (first ∷ second ∷ [])) (low ∷ high ∷ []) ≡ Less
      step true e =
          less_head second low (first ∷ []) (high ∷ []) (o.trans second first low (under first second e) l)
      step false e = less_head first low (second ∷ []) (high ∷ []) l

pub keeps_order : KeepsOrder
keeps_order rest xs ys e = keeps row_cmp nat_list_cmp_total row_same rest xs ys e

pub smaller_pairs : SmallerPair
smaller_pairs rest low high first second g l =
    keeps_order rest (first ∷ second ∷ []) (low ∷ high ∷ []) refl
    ∙ smaller_pair row_cmp nat_list_cmp_total row_same low high first second g l

-- a point of the tableau is one of the rows
times-merged : (i : ℕ) (rest xs : List (List ℕ))
    → times_in i (points (merged_rows rest xs)) ≡ times_in i (points rest) + times_in i (points xs)
times-merged i rest xs = times-ordered i (rest ++ xs) ∙ times-append i rest xs

count-times : (i : ℕ) (xs : List (List ℕ)) → count_by (λ p. i == p) (points xs) ≡ times_in i (points xs)
count-times i xs = count-many (λ p. i == p) (points xs)

pub keeps_points : KeepsPoints
keeps_points rest xs = record {
  all =
      λ i. count-times i (merged_rows rest xs) ∙ times-ordered i (rest ++ xs) ∙ sym (count-times i (rest ++ xs));
  same =
      λ ys e i.
      let here : times_in i (points xs) ≡ times_in i (points ys) = sym (count-times i xs) ∙ e i ∙ count-times i ys in
      count-times i (merged_rows rest xs) ∙ times-merged i rest xs ∙ ap (λ n. times_in i (points rest) + n) here
      ∙ sym (times-merged i rest ys) ∙ sym (count-times i (merged_rows rest ys));
}
