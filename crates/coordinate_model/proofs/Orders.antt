-- Words: their order is total and agrees with the product, and ordering keeps the letters.
use Rattle.std.proofs.Common.{◌≡◌, ℕ, Bool, true, false, cond, List, [], ◌∷◌, ◌++◌, refl, sym, ap, ◌∙◌, true≢false}
use Rattle.std.proofs.Common.{append-nil, ◌+◌, arith}
use Rattle.std.specs.declared.cmp.Ordering.{Ordering}
use Rattle.std.specs.declared.cmp.Ordering.TheVariants.{Less, Equal, Greater}
use Rattle.std.specs.Ordering.{is_gt, flip_args, ordering_then, ordering_reverse}
use Rattle.std.specs.Cmp.{IsTotalOrder, tied_itself, alike_right}
use Rattle.std.specs.Cmp.Lexicographic.{slice_cmp}
use Rattle.std.specs.FinMap.{IsAntisymmetric}
use Rattle.coordinate_model.specs.Words.{place, ordered}
use Rattle.coordinate_model.proofs.Counts.{many, one_if}

gt_is : (r : Ordering) → is_gt r ≡ true → r ≡ Greater
gt_is Less e = absurd (true≢false (sym e))
gt_is Equal e = absurd (true≢false (sym e))
gt_is Greater e = refl

swap_sum : (a b c : ℕ) → a + (b + c) ≡ b + (a + c)
swap_sum a b c = omega arith

module _ {V : Type 0} {R : V → V → Ordering} (o : IsTotalOrder R) where
  after : (x v : V) → is_gt (R v x) ≡ true → R x v ≡ Less
  after x v e = o.antisymm x v ∙ ap ordering_reverse (gt_is (R v x) e)

  between_by : (x v y : V) (r : Ordering) → R v y ≡ r → R x v ≡ Less → is_gt r ≡ false → R x y ≡ Less
  between_by x v y Less e l h = o.trans x v y l e
  between_by x v y Equal e l h = sym (alike_right o v y x e) ∙ l
  between_by x v y Greater e l h = absurd (true≢false h)

  -- x < v <= y
  between : (x v y : V) → is_gt (R v x) ≡ true → is_gt (R v y) ≡ false → R x y ≡ Less
  between x v y e h = between_by x v y (R v y) refl (after x v e) h

  -- the order of ordered words
  abbrev lex : List V → List V → Ordering
  lex = slice_cmp (flip_args R)

  place_step : (v x y : V) (xs ys : List V) (s t : Bool) → is_gt (R v x) ≡ s → is_gt (R v y) ≡ t
      → lex (place R v xs) (place R v ys) ≡ lex xs ys
      → lex (cond s (x ∷ place R v xs) (v ∷ x ∷ xs)) (cond t (y ∷ place R v ys) (v ∷ y ∷ ys)) ≡ lex (x ∷ xs) (y ∷ ys)
  place_step v x y xs ys true true p q e = ap (ordering_then (R y x)) e
  place_step v x y xs ys true false p q e =
      ap (λ r. ordering_then r (lex (place R v xs) (y ∷ ys))) (gt_is (R v x) p)
      ∙ ap (λ r. ordering_then r (lex xs ys)) (sym (o.antisymm y x ∙ ap ordering_reverse (between x v y p q)))
  place_step v x y xs ys false true p q e =
      ap (λ r. ordering_then r (lex (x ∷ xs) (place R v ys))) (after y v q)
      ∙ ap (λ r. ordering_then r (lex xs ys)) (sym (between y v x q p))
  place_step v x y xs ys false false p q e = ap (λ r. ordering_then r (lex (x ∷ xs) (y ∷ ys))) (tied_itself o v)

  place_first : (v y : V) (ys : List V) (t : Bool) → is_gt (R v y) ≡ t
      → lex (v ∷ []) (cond t (y ∷ place R v ys) (v ∷ y ∷ ys)) ≡ Less
  place_first v y ys true e = ap (λ r. ordering_then r (lex [] (place R v ys))) (after y v e)
  place_first v y ys false e = ap (λ r. ordering_then r Less) (tied_itself o v)

  place_last : (v x : V) (xs : List V) (t : Bool) → is_gt (R v x) ≡ t
      → lex (cond t (x ∷ place R v xs) (v ∷ x ∷ xs)) (v ∷ []) ≡ Greater
  place_last v x xs true e = ap (λ r. ordering_then r (lex (place R v xs) [])) (gt_is (R v x) e)
  place_last v x xs false e = ap (λ r. ordering_then r Greater) (tied_itself o v)

  -- one more letter on both sides changes no comparison
  pub place_cmp : (v : V) (a b : List V) → lex (place R v a) (place R v b) ≡ lex a b
  place_cmp v [] [] = ap (λ r. ordering_then r Equal) (tied_itself o v)
  place_cmp v [] (y ∷ ys) = place_first v y ys (is_gt (R v y)) refl
  place_cmp v (x ∷ xs) [] = place_last v x xs (is_gt (R v x)) refl
  place_cmp v (x ∷ xs) (y ∷ ys) = place_step v x y xs ys (is_gt (R v x)) (is_gt (R v y)) refl refl (place_cmp v xs ys)

  -- the order of words that are not yet ordered
  abbrev pub word_cmp : List V → List V → Ordering
  word_cmp a b = lex (ordered R a) (ordered R b)

  pub append_cmp : (c a b : List V) → word_cmp (c ++ a) (c ++ b) ≡ word_cmp a b
  append_cmp [] a b = refl
  append_cmp (v ∷ c) a b = place_cmp v (ordered R (c ++ a)) (ordered R (c ++ b)) ∙ append_cmp c a b

  place_past : (v x : V) (xs : List V) → is_gt (R v x) ≡ true → place R v (x ∷ xs) ≡ x ∷ place R v xs
  place_past v x xs e = ap (λ b. cond b (x ∷ place R v xs) (v ∷ x ∷ xs)) e

  place_before : (v x : V) (xs : List V) → is_gt (R v x) ≡ false → place R v (x ∷ xs) ≡ v ∷ x ∷ xs
  place_before v x xs e = ap (λ b. cond b (x ∷ place R v xs) (v ∷ x ∷ xs)) e

  before : (v x : V) → R v x ≡ Less → is_gt (R v x) ≡ false
  before v x e = ap is_gt e

  -- w <= x < v
  apart : (v w x : V) → is_gt (R v x) ≡ true → is_gt (R w x) ≡ false → is_gt (R v w) ≡ true
  apart v w x e h = ap is_gt (o.antisymm v w ∙ ap ordering_reverse (apart_by (R w x) refl h))
    where
      apart_by : (r : Ordering) → R w x ≡ r → is_gt r ≡ false → R w v ≡ Less
      apart_by Less p k = o.trans w x v p (after x v e)
      apart_by Equal p k = o.congr w x v p ∙ after x v e
      apart_by Greater p k = absurd (true≢false k)

  module _ (same : IsAntisymmetric R) where
    two_by : (v w : V) (l : List V) → place R v l ≡ v ∷ l → place R w l ≡ w ∷ l → (r : Ordering) → R v w ≡ r
        → place R v (w ∷ l) ≡ place R w (v ∷ l)
    two_by v w l p q Less e =
        place_before v w l (ap is_gt e) ∙ sym (place_past w v l (ap is_gt (o.antisymm w v ∙ ap ordering_reverse e))
        ∙ ap (λ t. v ∷ t) q)
    two_by v w l p q Equal e = λ i. place R (same v w e i) (sym (same v w e) i ∷ l)
    two_by v w l p q Greater e =
        place_past v w l (ap is_gt e) ∙ ap (λ t. w ∷ t) p
        ∙ sym (place_before w v l (ap is_gt (o.antisymm w v ∙ ap ordering_reverse e)))

    two : (v w : V) (l : List V) → place R v l ≡ v ∷ l → place R w l ≡ w ∷ l → place R v (w ∷ l) ≡ place R w (v ∷ l)
    two v w l p q = two_by v w l p q (R v w) refl

    comm_step : (v w x : V) (xs : List V) (s t : Bool) → is_gt (R v x) ≡ s → is_gt (R w x) ≡ t
        → place R v (place R w xs) ≡ place R w (place R v xs)
        → place R v (place R w (x ∷ xs)) ≡ place R w (place R v (x ∷ xs))
    comm_step v w x xs true true p q e =
        ap (place R v) (place_past w x xs q) ∙ place_past v x (place R w xs) p ∙ ap (λ t. x ∷ t) e
        ∙ sym (ap (place R w) (place_past v x xs p) ∙ place_past w x (place R v xs) q)
    comm_step v w x xs true false p q e =
        ap (place R v) (place_before w x xs q) ∙ place_past v w (x ∷ xs) (apart v w x p q)
        ∙ ap (λ t. w ∷ t) (place_past v x xs p)
        ∙ sym (ap (place R w) (place_past v x xs p) ∙ place_before w x (place R v xs) q)
    comm_step v w x xs false true p q e =
        ap (place R v) (place_past w x xs q) ∙ place_before v x (place R w xs) p
        ∙ sym (ap (place R w) (place_before v x xs p) ∙ place_past w v (x ∷ xs) (apart w v x q p)
        ∙ ap (λ t. v ∷ t) (place_past w x xs q))
    comm_step v w x xs false false p q e =
        ap (place R v) (place_before w x xs q) ∙ two v w (x ∷ xs) (place_before v x xs p) (place_before w x xs q)
        ∙ sym (ap (place R w) (place_before v x xs p))

    pub place_comm : (v w : V) (a : List V) → place R v (place R w a) ≡ place R w (place R v a)
    place_comm v w [] = two v w [] refl refl
    place_comm v w (x ∷ xs) = comm_step v w x xs (is_gt (R v x)) (is_gt (R w x)) refl refl (place_comm v w xs)

    ordered_middle : (a : List V) (v : V) (b : List V) → ordered R (a ++ v ∷ b) ≡ place R v (ordered R (a ++ b))
    ordered_middle [] v b = refl
    ordered_middle (x ∷ a) v b = ap (place R x) (ordered_middle a v b) ∙ place_comm x v (ordered R (a ++ b))

    pub ordered_append_comm : (a b : List V) → ordered R (a ++ b) ≡ ordered R (b ++ a)
    ordered_append_comm a [] = ap (ordered R) (append-nil a)
    ordered_append_comm a (v ∷ b) = ordered_middle a v b ∙ ap (place R v) (ordered_append_comm a b)

  -- how many letters pass a test does not depend on the order
  count_step : (p : V → Bool) (v x : V) (xs : List V) (b : Bool) → many p (place R v xs) ≡ many p (v ∷ xs)
      → many p (cond b (x ∷ place R v xs) (v ∷ x ∷ xs)) ≡ many p (v ∷ x ∷ xs)
  count_step p v x xs true e = ap (λ n. one_if (p x) + n) e ∙ swap_sum (one_if (p x)) (one_if (p v)) (many p xs)
  count_step p v x xs false e = refl

  pub count_place : (p : V → Bool) (v : V) (a : List V) → many p (place R v a) ≡ many p (v ∷ a)
  count_place p v [] = refl
  count_place p v (x ∷ xs) = count_step p v x xs (is_gt (R v x)) (count_place p v xs)

  pub count_ordered : (p : V → Bool) (a : List V) → many p (ordered R a) ≡ many p a
  count_ordered p [] = refl
  count_ordered p (v ∷ a) = count_place p v (ordered R a) ∙ ap (λ n. one_if (p v) + n) (count_ordered p a)

  -- a letter that stands before no letter of the word
  abbrev pub IsLeast : V → List V → Type 0
  IsLeast x [] = Unit {0}
  IsLeast x (y ∷ ys) = (is_gt (R x y) ≡ false) × IsLeast x ys

  least_step : (x v y : V) (ys : List V) (b : Bool) → is_gt (R x v) ≡ false → is_gt (R x y) ≡ false → IsLeast x ys
      → IsLeast x (place R v ys) → IsLeast x (cond b (y ∷ place R v ys) (v ∷ y ∷ ys))
  least_step x v y ys true h k l m = (k, m)
  least_step x v y ys false h k l m = (h, (k, l))

  pub least_place : (x v : V) (w : List V) → is_gt (R x v) ≡ false → IsLeast x w → IsLeast x (place R v w)
  least_place x v [] h l = (h, tt)
  least_place x v (y ∷ ys) h l = least_step x v y ys (is_gt (R v y)) h l.0 l.1 (least_place x v ys h l.1)

  pub least_ordered : (x : V) (w : List V) → IsLeast x w → IsLeast x (ordered R w)
  least_ordered x [] l = tt
  least_ordered x (v ∷ w) l = least_place x v (ordered R w) l.0 (least_ordered x w l.1)

  pub place_least : (x : V) (w : List V) → IsLeast x w → place R x w ≡ x ∷ w
  place_least x [] l = refl
  place_least x (y ∷ ys) l = place_before x y ys l.0

  pub ordered_least : (x : V) (w : List V) → IsLeast x w → ordered R (x ∷ w) ≡ x ∷ ordered R w
  ordered_least x w l = place_least x (ordered R w) (least_ordered x w l)
