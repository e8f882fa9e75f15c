-- Sums by groups: the products of a list, put together by their extensors.
use Rattle.std.proofs.Common.{◌≡◌, ℕ, ◌+◌, Bool, true, false, cond, List, [], ◌∷◌, ◌++◌, flat_map, refl, sym, ap, ap₂}
use Rattle.std.proofs.Common.{◌∙◌, arith}
use Rattle.std.proofs.Common.{Ordering, Less, Equal, Greater, true≢false}
use Rattle.std.specs.Ordering.{is_eq, eq_by_cmp, ordering_reverse}
use Rattle.std.specs.List.{AllByRecursion}
use Rattle.std.specs.Cmp.{tied_itself}
use Rattle.std.specs.Cmp.Lexicographic.{nat_list_cmp_total}
use Rattle.coordinate_model.specs.Ring.{Ops, IsCommRing}
use Rattle.coordinate_model.specs.Brackets.{sum_over}
use Rattle.coordinate_model.specs.Key.{row_cmp}
use Rattle.coordinate_model.specs.Starts.{Product, put_extensor, reached, products_at}
use Rattle.coordinate_model.proofs.Counts.{one_if, many}
use Rattle.coordinate_model.proofs.KeySumLaws.{row_same}
use Rattle.coordinate_model.proofs.RingLemmas as L

-- ---- the extensors that are reached ascend, and each stands once

-- x stands before each of the list
abbrev pub IsBelow : List ℕ → List (List ℕ) → Type 0
IsBelow x xs = AllByRecursion (λ y. row_cmp x y ≡ Less) xs

-- the list strictly ascends
abbrev pub Ascend : List (List ℕ) → Type 0
Ascend [] = Unit {0}
Ascend (x ∷ xs) = IsBelow x xs × Ascend xs

-- how often the list has the extensor
abbrev times_in : List ℕ → List (List ℕ) → ℕ
times_in x xs = many (eq_by_cmp row_cmp x) xs

below_next : (x y : List ℕ) (xs : List (List ℕ)) → row_cmp x y ≡ Less → IsBelow y xs → IsBelow x xs
below_next x y [] e h = tt
below_next x y (z ∷ xs) e h = (nat_list_cmp_total.trans x y z e h.0, below_next x y xs e h.1)

-- the list with x put in
abbrev put_by : List ℕ → List ℕ → List (List ℕ) → Ordering → List (List ℕ)
put_by x y ys r = elim r [ Less ↦ x ∷ y ∷ ys | Equal ↦ y ∷ ys | Greater ↦ y ∷ put_extensor x ys ]

below_put : (z x : List ℕ) (xs : List (List ℕ)) → row_cmp z x ≡ Less → IsBelow z xs → IsBelow z (put_extensor x xs)
below_put z x [] e h = (e, tt)
below_put z x (y ∷ ys) e h = step (row_cmp x y) (below_put z x ys e h.1)
  where
    step : (r : Ordering) → IsBelow z (put_extensor x ys) → IsBelow z (put_by x y ys r)
    step Less i = (e, h)
    step Equal i = h
    step Greater i = (h.0, i)

ascend_put : (x : List ℕ) (xs : List (List ℕ)) → Ascend xs → Ascend (put_extensor x xs)
ascend_put x [] h = (tt, tt)
ascend_put x (y ∷ ys) h = step (row_cmp x y) refl (ascend_put x ys h.1)
  where
    step : (r : Ordering) → row_cmp x y ≡ r → Ascend (put_extensor x ys) → Ascend (put_by x y ys r)
    step Less e i = ((e, below_next x y ys e h.0), h)
    step Equal e i = h
    step Greater e i =
        (below_put y x ys (nat_list_cmp_total.antisymm y x ∙ ap ordering_reverse e) h.0, i)

pub ascend-reached : (ps : List Product) → Ascend (reached ps)
ascend-reached [] = tt
ascend-reached (p ∷ ps) = ascend_put p.extensor (reached ps) (ascend-reached ps)

none_below : (x : List ℕ) (xs : List (List ℕ)) → IsBelow x xs → times_in x xs ≡ 0
none_below x [] h = refl
none_below x (y ∷ ys) h = step (row_cmp x y) h.0 (none_below x ys h.1)
  where
    step : (r : Ordering) → r ≡ Less → times_in x ys ≡ 0 → one_if (is_eq r) + times_in x ys ≡ 0
    step r e i = let here : one_if (is_eq r) ≡ 0 = ap (λ r. one_if (is_eq r)) e in omega arith

once_put : (x : List ℕ) (xs : List (List ℕ)) → Ascend xs → times_in x (put_extensor x xs) ≡ 1
once_put x [] h = ap (λ r. one_if (is_eq r) + 0) (tied_itself nat_list_cmp_total x)
once_put x (y ∷ ys) h = step (row_cmp x y) refl (once_put x ys h.1)
  where
    step : (r : Ordering) → row_cmp x y ≡ r → times_in x (put_extensor x ys) ≡ 1
        → times_in x (put_by x y ys r) ≡ 1
    step Less e i =
        let here : one_if (is_eq (row_cmp x x)) ≡ 1 = ap (λ r. one_if (is_eq r)) (tied_itself nat_list_cmp_total x) in
        let none : times_in x (y ∷ ys) ≡ 0 = none_below x (y ∷ ys) (e, below_next x y ys e h.0) in
        omega arith
    step Equal e i =
        let here : one_if (is_eq (row_cmp x y)) ≡ 1 = ap (λ r. one_if (is_eq r)) e in
        let same : x ≡ y = row_same x y e in
        let none : times_in x ys ≡ 0 = ap (λ z. times_in z ys) same ∙ none_below y ys h.0 in
        omega arith
    step Greater e i =
        let here : one_if (is_eq (row_cmp x y)) ≡ 0 = ap (λ r. one_if (is_eq r)) e in
        omega arith

other_put : (z x : List ℕ) (xs : List (List ℕ)) → is_eq (row_cmp z x) ≡ false
    → times_in z (put_extensor x xs) ≡ times_in z xs
other_put z x [] h = ap (λ b. one_if b + 0) h
other_put z x (y ∷ ys) h = step (row_cmp x y) (other_put z x ys h)
  where
    step : (r : Ordering) → times_in z (put_extensor x ys) ≡ times_in z ys
        → times_in z (put_by x y ys r) ≡ times_in z (y ∷ ys)
    step Less i = let here : one_if (is_eq (row_cmp z x)) ≡ 0 = ap one_if h in omega arith
    step Equal i = refl
    step Greater i = ap (λ n. one_if (is_eq (row_cmp z y)) + n) i

still_once : (z x : List ℕ) (xs : List (List ℕ)) → Ascend xs → times_in z xs ≡ 1
    → times_in z (put_extensor x xs) ≡ 1
still_once z x xs a h = step (row_cmp z x) refl
  where
    step : (r : Ordering) → row_cmp z x ≡ r → times_in z (put_extensor x xs) ≡ 1
    step Less e = other_put z x xs (ap is_eq e) ∙ h
    step Equal e =
        let same : z ≡ x = row_same z x e in
        ap (λ y. times_in y (put_extensor x xs)) same ∙ once_put x xs a
    step Greater e = other_put z x xs (ap is_eq e) ∙ h

all_once : (x : List ℕ) (xs : List (List ℕ)) (ps : List Product) → Ascend xs
    → AllByRecursion (λ p. times_in p.extensor xs ≡ 1) ps
    → AllByRecursion (λ p. times_in p.extensor (put_extensor x xs) ≡ 1) ps
all_once x xs [] a h = tt
all_once x xs (p ∷ ps) a h = (still_once p.extensor x xs a h.0, all_once x xs ps a h.1)

-- each product's extensor stands once among those that are reached
once-reached : (ps : List Product) → AllByRecursion (λ p. times_in p.extensor (reached ps) ≡ 1) ps
once-reached [] = tt
once-reached (p ∷ ps) = (
  once_put p.extensor (reached ps) (ascend-reached ps),
  all_once p.extensor (reached ps) ps (ascend-reached ps) (once-reached ps),
)

-- the order tells no two rows alike, either way
tied_both : (x y : List ℕ) → eq_by_cmp row_cmp x y ≡ eq_by_cmp row_cmp y x
tied_both x y = ap is_eq (nat_list_cmp_total.antisymm x y) ∙ reversed (row_cmp y x)
  where
    reversed : (r : Ordering) → is_eq (ordering_reverse r) ≡ is_eq r
    reversed Less = refl
    reversed Equal = refl
    reversed Greater = refl

pub same_row : (x y : List ℕ) → eq_by_cmp row_cmp x y ≡ true → x ≡ y
same_row x y e = row_same x y (step (row_cmp x y) e)
  where
    step : (r : Ordering) → is_eq r ≡ true → r ≡ Equal
    step Less e = absurd (true≢false (sym e))
    step Equal e = refl
    step Greater e = absurd (true≢false (sym e))

-- ---- sums in a ring

module _ (A : Ops) (R : IsCommRing A) where
  infixl 45 ◌⊕◌
  infixl 55 ◌⊗◌
  open A use {carrier, 𝟘, ◌⊕◌, ◌⊗◌}

  pub sum_over-append : {X : Type 0} (f : X → carrier) (xs ys : List X)
      → sum_over A f (xs ++ ys) ≡ sum_over A f xs ⊕ sum_over A f ys
  sum_over-append f [] ys = sym (L.zero_add A R (sum_over A f ys))
  sum_over-append f (x ∷ xs) ys =
      ap (λ s. f x ⊕ s) (sum_over-append f xs ys) ∙ sym (R.add_assoc (f x) (sum_over A f xs) (sum_over A f ys))

  pub sum_over-flat_map : {X Y : Type 0} (f : Y → carrier) (g : X → List Y) (xs : List X)
      → sum_over A f (flat_map g xs) ≡ sum_over A (λ x. sum_over A f (g x)) xs
  sum_over-flat_map f g [] = refl
  sum_over-flat_map f g (x ∷ xs) =
      sum_over-append f (g x) (flat_map g xs) ∙ ap (λ s. sum_over A f (g x) ⊕ s) (sum_over-flat_map f g xs)

  -- w weighs products, and u extensors
  module _ (w : Product → carrier) (u : List ℕ → carrier) where
    -- the weight of the products at x
    abbrev weight : List Product → List ℕ → carrier
    weight ps x = sum_over A w (products_at x ps)

    -- the weight of one product, if it is at x
    abbrev alone : Product → List ℕ → carrier
    alone p x = cond (eq_by_cmp row_cmp p.extensor x) (w p) 𝟘

    weight-more : (p : Product) (ps : List Product) (x : List ℕ) → weight (p ∷ ps) x ≡ alone p x ⊕ weight ps x
    weight-more p ps x =
        ap (λ b. sum_over A w (cond b (p ∷ products_at x ps) (products_at x ps))) (tied_both x p.extensor)
        ∙ step (eq_by_cmp row_cmp p.extensor x)
      where
        step : (b : Bool) → sum_over A w (cond b (p ∷ products_at x ps) (products_at x ps))
            ≡ cond b (w p) 𝟘 ⊕ weight ps x
        step true = refl
        step false = sym (L.zero_add A R (weight ps x))

    -- the sum over extensors of their weight times u
    abbrev grouped : List Product → List (List ℕ) → carrier
    grouped ps xs = sum_over A (λ x. weight ps x ⊗ u x) xs

    grouped-none : (xs : List (List ℕ)) → grouped [] xs ≡ 𝟘
    grouped-none [] = refl
    grouped-none (x ∷ xs) =
        ap₂ ◌⊕◌ (L.zero_mul A R (u x)) (grouped-none xs) ∙ R.add_zero 𝟘

    grouped-more : (p : Product) (ps : List Product) (xs : List (List ℕ))
        → grouped (p ∷ ps) xs ≡ sum_over A (λ x. alone p x ⊗ u x) xs ⊕ grouped ps xs
    grouped-more p ps [] = sym (R.add_zero 𝟘)
    grouped-more p ps (x ∷ xs) =
        ap₂ ◌⊕◌
        (ap (λ s. s ⊗ u x) (weight-more p ps x) ∙ L.add_mul A R (alone p x) (weight ps x) (u x))
        (grouped-more p ps xs)
        ∙ L.swap_four A R (alone p x ⊗ u x) (weight ps x ⊗ u x) (sum_over A (λ x. alone p x ⊗ u x) xs) (grouped ps xs)

    alone-none : (p : Product) (xs : List (List ℕ)) → times_in p.extensor xs ≡ 0
        → sum_over A (λ x. alone p x ⊗ u x) xs ≡ 𝟘
    alone-none p [] h = refl
    alone-none p (x ∷ xs) h = step (eq_by_cmp row_cmp p.extensor x) h (alone-none p xs)
      where
        step : (b : Bool) → one_if b + times_in p.extensor xs ≡ 0
            → (times_in p.extensor xs ≡ 0 → sum_over A (λ x. alone p x ⊗ u x) xs ≡ 𝟘)
            → cond b (w p) 𝟘 ⊗ u x ⊕ sum_over A (λ x. alone p x ⊗ u x) xs ≡ 𝟘
        step true e ih = absurd (omega arith)
        step false e ih = ap₂ ◌⊕◌ (L.zero_mul A R (u x)) (ih (omega arith)) ∙ R.add_zero 𝟘

    alone-once : (p : Product) (xs : List (List ℕ)) → times_in p.extensor xs ≡ 1
        → sum_over A (λ x. alone p x ⊗ u x) xs ≡ w p ⊗ u p.extensor
    alone-once p [] h = absurd (omega arith)
    alone-once p (x ∷ xs) h = step (eq_by_cmp row_cmp p.extensor x) refl h (alone-once p xs)
      where
        step : (b : Bool) → eq_by_cmp row_cmp p.extensor x ≡ b → one_if b + times_in p.extensor xs ≡ 1
            → (times_in p.extensor xs ≡ 1 → sum_over A (λ x. alone p x ⊗ u x) xs ≡ w p ⊗ u p.extensor)
            → cond b (w p) 𝟘 ⊗ u x ⊕ sum_over A (λ x. alone p x ⊗ u x) xs ≡ w p ⊗ u p.extensor
        step true t e ih =
            ap₂ ◌⊕◌ (ap (λ y. w p ⊗ u y) (sym (same_row p.extensor x t))) (alone-none p xs (omega arith))
            ∙ R.add_zero (w p ⊗ u p.extensor)
        step false t e ih =
            ap (λ s. s ⊕ sum_over A (λ x. alone p x ⊗ u x) xs) (L.zero_mul A R (u x))
            ∙ L.zero_add A R (sum_over A (λ x. alone p x ⊗ u x) xs) ∙ ih (omega arith)

    regroup_at : (ps : List Product) (xs : List (List ℕ)) → AllByRecursion (λ p. times_in p.extensor xs ≡ 1) ps
        → grouped ps xs ≡ sum_over A (λ p. w p ⊗ u p.extensor) ps
    regroup_at [] xs h = grouped-none xs
    regroup_at (p ∷ ps) xs h =
        grouped-more p ps xs ∙ ap₂ ◌⊕◌ (alone-once p xs h.0) (regroup_at ps xs h.1)

    -- the weights put together by extensors are the weights of all
    pub regroup : (ps : List Product)
        → sum_over A (λ x. sum_over A w (products_at x ps) ⊗ u x) (reached ps)
        ≡ sum_over A (λ p. w p ⊗ u p.extensor) ps
    regroup ps = regroup_at ps (reached ps) (once-reached ps)
