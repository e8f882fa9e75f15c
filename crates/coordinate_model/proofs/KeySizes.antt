-- How large keys are: the rows, points and exponents of products, and keys with the same points.
use Rattle.std.proofs.Common.{◌≡◌, ℕ, zero, suc, ◌+◌, ◌*◌, ◌<◌, ◌≤◌, ◌==◌, Bool, true, false, cond, List, [], ◌∷◌, ◌++◌}
use Rattle.std.proofs.Math.Nat.{mul-div_cancel_left}
use Rattle.std.proofs.Common.{◌/◌, length, get_or, refl, sym, ap, subst, ◌∙◌, arith, eqb-true, eq-eqb, Ordering, is_gt, nat_cmp}
use Rattle.std.specs.Prelude.{count_by}
use Rattle.std.specs.List.{AllByRecursion}
use Rattle.std.specs.Cmp.{nat_cmp_total}
use lib.ListN.{length-append}
use Rattle.coordinate_model.specs.Words.{place, ordered}
use Rattle.coordinate_model.specs.Key.{points, add_exponents}
use Rattle.coordinate_model.proofs.Counts.{one_if}
use Rattle.coordinate_model.proofs.Exponents.{ascending_ordered}
use Rattle.coordinate_model.proofs.Keys.{times_in, same_items}
use Rattle.coordinate_model.proofs.Orders.{count_ordered}
use Rattle.coordinate_model.proofs.Sorting.{count-many, length-ordered}
use Rattle.coordinate_model.proofs.Splits.{all_front, all_back, all_flat_map}
use Rattle.coordinate_model.proofs.StdSort.{ascending_rising}

-- ---- exponents

pub exponent-added : (i : ℕ) (e f : List ℕ) → get_or (add_exponents e f) i 0 ≡ get_or e i 0 + get_or f i 0
exponent-added i [] f = omega arith
exponent-added i (x ∷ e) [] = omega arith
exponent-added zero (x ∷ e) (y ∷ f) = refl
exponent-added (suc i) (x ∷ e) (y ∷ f) = exponent-added i e f

up_to_more : (a b : ℕ) (e : List ℕ) → AllByRecursion (λ x. x ≤ a) e → a ≤ b → AllByRecursion (λ x. x ≤ b) e
up_to_more a b [] h l = tt
up_to_more a b (x ∷ e) h l = (let g = h.0 in omega arith, up_to_more a b e h.1 l)

pub added_up_to : (a b : ℕ) (e f : List ℕ) → AllByRecursion (λ x. x ≤ a) e → AllByRecursion (λ x. x ≤ b) f
    → AllByRecursion (λ x. x ≤ a + b) (add_exponents e f)
added_up_to a b [] f h k = up_to_more b (a + b) f k (omega arith)
added_up_to a b (x ∷ e) [] h k = up_to_more a (a + b) (x ∷ e) h (omega arith)
added_up_to a b (x ∷ e) (y ∷ f) h k = (let g = h.0 in let l = k.0 in omega arith, added_up_to a b e f h.1 k.1)

-- ---- rows

length-place : {A : Type 0} (R : A → A → Ordering) (x : A) (xs : List A) → length (place R x xs) ≡ suc (length xs)
length-place R x [] = refl
length-place {A} R x (y ∷ ys) = step (is_gt (R x y)) (length-place R x ys)
  where
    step : (b : Bool) → length (place R x ys) ≡ suc (length ys)
        → length (cond {A = List A} b (y ∷ place R x ys) (x ∷ y ∷ ys)) ≡ suc (suc (length ys))
    step true e = ap suc e
    step false e = refl

-- any items in order are as many
pub length-in_order : {A : Type 0} (R : A → A → Ordering) (xs : List A) → length (ordered R xs) ≡ length xs
length-in_order R [] = refl
length-in_order R (x ∷ xs) = length-place R x (ordered R xs) ∙ ap suc (length-in_order R xs)

pub length-points : (d : ℕ) (rows : List (List ℕ)) → AllByRecursion (λ r. length r ≡ d) rows
    → length (points rows) ≡ d * length rows
length-points d [] h = omega arith
length-points d (r ∷ rows) h =
    let e : length (points rows) ≡ d * length rows = length-points d rows h.1 in
    let f : length r ≡ d = h.0 in
    let g : length (r ++ points rows) ≡ length r + length (points rows) = length-append r (points rows) in
    let m : d * suc (length rows) ≡ d + d * length rows = omega arith in
    omega arith

-- what holds of the points of each row holds of all points, and back
pub all_points : (P : ℕ → Type 0) (rows : List (List ℕ)) → AllByRecursion (AllByRecursion P) rows
    → AllByRecursion P (points rows)
all_points P rows h = all_flat_map (AllByRecursion P) P (λ r. r) (λ r g. g) rows h

pub each_row : (P : ℕ → Type 0) (rows : List (List ℕ)) → AllByRecursion P (points rows)
    → AllByRecursion (AllByRecursion P) rows
each_row P [] h = tt
each_row P (r ∷ rows) h = (all_front P r (points rows) h, each_row P rows (all_back P r (points rows) h))

-- ---- lists with the same points, each as often

module _ (xs ys : List ℕ) (same : (i : ℕ) → count_by (λ p. i == p) xs ≡ count_by (λ p. i == p) ys) where
  times : (i : ℕ) → times_in i xs ≡ times_in i ys
  times i = sym (count-many (λ p. i == p) xs) ∙ same i ∙ count-many (λ p. i == p) ys

  pub same_length : length xs ≡ length ys
  same_length =
      sym (length-ordered xs)
      ∙ ap (λ (zs : List ℕ). length zs)
      (same_items (ordered nat_cmp xs) (ordered nat_cmp ys)
      (ascending_rising (ordered nat_cmp xs) (ascending_ordered nat_cmp_total xs))
      (ascending_rising (ordered nat_cmp ys) (ascending_ordered nat_cmp_total ys))
      (λ i. count_ordered nat_cmp_total (λ x. i == x) xs ∙ times i ∙ sym (count_ordered nat_cmp_total (λ x. i == x) ys)))
      ∙ length-ordered ys

  pub all_of_same : (P : ℕ → Type 0) → AllByRecursion P xs → AllByRecursion P ys
  all_of_same P h = each ys (λ y l. there y xs h (let e = times y in omega arith))
    where
      there : (y : ℕ) (zs : List ℕ) → AllByRecursion P zs → 1 ≤ times_in y zs → P y
      there y [] h l = absurd (omega arith)
      there y (z ∷ zs) h l = step (y == z) refl (there y zs h.1)
        where
          step : (b : Bool) → (y == z) ≡ b → (1 ≤ times_in y zs → P y) → P y
          step true e f = subst P (sym (eqb-true y z e)) h.0
          step false e f = f (let g : one_if (y == z) ≡ 0 = ap one_if e in omega arith)

      each : (zs : List ℕ) → ((y : ℕ) → 1 ≤ times_in y zs → P y) → AllByRecursion P zs
      each [] h = tt
      each (z ∷ zs) h = (
        h z (let g : one_if (z == z) ≡ 1 = ap one_if (eq-eqb z z refl) in omega arith),
        each zs (λ y l. h y (omega arith)),
      )

-- as many rows of d points have as many points in one way
pub same_rows : (d a b : ℕ) → 0 < d → d * a ≡ d * b → a ≡ b
same_rows d a b pos e = sym (mul-div_cancel_left a pos) ∙ ap (λ n. n / d) e ∙ mul-div_cancel_left b pos
