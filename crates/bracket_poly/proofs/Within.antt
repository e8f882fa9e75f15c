-- Keys within bounds, and their products.
use Rattle.std.specs.Prelude.{◌≡◌, ℕ, zero, suc, ◌+◌, ◌<◌, ◌≤◌, List, [], ◌∷◌, ◌++◌, drop, length}
use Rattle.std.specs.List.{AllByRecursion}
use Rattle.std.specs.Ordering.{nat_cmp}
use Rattle.std.proofs.Common.{refl, sym, subst, ◌∙◌, arith, lit≤, length-append}
use Rattle.coordinate_model.specs.Words.{ordered}
use Rattle.coordinate_model.specs.Key.{Key, key_times, row_cmp, add_exponents, rows_key}
use Rattle.coordinate_model.specs.Syzygy.{sorted}
use Rattle.coordinate_model.proofs.KeySizes.{added_up_to, length-in_order}
use Rattle.coordinate_model.proofs.SortedRows.{all_ordered}
use Rattle.coordinate_model.proofs.Splits.{all_append}
use Rattle.bracket_poly.specs.Sizes.{KeyWithin}

-- ---- exponents

add_none : (xs ys : List ℕ) → AllByRecursion (λ x. x ≡ 0) xs → AllByRecursion (λ y. y ≡ 0) ys
    → AllByRecursion (λ z. z ≡ 0) (add_exponents xs ys)
add_none [] ys h k = k
add_none (x ∷ xs) [] h k = h
add_none (x ∷ xs) (y ∷ ys) h k =
    let a : x ≡ 0 = h.0 in let b : y ≡ 0 = k.0 in (omega arith, add_none xs ys h.1 k.1)

drop_add : (m : ℕ) (xs ys : List ℕ) → drop m (add_exponents xs ys) ≡ add_exponents (drop m xs) (drop m ys)
drop_add zero xs ys = refl
drop_add (suc m) [] ys = refl
drop_add (suc m) (x ∷ xs) [] = nothing_more (drop m xs)
  where
    nothing_more : (zs : List ℕ) → zs ≡ add_exponents zs []
    nothing_more [] = refl
    nothing_more (z ∷ zs) = refl
drop_add (suc m) (x ∷ xs) (y ∷ ys) = drop_add m xs ys

pub none_dropped : (m : ℕ) → AllByRecursion (λ (x : ℕ). x ≡ 0) (drop m [])
none_dropped zero = tt
none_dropped (suc m) = tt

-- ---- keys

module _ (points parameters : ℕ) where
  pub within_times : (r e s f : ℕ) (k l : Key) → KeyWithin points parameters r e k → KeyWithin points parameters s f l
      → KeyWithin points parameters (r + s) (e + f) (key_times k l)
  within_times r e s f k l h i =
      let long : length (ordered row_cmp (k.rows ++ l.rows)) ≡ length k.rows + length l.rows =
      length-in_order row_cmp (k.rows ++ l.rows) ∙ length-append k.rows l.rows in
      let a : length k.rows ≤ r = h.few_rows in
      let b : length l.rows ≤ s = i.few_rows in
      record {
        points_below =
            all_ordered row_cmp (AllByRecursion (λ p. p < points)) (k.rows ++ l.rows)
            (all_append _ k.rows l.rows h.points_below i.points_below);
        no_others =
            subst (AllByRecursion (λ x. x ≡ 0)) (sym (drop_add parameters k.exponents l.exponents))
            (add_none (drop parameters k.exponents) (drop parameters l.exponents) h.no_others i.no_others);
        few_rows = omega arith;
        small = added_up_to e f k.exponents l.exponents h.small i.small;
      }

  pub within_none : KeyWithin points parameters 0 0 (rows_key [])
  within_none = record { points_below = tt; no_others = none_dropped parameters; few_rows = lit≤ tt; small = tt }

  pub within_row : (ps : List ℕ) → AllByRecursion (λ p. p < points) ps
      → KeyWithin points parameters 1 0 (rows_key (sorted ps ∷ []))
  within_row ps h = record {
    points_below = (all_ordered nat_cmp (λ p. p < points) ps h, tt);
    no_others = none_dropped parameters;
    few_rows = lit≤ tt;
    small = tt;
  }
