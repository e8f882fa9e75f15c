-- The products of joins, meets and combinations of values are products of bracket polynomials of the rank, and their
-- extensors have as many points as the step says, or none where that is the rank.
use Rattle.std.proofs.Common.{◌≡◌, ℕ, ◌+◌, ◌-◌, ◌<◌, ◌≤◌, ◌==◌, Bool, true, false, cond, List, [], ◌∷◌, ◌++◌, length, map, flat_map}
use Rattle.std.proofs.Common.{replicate, slice_set}
use Rattle.std.proofs.Common.{refl, sym, ap, ap₂, subst, ◌∙◌, arith, eqb-true}
use Rattle.std.proofs.Common.{Ordering, Less, Equal, Greater}
use Rattle.std.specs.Prelude.{if◌then◌else◌, ◌*ℤ◌, Some, None}
use Rattle.std.specs.List.{AllByRecursion}
use Rattle.std.proofs.lemmas.List.{length-set, length-replicate}
use lib.ListN.{length-append}
use Rattle.coordinate_model.specs.Sequences.{range, splits, at_places, repeats, sign_of}
use Rattle.coordinate_model.specs.Key.{row_cmp, IsRow, IsKey}
use Rattle.coordinate_model.specs.BracketPolynomial.{BracketPolynomial, IsBracketPolynomial, parameter_of}
use Rattle.coordinate_model.specs.Syzygy.{sorted}
use Rattle.coordinate_model.specs.Value.{Value, HasStep}
use Rattle.coordinate_model.specs.Starts.{Product, Entry, join_product, join_products, meet_product, meet_products, reached}
use Rattle.coordinate_model.specs.Starts.{put_extensor, scaled_product, on_products}
use Rattle.coordinate_model.proofs.KeySets.{all_single}
use Rattle.coordinate_model.proofs.Sorting.{length-ordered}
use Rattle.coordinate_model.proofs.SortedRows.{sorted_increasing}
use Rattle.coordinate_model.proofs.Splits.{IsSplit, splits-are, range-below, length-range_from, length-at_places, all_so}
use Rattle.coordinate_model.proofs.Splits.{all_map, all_append, all_flat_map}
use Rattle.coordinate_model.proofs.StartKeys.{IsProduct}

-- a bracket polynomial of rank d and n parameters with an extensor of a points
pub record IsEntry (d n a : ℕ) (e : Entry) : Type 0 where
  pub points : length e.0 ≡ a
  pub keys : IsBracketPolynomial d n e.1

-- a product of such polynomials, which is added to an extensor of a points
pub record IsSizedProduct (d n a : ℕ) (p : Product) : Type 0 where
  pub product : IsProduct d n p
  pub points : length p.extensor ≡ a

pub has_step : (d n a : ℕ) (A : Value) → AllByRecursion (IsEntry d n a) A → HasStep a A
has_step d n a A h = all_so (IsEntry d n a) (λ e. length e.0 ≡ a) (λ e i. i.points) A h

some_same : {A : Type 0} (a b : A) → Some a ≡ Some b → a ≡ b
some_same a b e = cc

row_of : (d : ℕ) (ps : List ℕ) → length ps ≡ d → repeats ps ≡ false → IsRow d (sorted ps)
row_of d ps l e = (length-ordered ps ∙ l, sorted_increasing ps e)

-- ---- joins

module _ (d n a b : ℕ) (few : a + b ≤ d) where
  -- how many points the extensors of the join have
  abbrev joined : ℕ
  joined = if a + b == d then 0 else a + b

  at_pair : (e f : Entry) → IsEntry d n a e → IsEntry d n b f
      → AllByRecursion (IsSizedProduct d n joined) (join_product d e f)
  at_pair e f h k = repeated (repeats ps) refl
    where
      ps : List ℕ
      ps = e.0 ++ f.0

      l : length ps ≡ a + b
      l = length-append e.0 f.0 ∙ ap₂ ◌+◌ h.points k.points

      full : (c : Bool) → (length ps == d) ≡ c → repeats ps ≡ false
          → AllByRecursion (IsSizedProduct d n joined) (cond c
          (record { extensor = []; left = e.1; right = f.1; row = Some (sorted ps); sign = sign_of ps } ∷ [])
          (record { extensor = sorted ps; left = e.1; right = f.1; row = None; sign = sign_of ps } ∷ []))
      full true g z = (
        record {
          product = record {
            left = h.keys;
            right = k.keys;
            row = λ r s. subst (IsRow d) (some_same (sorted ps) r s) (row_of d ps (eqb-true (length ps) d g) z);
          };
          points = sym (ap (λ c. cond c 0 (a + b)) (ap (λ m. m == d) (sym l) ∙ g));
        },
        tt,
      )
      full false g z = (
        record {
          product = record { left = h.keys; right = k.keys; row = λ r s. cc };
          points = length-ordered ps ∙ l ∙ sym (ap (λ c. cond c 0 (a + b)) (ap (λ m. m == d) (sym l) ∙ g));
        },
        tt,
      )

      repeated : (c : Bool) → repeats ps ≡ c
          → AllByRecursion (IsSizedProduct d n joined) (cond c [] (cond (length ps == d)
          (record { extensor = []; left = e.1; right = f.1; row = Some (sorted ps); sign = sign_of ps } ∷ [])
          (record { extensor = sorted ps; left = e.1; right = f.1; row = None; sign = sign_of ps } ∷ [])))
      repeated true z = tt
      repeated false z = full (length ps == d) refl z

  pub joins-sized : (A B : Value) → AllByRecursion (IsEntry d n a) A → AllByRecursion (IsEntry d n b) B
      → AllByRecursion (IsSizedProduct d n (if a + b == d then 0 else a + b)) (join_products d A B)
  joins-sized A B p q =
      all_flat_map (IsEntry d n a) (IsSizedProduct d n joined) (λ e. flat_map (join_product d e) B)
      (λ e h. all_flat_map (IsEntry d n b) (IsSizedProduct d n joined) (join_product d e) (λ f k. at_pair e f h k) B q) A p

-- ---- meets

module _ (d n a b : ℕ) (second : b ≤ d) where
  at_split : (e f : Entry) → IsEntry d n a e → IsEntry d n b f → (t : List ℕ × List ℕ)
      → IsSplit (λ i. i < length e.0) (d - length f.0) (length (range (length e.0))) t
      → AllByRecursion (IsSizedProduct d n (a + b - d)) (meet_product e f t)
  at_split e f h k t s = repeated (repeats ps) refl
    where
      ps : List ℕ
      ps = at_places e.0 t.0 ++ f.0

      l : length ps ≡ d
      l =
          let i = k.points in
          let j = s.chosen in
          let m : length (at_places e.0 t.0) ≡ length t.0 = length-at_places e.0 t.0 s.first in
          let o : length ps ≡ length (at_places e.0 t.0) + length f.0 = length-append (at_places e.0 t.0) f.0 in
          omega arith

      rest : length (at_places e.0 t.1) ≡ a + b - d
      rest =
          let i = h.points in
          let j = k.points in
          let m : length (at_places e.0 t.1) ≡ length t.1 = length-at_places e.0 t.1 s.second in
          let o : length (range (length e.0)) ≡ length e.0 = length-range_from 0 (length e.0) in
          let c : length t.1 + (d - length f.0) ≡ length (range (length e.0)) = s.all in
          omega arith

      repeated : (c : Bool) → repeats ps ≡ c
          → AllByRecursion (IsSizedProduct d n (a + b - d)) (cond c [] (record {
            extensor = at_places e.0 t.1;
            left = e.1;
            right = f.1;
            row = Some (sorted ps);
            sign = sign_of (t.0 ++ t.1) *ℤ sign_of ps;
          } ∷ []))
      repeated true z = tt
      repeated false z = (
        record {
          product = record {
            left = h.keys;
            right = k.keys;
            row = λ r g. subst (IsRow d) (some_same (sorted ps) r g) (row_of d ps l z);
          };
          points = rest;
        },
        tt,
      )

  pub meets-sized : (A B : Value) → AllByRecursion (IsEntry d n a) A → AllByRecursion (IsEntry d n b) B
      → AllByRecursion (IsSizedProduct d n (a + b - d)) (meet_products d A B)
  meets-sized A B p q =
      all_flat_map (IsEntry d n a) (IsSizedProduct d n (a + b - d))
      (λ e. flat_map (λ f. flat_map (meet_product e f) (places e f)) B)
      (λ e h. all_flat_map (IsEntry d n b) (IsSizedProduct d n (a + b - d))
      (λ f. flat_map (meet_product e f) (places e f))
      (λ f k. all_flat_map (IsSplit (λ i. i < length e.0) (d - length f.0) (length (range (length e.0))))
      (IsSizedProduct d n (a + b - d)) (meet_product e f) (λ t s. at_split e f h k t s) (places e f)
      (splits-are (λ i. i < length e.0) (d - length f.0) (range (length e.0)) (range-below (length e.0)))) B q) A p
    where
      places : Entry → Entry → List (List ℕ × List ℕ)
      places e f = splits (d - length f.0) (range (length e.0))

-- ---- combinations

module _ (d n a : ℕ) where
  scaled-sized : (f : BracketPolynomial) → IsBracketPolynomial d n f → (A : Value) → AllByRecursion (IsEntry d n a) A
      → AllByRecursion (IsSizedProduct d n a) (map (scaled_product f) A)
  scaled-sized f h A p =
      all_map (IsEntry d n a) (IsSizedProduct d n a) (scaled_product f)
      (λ e i. record { product = record { left = i.keys; right = h; row = λ r s. cc }; points = i.points }) A p

  pub combinations-sized : (s t : BracketPolynomial) → IsBracketPolynomial d n s → IsBracketPolynomial d n t
      → (A B : Value) → AllByRecursion (IsEntry d n a) A → AllByRecursion (IsEntry d n a) B
      → AllByRecursion (IsSizedProduct d n a) (on_products s t A B)
  combinations-sized s t h k A B p q =
      all_append (IsSizedProduct d n a) (map (scaled_product s) A) (map (scaled_product t) B) (scaled-sized s h A p)
      (scaled-sized t k B q)

-- a parameter is a bracket polynomial
pub parameter-keys : (d n i : ℕ) → IsBracketPolynomial d n (parameter_of n i)
parameter-keys d n i =
    all_single (IsKey d n) (record { exponents = slice_set (replicate n 0) i 1; rows = [] })
    (record {
      parameters = length-set (replicate n 0) i 1 ∙ length-replicate n 0;
      each = tt;
      ascending = λ k x z h. absurd (omega arith);
    })

-- ---- the extensors that are reached

put_all : (P : List ℕ → Type 0) (x : List ℕ) (xs : List (List ℕ)) → P x → AllByRecursion P xs
    → AllByRecursion P (put_extensor x xs)
put_all P x [] p h = (p, tt)
put_all P x (y ∷ ys) p h = step (row_cmp x y) (put_all P x ys p h.1)
  where
    step : (r : Ordering) → AllByRecursion P (put_extensor x ys)
        → AllByRecursion P (elim r [ Less ↦ x ∷ y ∷ ys | Equal ↦ y ∷ ys | Greater ↦ y ∷ put_extensor x ys ])
    step Less i = (p, h)
    step Equal i = h
    step Greater i = (h.0, i)

-- what holds of the extensor of each product holds of each that is reached
pub all_reached : (P : List ℕ → Type 0) (ps : List Product) → AllByRecursion (λ p. P p.extensor) ps
    → AllByRecursion P (reached ps)
all_reached P [] h = tt
all_reached P (p ∷ ps) h = put_all P p.extensor (reached ps) h.0 (all_reached P ps h.1)
