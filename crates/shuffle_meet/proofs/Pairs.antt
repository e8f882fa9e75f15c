-- The entries of two values, each of the one with each of the other: what is required of them, and what loops over them add.
use Rattle.std.specs.Prelude.{◌≡◌, ℕ, ◌+◌, ◌<◌, ◌≤◌, List, [], ◌∷◌, flat_map, length, take, Result, Ok, Err}
use Rattle.std.specs.List.{AllByRecursion}
use Rattle.std.proofs.Common.{sym, subst, ◌∙◌, get_or}
use Rattle.std.proofs.lemmas.List.Folds.{flat_map-map}
use Rattle.coordinate_model.specs.Value.{HasStep}
use Rattle.coordinate_model.specs.Starts.{Product, Entry}
use Rattle.bracket_terms.specs.declared.extensor.Extensor.{Extensor}
use Rattle.bracket_terms.proofs.ExtensorLaws.{length-points_of}
use Rattle.bracket_poly.specs.declared.error.PolyError.{PolyError}
use Rattle.bracket_poly.specs.declared.value.Value.{Value}
use Rattle.bracket_poly.specs.Kept.{TrackedOf}
use Rattle.bracket_poly.specs.Products.{ExponentsFit}
use Rattle.bracket_poly.specs.Values.{entry_of, value_of}
use Rattle.shuffle_meet.specs.Adding.{AddsProducts}
use Rattle.shuffle_meet.specs.Objects.{ProductsFit, PairFits}
use Rattle.shuffle_meet.proofs.SeenLaws.{Entries, HaveSize}
use Rattle.shuffle_meet.proofs.Added.{Polys, HasAdded}
use Rattle.shuffle_meet.proofs.JoinSteps.{adds_same}
use Rattle.shuffle_meet.proofs.Items.{next_item, stop_item, all_so_far, holds_at}
use Rattle.shuffle_meet.proofs.Answered.{steps_of}

-- ---- what holds of entries of the code

module _ (d : ℕ) where
  pub sizes_by : (n : ℕ) (es : Entries d) → HasStep n (value_of es) → HaveSize n es
  sizes_by n [] i = tt
  sizes_by n (e ∷ es) i = (sym (length-points_of e.0.size e.0.points e.0.formed) ∙ i.0, sizes_by n es i.1)

  pub sizes_of_value : (a : Value d) → a.step < d → HaveSize a.step a.entries
  sizes_of_value a h = sizes_by a.step a.entries (steps_of d a h)

  exponents_of_values : (a b : Value d) → ProductsFit a b
      → AllByRecursion (λ e. AllByRecursion (PairFits e) b.entries) a.entries
  exponents_of_values a b h = each a.entries h
    where
      inner : (e : Extensor × TrackedOf d) (fs : Entries d)
          → AllByRecursion (λ f. ExponentsFit e.1.tracked.sum f.1) (value_of fs) → AllByRecursion (PairFits e) fs
      inner e [] i = tt
      inner e (f ∷ fs) i = (i.0, inner e fs i.1)

      each : (es : Entries d)
          → AllByRecursion (λ e. AllByRecursion (λ f. ExponentsFit e.1 f.1) (value_of b.entries)) (value_of es)
          → AllByRecursion (λ e. AllByRecursion (PairFits e) b.entries) es
      each [] i = tt
      each (e ∷ es) i = (inner e b.entries i.0, each es i.1)

  -- xs are the entries of a, and ys those of b
  module _ (a b : Value d) (xs ys : Entries d) (first : xs ≡ a.entries) (second : ys ≡ b.entries) where
    pub size_at : (i : ℕ) (x : Extensor × TrackedOf d) → a.step < d → i < length xs → x ≡ get_or xs i x → x.0.size ≡ a.step
    size_at i x h l e =
        holds_at (λ y. y.0.size ≡ a.step) xs i x (subst (HaveSize a.step) (sym first) (sizes_of_value a h)) l e

    pub all_sizes : b.step < d → HaveSize b.step ys
    all_sizes h = subst (HaveSize b.step) (sym second) (sizes_of_value b h)

    pub exponents_at : (i : ℕ) (x : Extensor × TrackedOf d) → ProductsFit a b → i < length xs → x ≡ get_or xs i x
        → AllByRecursion (PairFits x) ys
    exponents_at i x p l e =
        subst (AllByRecursion (PairFits x)) (sym second)
        (holds_at (λ y. AllByRecursion (PairFits y) b.entries) xs i x
        (subst (AllByRecursion (λ y. AllByRecursion (PairFits y) b.entries)) (sym first) (exponents_of_values a b p)) l e)

    -- ---- what the loop over the entries of a adds, where each two entries add the products that F says

    module _ (F : Entry → Entry → List Product) where
      -- the products of one entry of a
      abbrev pub products_at_left : Extensor × TrackedOf d → List Product
      products_at_left left = flat_map (F (entry_of left)) (value_of b.entries)

      -- the products of all
      abbrev pub all_products : List Product
      all_products = flat_map (λ e. flat_map (F e) (value_of b.entries)) (value_of a.entries)

      -- those of the first entries
      abbrev pub first_products : ℕ → List Product
      first_products i = flat_map products_at_left (take i a.entries)

      of_left : {X : Type 0} (x : Extensor × TrackedOf d) (old new : Polys) (r : Result X PolyError)
          → AddsProducts old (flat_map (F (entry_of x)) (value_of ys)) r new → AddsProducts old (products_at_left x) r new
      of_left x old new r h =
          subst (λ (zs : Entries d). AddsProducts old (flat_map (F (entry_of x)) (value_of zs)) r new) second h

      by_left : all_products ≡ flat_map products_at_left a.entries
      by_left = flat_map-map (λ e. flat_map (F e) (value_of b.entries)) entry_of a.entries

      inside : (i : ℕ) → i < length xs → i < length a.entries
      inside i l = subst (λ (zs : Entries d). i < length zs) first l

      at_left : (i : ℕ) (x : Extensor × TrackedOf d) → x ≡ get_or xs i x → x ≡ get_or a.entries i x
      at_left i x e = subst (λ (zs : Entries d). x ≡ get_or zs i x) first e

      pub next_left : {X : Type 0} (old now new : Polys) (i : ℕ) (x : Extensor × TrackedOf d) (u : X) → i < length xs
          → x ≡ get_or xs i x → HasAdded old (first_products i) now
          → AddsProducts {X = X} now (flat_map (F (entry_of x)) (value_of ys)) (Ok u) new
          → HasAdded old (first_products (i + 1)) new
      next_left old now new i x u l e h k =
          next_item products_at_left a.entries old now new i x u (inside i l) (at_left i x e) h (of_left x now new (Ok u) k)

      pub stop_left : {X Y : Type 0} (old now new : Polys) (i : ℕ) (x : Extensor × TrackedOf d) (error : PolyError)
          → i < length xs → x ≡ get_or xs i x → HasAdded old (first_products i) now
          → AddsProducts {X = X} now (flat_map (F (entry_of x)) (value_of ys)) (Err error) new
          → AddsProducts {X = Y} old all_products (Err error) new
      stop_left old now new i x error l e h k =
          adds_same old new (flat_map products_at_left a.entries) all_products (Err error) (sym by_left)
          (stop_item products_at_left a.entries old now new new i x error (inside i l) (at_left i x e) h
          (of_left x now new (Err error) k))

      pub all_left : (old now : Polys) (i : ℕ) → length xs ≤ i → HasAdded old (first_products i) now
          → HasAdded old all_products now
      all_left old now i l h =
          subst (λ (ps : List Product). HasAdded old ps now) (sym by_left)
          (all_so_far products_at_left a.entries old now i (subst (λ (zs : Entries d). length zs ≤ i) first l) h)
