-- Products of a list of items, which loops add item by item.
use Rattle.std.specs.Prelude.{◌≡◌, ℕ, zero, suc, ◌+◌, ◌<◌, ◌≤◌, List, [], ◌∷◌, ◌++◌, flat_map, length, take, drop, Ok, Err}
use Rattle.std.specs.List.{AllByRecursion}
use Rattle.std.proofs.Common.{sym, ap, subst, ◌∙◌, arith, append-nil, get_or, take_all, take-append-drop, drop-cons}
use Rattle.std.proofs.lemmas.List.{take_more}
use Rattle.std.proofs.lemmas.List.Concat.{flat_map-append}
use Rattle.coordinate_model.specs.Starts.{Product}
use Rattle.bracket_poly.specs.declared.error.PolyError.{PolyError}
use Rattle.shuffle_meet.specs.Adding.{AddsProducts}
use Rattle.shuffle_meet.proofs.Added.{Polys, HasAdded, more_added, all_added, stopped}
use Rattle.shuffle_meet.proofs.JoinSteps.{adds_same}

module _ {A : Type 0} (f : A → List Product) (xs : List A) where
  -- the products of one item more
  one_more : (i : ℕ) (x : A) → i < length xs → x ≡ get_or xs i x
      → flat_map f (take (i + 1) xs) ≡ flat_map f (take i xs) ++ f x
  one_more i x h e =
      ap (flat_map f) (take_more xs i x h) ∙ flat_map-append f (take i xs) (get_or xs i x ∷ [])
      ∙ ap (λ ps. flat_map f (take i xs) ++ ps) (append-nil (f (get_or xs i x)) ∙ ap f (sym e))

  pub next_item : {X : Type 0} (old now new : Polys) (i : ℕ) (x : A) (u : X) → i < length xs → x ≡ get_or xs i x
      → HasAdded old (flat_map f (take i xs)) now → AddsProducts {X = X} now (f x) (Ok u) new
      → HasAdded old (flat_map f (take (i + 1) xs)) new
  next_item old now new i x u h e a b =
      subst (λ (ps : List Product). HasAdded old ps new) (sym (one_more i x h e))
      (more_added old now new (flat_map f (take i xs)) (f x) u a b)

  -- all products, where the item at place i comes next
  with_rest : (i : ℕ) (x : A) → i < length xs → x ≡ get_or xs i x
      → flat_map f xs ≡ flat_map f (take i xs) ++ (f x ++ flat_map f (drop (suc i) xs))
  with_rest i x h e =
      ap (flat_map f) (sym (take-append-drop i xs)) ∙ flat_map-append f (take i xs) (drop i xs)
      ∙ ap (λ ys. flat_map f (take i xs) ++ flat_map f ys) (drop-cons xs i x h)
      ∙ ap (λ y. flat_map f (take i xs) ++ (f y ++ flat_map f (drop (suc i) xs))) (sym e)

  pub stop_item : {X Y : Type 0} (old now new end : Polys) (i : ℕ) (x : A) (error : PolyError) → i < length xs
      → x ≡ get_or xs i x → HasAdded old (flat_map f (take i xs)) now → AddsProducts {X = X} now (f x) (Err error) new
      → AddsProducts {X = Y} old (flat_map f xs) (Err error) end
  stop_item old now new end i x error h e a b =
      adds_same old end _ (flat_map f xs) (Err error) (sym (with_rest i x h e))
      (stopped old now new end (flat_map f (take i xs)) (f x) (flat_map f (drop (suc i) xs)) error a b)

  -- the items of all places are all items
  pub all_so_far : (old now : Polys) (i : ℕ) → length xs ≤ i → HasAdded old (flat_map f (take i xs)) now
      → HasAdded old (flat_map f xs) now
  all_so_far old now i h a = subst (λ (ys : List A). HasAdded old (flat_map f ys) now) (take_all i xs h) a

  pub all_items : {X : Type 0} (old now : Polys) (i : ℕ) (u : X) → length xs ≤ i
      → HasAdded old (flat_map f (take i xs)) now → AddsProducts {X = X} old (flat_map f xs) (Ok u) now
  all_items old now i u h a =
      all_added old now (flat_map f xs) u (all_so_far old now i h a)

-- what holds of all items holds of one of them
pub holds_at : {A : Type 0} (P : A → Type 0) (xs : List A) (i : ℕ) (x : A) → AllByRecursion P xs → i < length xs
    → x ≡ get_or xs i x → P x
holds_at P xs i x h l e = subst P (sym e) (at xs i h l)
  where
    at : (xs : List _) (i : ℕ) → AllByRecursion P xs → i < length xs → P (get_or xs i x)
    at [] i h l = absurd (omega arith)
    at (y ∷ ys) zero h l = h.0
    at (y ∷ ys) (suc i) h l = at ys i h.1 (omega arith)
