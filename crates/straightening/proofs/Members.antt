-- What lists contain that are mapped, joined or filtered.
use Rattle.std.proofs.Common.{◌≡◌, ℕ, zero, suc, ◌<◌, ◌≤◌, Bool, true, false, cond, List, [], ◌∷◌, map}
use Rattle.std.proofs.Common.{filter, flat_map, length, slice_index_or, refl, sym, ap, subst, ◌∙◌, arith, ◌⊎◌, inl, inr}
use Rattle.std.proofs.lemmas.List.Elements.{Contains-append_left, Contains-append_right, Contains-append_cases}
use Rattle.std.specs.Prelude.{Contains}
use Rattle.std.specs.List.{AllByRecursion}

module _ {A : Type 0} where
  pub contains_here : (x : A) (xs : List A) → Contains (x ∷ xs) x
  contains_here x xs = (0, omega arith, refl)

  pub contains_later : (x y : A) (xs : List A) → Contains xs y → Contains (x ∷ xs) y
  contains_later x y xs c = (suc c.0, omega (arith, c.1), c.2)

  pub contains_cases : (x y : A) (xs : List A) → Contains (x ∷ xs) y → (x ≡ y) ⊎ Contains xs y
  contains_cases x y xs c = step c.0 c.1 c.2
    where
      step : (k : ℕ) → k < length (x ∷ xs) → slice_index_or (x ∷ xs) k y ≡ y → (x ≡ y) ⊎ Contains xs y
      step zero l e = inl e
      step (suc k) l e = inr (k, omega (arith, l), e)

  pub contains_none : (y : A) → Contains [] y → ⊥
  contains_none y c = let l : c.0 < 0 = c.1 in omega arith

  pub holds_of_member : (P : A → Type 0) (xs : List A) (x : A) → AllByRecursion P xs → Contains xs x → P x
  holds_of_member P [] x h c = absurd (contains_none x c)
  holds_of_member P (y ∷ xs) x h c = elim (contains_cases y x xs c) [
    | inl e ↦ subst P e h.0
    | inr b ↦ holds_of_member P xs x h.1 b
  ]

  -- ---- filtered lists

  pub contains_filter : (p : A → Bool) (xs : List A) (x : A) → Contains xs x → p x ≡ true → Contains (filter p xs) x
  contains_filter p [] x c e = absurd (contains_none x c)
  contains_filter p (y ∷ xs) x c e = elim (contains_cases y x xs c) [
    | inl s ↦
        subst (λ (b : Bool). Contains (cond b (y ∷ filter p xs) (filter p xs)) x) (sym (ap p s ∙ e))
        (subst (λ (z : A). Contains (z ∷ filter p xs) x) (sym s) (contains_here x (filter p xs)))
    | inr b ↦ step (p y) (contains_filter p xs x b e)
  ]
    where
      step : (b : Bool) → Contains (filter p xs) x → Contains (cond b (y ∷ filter p xs) (filter p xs)) x
      step true c = contains_later y x (filter p xs) c
      step false c = c

  pub of_filter : (p : A → Bool) (xs : List A) (x : A) → Contains (filter p xs) x → Contains xs x × (p x ≡ true)
  of_filter p [] x c = absurd (contains_none x c)
  of_filter p (y ∷ xs) x c = step (λ b. of_filter p xs x b) (p y) refl c
    where
      step : (Contains (filter p xs) x → Contains xs x × (p x ≡ true)) → (b : Bool) → p y ≡ b
          → Contains (cond b (y ∷ filter p xs) (filter p xs)) x → Contains (y ∷ xs) x × (p x ≡ true)
      step ih true e c = elim (contains_cases y x (filter p xs) c) [
        | inl s ↦ (subst (λ (z : A). Contains (y ∷ xs) z) s (contains_here y xs), ap p (sym s) ∙ e)
        | inr b ↦ (contains_later y x xs (ih b).0, (ih b).1)
      ]
      step ih false e c = (contains_later y x xs (ih c).0, (ih c).1)

  pub length_filter : (p : A → Bool) (xs : List A) → length (filter p xs) ≤ length xs
  length_filter p [] = omega arith
  length_filter p (x ∷ xs) = step (p x) (length_filter p xs)
    where
      step : (b : Bool) → length (filter p xs) ≤ length xs
          → length (cond b (x ∷ filter p xs) (filter p xs)) ≤ suc (length xs)
      step true l = omega arith
      step false l = omega arith

  -- a list without one of its members is shorter
  pub shorter_filter : (p : A → Bool) (xs : List A) (x : A) → Contains xs x → p x ≡ false
      → length (filter p xs) < length xs
  shorter_filter p [] x c e = absurd (contains_none x c)
  shorter_filter p (y ∷ xs) x c e = elim (contains_cases y x xs c) [
    | inl s ↦
        subst (λ (b : Bool). length (cond b (y ∷ filter p xs) (filter p xs)) < suc (length xs)) (sym (ap p s ∙ e))
        (let l : length (filter p xs) ≤ length xs = length_filter p xs in omega arith)
    | inr b ↦ step (p y) (shorter_filter p xs x b e)
  ]
    where
      step : (b : Bool) → length (filter p xs) < length xs
          → length (cond b (y ∷ filter p xs) (filter p xs)) < suc (length xs)
      step true l = omega arith
      step false l = omega arith

-- ---- mapped and joined lists

-- the member that a member of a mapped list comes from
pub record From {A B : Type 0} (R : A → B → Type 0) (xs : List A) (y : B) : Type 0 where
  pub value : A
  pub inside : Contains xs value
  pub image : R value y

module _ {A B : Type 0} where
  pub contains_map : (f : A → B) (xs : List A) (x : A) → Contains xs x → Contains (map f xs) (f x)
  contains_map f [] x c = absurd (contains_none x c)
  contains_map f (y ∷ xs) x c = elim (contains_cases y x xs c) [
    | inl s ↦ subst (λ (z : A). Contains (f y ∷ map f xs) (f z)) s (contains_here (f y) (map f xs))
    | inr b ↦ contains_later (f y) (f x) (map f xs) (contains_map f xs x b)
  ]

  pub of_map : (f : A → B) (xs : List A) (y : B) → Contains (map f xs) y → From (λ x z. f x ≡ z) xs y
  of_map f [] y c = absurd (contains_none y c)
  of_map f (x ∷ xs) y c = elim (contains_cases (f x) y (map f xs) c) [
    | inl s ↦ record { value = x; inside = contains_here x xs; image = s }
    | inr b ↦
        let w : From (λ x z. f x ≡ z) xs y = of_map f xs y b in
        record { value = w.value; inside = contains_later x w.value xs w.inside; image = w.image }
  ]

  pub contains_flat_map : (f : A → List B) (xs : List A) (x : A) (y : B) → Contains xs x → Contains (f x) y
      → Contains (flat_map f xs) y
  contains_flat_map f [] x y c b = absurd (contains_none x c)
  contains_flat_map f (z ∷ xs) x y c b = elim (contains_cases z x xs c) [
    | inl s ↦
        Contains-append_left (f z) (flat_map f xs) y (subst (λ (w : A). Contains (f w) y) (sym s) b)
    | inr d ↦ Contains-append_right (f z) (flat_map f xs) y (contains_flat_map f xs x y d b)
  ]

  pub of_flat_map : (f : A → List B) (xs : List A) (y : B) → Contains (flat_map f xs) y
      → From (λ x z. Contains (f x) z) xs y
  of_flat_map f [] y c = absurd (contains_none y c)
  of_flat_map f (x ∷ xs) y c = elim (Contains-append_cases (f x) (flat_map f xs) y c) [
    | inl s ↦ record { value = x; inside = contains_here x xs; image = s }
    | inr b ↦
        let w : From (λ x z. Contains (f x) z) xs y = of_flat_map f xs y b in
        record { value = w.value; inside = contains_later x w.value xs w.inside; image = w.image }
  ]
