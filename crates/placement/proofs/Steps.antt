-- Sums of terms and lists of coordinates, one step after the other.
use Rattle.std.proofs.Common.{◌≡◌, refl, sym, ap, ap₂, ◌∙◌, ℕ, ◌+◌, ◌<◌, ◌≤◌, List, [], ◌∷◌, ◌++◌, map, length}
use Rattle.std.proofs.Common.{take, drop, get_or, subst, arith}
use Rattle.std.proofs.Common.{Bool, true, false, cond}
use Rattle.std.specs.Prelude.{ℤ, Option, Some, None, Contains}
use Rattle.std.proofs.lemmas.List.{take_more, drop_more, get_or-map, length-map, map_push, take_all}
use Rattle.std.proofs.lemmas.List.Elements.{Contains-get_or}
use Rattle.coordinate_model.specs.Limited.{limited_sum, limited_negative, signed_number}
use Rattle.coordinate_model.proofs.BracketSteps.{sum_of_none}
use Rattle.placement.specs.declared.terms.Term.{Term}
use Rattle.std.specs.List.{zip}
use Rattle.placement.specs.Numbers.{term_value, total_behind}

-- ---- sums

-- nothing is added to what is no number
pub no_sum : (sum : Option ℤ) → limited_sum sum None ≡ None
no_sum None = refl
no_sum (Some z) = refl

-- with one more term
pub total_next : (a b : List ℤ) (terms : List Term) (i : ℕ) (sum : Option ℤ) (t : Term) → i < length terms
    → total_behind a b sum (drop i terms)
    ≡ total_behind a b (limited_sum sum (term_value a b (get_or terms i t))) (drop (i + 1) terms)
total_next a b terms i sum t here = ap (total_behind a b sum) (drop_more terms i t here)

-- where the sum is no number
pub no_more : (a b : List ℤ) (terms : List Term) (sum : Option ℤ) → sum ≡ None → None ≡ total_behind a b sum terms
no_more a b terms sum e = sym (sum_of_none (term_value a b) terms) ∙ ap (λ x. total_behind a b x terms) (sym e)

-- the value of a term by its product
pub term_of_product : (odd : Bool) (product : ℤ)
    → cond odd (limited_negative (Some product)) (Some product) ≡ Some (signed_number odd product)
term_of_product true product = refl
term_of_product false product = refl

pub term_of_none : (odd : Bool) (product : Option ℤ) → product ≡ None
    → cond odd (limited_negative product) product ≡ None
term_of_none odd product e = ap (λ x. cond odd (limited_negative x) x) e ∙ either odd
  where
    either : (odd : Bool) → cond odd (limited_negative None) None ≡ None
    either true = refl
    either false = refl

-- ---- lists of coordinates

module _ {X : Type 0} (f : X → Option ℤ) (xs : List X) where
  -- with one more coordinate
  pub made_next : (made : List ℤ) (i : ℕ) (z : ℤ) (d : X) → i < length xs → Some z ≡ f (get_or xs i d)
      → map (λ z. Some z) made ≡ map f (take i xs)
      → map (λ z. Some z) (made ++ z ∷ []) ≡ map f (take (i + 1) xs)
  made_next made i z d here e so_far =
      map_push (λ z. Some z) made z ∙ ap₂ (λ ys y. ys ++ y ∷ []) so_far e
      ∙ sym (map_push f (take i xs) (get_or xs i d))
      ∙ ap (map f) (sym (take_more xs i d here))

  -- where a coordinate is no number
  pub made_none : (i : ℕ) (d : X) → i < length xs → f (get_or xs i d) ≡ None → Contains (map f xs) None
  made_none i d here e =
      let long : length (map f xs) ≡ length xs = length-map xs f in
      subst (Contains (map f xs)) (get_or-map f xs i d None here ∙ e)
      (Contains-get_or (map f xs) i None (omega arith))

  -- all of them
  pub made_all : (made : List ℤ) (i : ℕ) → length xs ≤ i → map (λ z. Some z) made ≡ map f (take i xs)
      → map (λ z. Some z) made ≡ map f xs
  made_all made i past so_far = so_far ∙ ap (map f) (take_all i xs past)

length-zip : (a b : List ℤ) → length a ≡ length b → length (zip a b) ≡ length a
length-zip [] b e = refl
length-zip (x ∷ a) [] e = absurd (omega arith)
length-zip (x ∷ a) (y ∷ b) e =
    let rest = length-zip a b (omega arith) in
    omega arith

-- a place of two lists of one length
pub in_both : (a b : List ℤ) (k : ℕ) → length a ≡ length b → k < length a → k < length (zip a b)
in_both a b k e h = let long = length-zip a b e in omega arith

pub past_both : (a b : List ℤ) (k : ℕ) → length a ≡ length b → length a ≤ k → length (zip a b) ≤ k
past_both a b k e h = let long = length-zip a b e in omega arith
