-- Finite sums of integers times keys (the free abelian group on the keys), in one form: each key once, keys
-- ascending, no integer zero. So a sum is a finite map from keys to nonzero integers, and two sums are equal where each
-- key has the same coefficient in both.
use Rattle.std.specs.Prelude.{◌≡◌, zero, suc, Bool, true, false, if◌then◌else◌, ◌&&◌, T, ℤ, pos, negsuc, ◌+ℤ◌, ◌*ℤ◌}
use Rattle.std.specs.Prelude.{neg_ℤ}
use Rattle.std.specs.Prelude.{List, [], ◌∷◌, ◌++◌, map}
use Rattle.std.specs.FinMap.{is_sorted}
use Rattle.std.specs.Ordering.{eq_by_cmp}
use Rattle.std.specs.declared.cmp.Ordering.{Ordering}
use Rattle.std.specs.declared.cmp.Ordering.TheVariants.{Less, Equal, Greater}
use Rattle.std.proofs.Common.{refl, sym, subst}
use Rattle.coordinate_model.specs.Ring.{Ops, of_int}

-- terms in any order and number: each a key and its integer
abbrev pub Terms : Type 0 → Type 0
Terms K = List (K × ℤ)

-- whether the integer is 0
abbrev pub is_zero : ℤ → Bool
is_zero (pos zero) = true
is_zero (pos (suc n)) = false
is_zero (negsuc n) = false

-- whether no term has the integer 0
abbrev pub has_no_zero : {K : Type 0} → Terms K → Bool
has_no_zero [] = true
has_no_zero (e ∷ es) = if is_zero e.1 then false else has_no_zero es

-- the integer times the key before other terms, left out where the integer is zero
abbrev pub keep : {K : Type 0} → K → ℤ → Terms K → Terms K
keep k c rest = if is_zero c then rest else (k, c) ∷ rest

-- R compares keys
module _ {K : Type 0} (R : K → K → Ordering) where
  -- whether the keys strictly ascend and no integer is zero
  abbrev pub is_canonical : Terms K → Bool
  is_canonical ts = is_sorted R ts && has_no_zero ts

  -- c times k added to terms that are canonical
  abbrev pub add_term : K → ℤ → Terms K → Terms K
  add_term k c [] = keep k c []
  add_term k c (e ∷ es) = elim (R k e.0) [
    | Less ↦ keep k c (e ∷ es)
    | Equal ↦ keep e.0 (e.1 +ℤ c) es
    | Greater ↦ e ∷ add_term k c es
  ]

  -- the terms of any list, collected: each key once
  abbrev pub collect : Terms K → Terms K
  collect [] = []
  collect (t ∷ ts) = add_term t.0 t.1 (collect ts)

  -- the sum of the integers that stand at the key k
  abbrev pub count_at : K → Terms K → ℤ
  count_at k [] = pos 0
  count_at k (e ∷ es) = (if eq_by_cmp R k e.0 then e.1 else pos 0) +ℤ count_at k es

-- a finite sum of integers times keys
pub record Sum {K : Type 0} (R : K → K → Ordering) : Type 0 where
  pub terms : Terms K
  pub canonical : T (is_canonical R terms)

-- the coefficient of k: 0 where k has no term
abbrev pub coefficient : {K : Type 0} {R : K → K → Ordering} → Sum R → K → ℤ
coefficient {R = R} f k = count_at R k f.terms

-- each term of the one list times each of the other
abbrev pub products : {K : Type 0} → (K → K → K) → Terms K → Terms K → Terms K
products mul [] us = []
products mul (t ∷ ts) us = map (λ u. (mul t.0 u.0, t.1 *ℤ u.1)) us ++ products mul ts us

-- each integer negated
abbrev pub negated : {K : Type 0} → Terms K → Terms K
negated ts = map (λ t. (t.0, neg_ℤ t.1)) ts

module _ {K : Type 0} (R : K → K → Ordering) where
  -- the sum with no term
  abbrev pub empty : Sum R
  empty = record { terms = []; canonical = tt }

  -- the sum of canonical terms, as collected ones are; any others would give the empty sum
  abbrev pub checked : (ts : Terms K) (b : Bool) → is_canonical R ts ≡ b → Sum R
  checked ts true e = record { terms = ts; canonical = subst T (sym e) tt }
  checked ts false e = empty

  -- the sum of terms in any order and number
  unfoldable pub sum_of : Terms K → Sum R
  sum_of ts = checked (collect R ts) (is_canonical R (collect R ts)) refl

  -- the sum with the key k alone, once
  unfoldable pub single : K → Sum R
  single k = sum_of ((k, pos 1) ∷ [])

  -- the sum of two sums
  unfoldable pub plus : Sum R → Sum R → Sum R
  plus f g = sum_of (f.terms ++ g.terms)

  -- the negative
  unfoldable pub minus : Sum R → Sum R
  minus f = sum_of (negated f.terms)

  -- the product, where mul multiplies keys
  unfoldable pub times : (K → K → K) → Sum R → Sum R → Sum R
  times mul f g = sum_of (products mul f.terms g.terms)

  -- the sums with the operations of a ring, where the key `one` stands for 1
  abbrev pub Sums : (K → K → K) → K → Ops
  Sums mul one =
      record { carrier = Sum R; 𝟘 = empty; 𝟙 = single one; ◌⊕◌ = plus; ◌⊗◌ = times mul; neg = minus }

-- the sum in the ring S of the integers times the values that g gives their keys
abbrev pub sum_value : {K : Type 0} (S : Ops) → (K → S.carrier) → Terms K → S.carrier
sum_value S g [] = S.𝟘
sum_value S g (t ∷ ts) = S.◌⊕◌ (S.◌⊗◌ (of_int S t.1) (g t.0)) (sum_value S g ts)
