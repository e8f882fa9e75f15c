-- A sum of integers times powers of a number, which is zero at more whole numbers than the greatest exponent, has no
-- coefficient but 0.
use Rattle.std.specs.Prelude.{◌≡◌, ℕ, zero, suc, ◌<◌, Bool, true, false, cond, ℤ, pos, ◌+ℤ◌, ◌*ℤ◌, List, [], ◌∷◌, length}
use Rattle.std.specs.List.{AllByRecursion}
use Rattle.std.proofs.Common.{refl, sym, ap, ap₂, ◌∙◌, arith}
use Rattle.std.proofs.lemmas.Int.{ints}
use Rattle.coordinate_model.specs.Ring.{Integers, of_int}
use Rattle.coordinate_model.specs.Sums.{Terms, sum_value}
use Rattle.coordinate_model.specs.Weights.{power}
use Rattle.coordinate_model.proofs.RingLemmas as Ring
use Rattle.coordinate_model.proofs.IntegerRing.{integer_ring, of_int-int}
use Rattle.coordinate_model.proofs.Roots.{at_number, AllZero, all_zero}

-- whether the numbers are the same
abbrev pub same : ℕ → ℕ → Bool
same zero zero = true
same zero (suc n) = false
same (suc m) zero = false
same (suc m) (suc n) = same m n

pub same_so : (m n : ℕ) → same m n ≡ true → m ≡ n
same_so zero zero e = refl
same_so zero (suc n) e = cc
same_so (suc m) zero e = cc
same_so (suc m) (suc n) e = ap suc (same_so m n e)

pub same_itself : (n : ℕ) → same n n ≡ true
same_itself zero = refl
same_itself (suc n) = same_itself n

-- ---- coefficients by their exponents

zeros : ℕ → List ℤ
zeros zero = []
zeros (suc n) = pos 0 ∷ zeros n

-- a added to the coefficient of the exponent k
abbrev add_at : ℕ → ℤ → List ℤ → List ℤ
add_at k a [] = []
add_at zero a (c ∷ cs) = (a +ℤ c) ∷ cs
add_at (suc k) a (c ∷ cs) = c ∷ add_at k a cs

-- the coefficient of the exponent j
abbrev at_exponent : ℕ → List ℤ → ℤ
at_exponent j [] = pos 0
at_exponent zero (c ∷ cs) = c
at_exponent (suc j) (c ∷ cs) = at_exponent j cs

length-zeros : (n : ℕ) → length (zeros n) ≡ n
unfolding zeros
length-zeros zero = refl
length-zeros (suc n) = ap suc (length-zeros n)

zeros_at : (n : ℕ) (x : ℤ) → at_number (zeros n) x ≡ pos 0
unfolding zeros
zeros_at zero x = refl
zeros_at (suc n) x =
    ap (λ z. pos 0 +ℤ x *ℤ z) (zeros_at n x) ∙ ap (λ z. pos 0 +ℤ z) (Ring.mul_zero Integers integer_ring x)

zeros_exponent : (n j : ℕ) → at_exponent j (zeros n) ≡ pos 0
unfolding zeros
zeros_exponent zero j = refl
zeros_exponent (suc n) zero = refl
zeros_exponent (suc n) (suc j) = zeros_exponent n j

length-add_at : (k : ℕ) (a : ℤ) (cs : List ℤ) → length (add_at k a cs) ≡ length cs
length-add_at k a [] = refl
length-add_at zero a (c ∷ cs) = refl
length-add_at (suc k) a (c ∷ cs) = ap suc (length-add_at k a cs)

add_at-number : (k : ℕ) (a : ℤ) (cs : List ℤ) (x : ℤ) → k < length cs
    → at_number (add_at k a cs) x ≡ a *ℤ power x k +ℤ at_number cs x
add_at-number k a [] x h = absurd (omega (arith, h))
add_at-number zero a (c ∷ cs) x h =
    order a c (x *ℤ at_number cs x) ∙ ap (λ z. z +ℤ (c +ℤ x *ℤ at_number cs x)) (sym (integer_ring.mul_one a))
  where
    order : (a b e : ℤ) → (a +ℤ b) +ℤ e ≡ a +ℤ (b +ℤ e)
    order a b e = omega (arith, ints)
add_at-number (suc k) a (c ∷ cs) x h =
    ap (λ z. c +ℤ x *ℤ z) (add_at-number k a cs x (omega (arith, h)))
    ∙ ap (λ z. c +ℤ z) (integer_ring.mul_add x (a *ℤ power x k) (at_number cs x))
    ∙ ap (λ z. c +ℤ (z +ℤ x *ℤ at_number cs x)) (Ring.mul_left_comm Integers integer_ring x a (power x k))
    ∙ order c (a *ℤ (x *ℤ power x k)) (x *ℤ at_number cs x)
  where
    order : (a b e : ℤ) → a +ℤ (b +ℤ e) ≡ b +ℤ (a +ℤ e)
    order a b e = omega (arith, ints)

left_zero : (z : ℤ) → z ≡ pos 0 +ℤ z
left_zero z = omega (arith, ints)

add_at-exponent : (k : ℕ) (a : ℤ) (cs : List ℤ) (j : ℕ) → k < length cs
    → at_exponent j (add_at k a cs) ≡ cond (same k j) a (pos 0) +ℤ at_exponent j cs
add_at-exponent k a [] j h = absurd (omega (arith, h))
add_at-exponent zero a (c ∷ cs) zero h = refl
add_at-exponent zero a (c ∷ cs) (suc j) h = left_zero (at_exponent j cs)
add_at-exponent (suc k) a (c ∷ cs) zero h = left_zero c
add_at-exponent (suc k) a (c ∷ cs) (suc j) h = add_at-exponent k a cs j (omega (arith, h))

zero_exponent : (cs : List ℤ) (j : ℕ) → AllZero cs → at_exponent j cs ≡ pos 0
zero_exponent [] j h = refl
zero_exponent (c ∷ cs) zero h = h.0
zero_exponent (c ∷ cs) (suc j) h = zero_exponent cs j h.1

-- ---- sums of integers times powers: the key k stands for h(k) times the power e(k)
module _ {K : Type 0} (e : K → ℕ) (h : K → ℤ) where
  abbrev coefficients : ℕ → Terms K → List ℤ
  coefficients n [] = zeros n
  coefficients n (t ∷ ts) = add_at (e t.0) (t.1 *ℤ h t.0) (coefficients n ts)

  length-coefficients : (n : ℕ) (ts : Terms K) → length (coefficients n ts) ≡ n
  length-coefficients n [] = length-zeros n
  length-coefficients n (t ∷ ts) =
      length-add_at (e t.0) (t.1 *ℤ h t.0) (coefficients n ts) ∙ length-coefficients n ts

  within : (n : ℕ) (ts : Terms K) (k : ℕ) → k < n → k < length (coefficients n ts)
  within n ts k l = omega (arith, l, length-coefficients n ts)

  coefficients-number : (n : ℕ) (x : ℤ) (ts : Terms K) → AllByRecursion (λ t. e t.0 < n) ts
      → at_number (coefficients n ts) x ≡ sum_value Integers (λ k. power x (e k) *ℤ h k) ts
  coefficients-number n x [] l = zeros_at n x
  coefficients-number n x (t ∷ ts) l =
      add_at-number (e t.0) (t.1 *ℤ h t.0) (coefficients n ts) x (within n ts (e t.0) l.0)
      ∙ ap₂ ◌+ℤ◌
      (integer_ring.mul_assoc t.1 (h t.0) (power x (e t.0))
      ∙ ap₂ ◌*ℤ◌ (sym (of_int-int t.1)) (integer_ring.mul_comm (h t.0) (power x (e t.0))))
      (coefficients-number n x ts l.1)

  chosen : (b : Bool) (c a : ℤ) → cond b (c *ℤ a) (pos 0) ≡ of_int Integers c *ℤ cond b a (pos 0)
  chosen true c a = ap (λ z. z *ℤ a) (sym (of_int-int c))
  chosen false c a = sym (Ring.mul_zero Integers integer_ring (of_int Integers c))

  coefficients-exponent : (n j : ℕ) (ts : Terms K) → AllByRecursion (λ t. e t.0 < n) ts
      → at_exponent j (coefficients n ts) ≡ sum_value Integers (λ k. cond (same (e k) j) (h k) (pos 0)) ts
  coefficients-exponent n j [] l = zeros_exponent n j
  coefficients-exponent n j (t ∷ ts) l =
      add_at-exponent (e t.0) (t.1 *ℤ h t.0) (coefficients n ts) j (within n ts (e t.0) l.0)
      ∙ ap₂ ◌+ℤ◌ (chosen (same (e t.0) j) t.1 (h t.0)) (coefficients-exponent n j ts l.1)

  -- where the sum is zero at the whole numbers less than n, so it is for the keys of each exponent
  pub zero_powers : (n : ℕ) (ts : Terms K) → AllByRecursion (λ t. e t.0 < n) ts
      → ((i : ℕ) → i < n → sum_value Integers (λ k. power (pos i) (e k) *ℤ h k) ts ≡ pos 0) → (j : ℕ)
      → sum_value Integers (λ k. cond (same (e k) j) (h k) (pos 0)) ts ≡ pos 0
  zero_powers n ts l z j =
      sym (coefficients-exponent n j ts l)
      ∙ zero_exponent (coefficients n ts) j (all_zero n (coefficients n ts) (pos 0) (length-coefficients n ts)
      (λ i k. ap (at_number (coefficients n ts)) (sym (left_zero (pos i))) ∙ coefficients-number n (pos i) ts l ∙ z i k))
