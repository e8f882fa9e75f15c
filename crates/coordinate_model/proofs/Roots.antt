-- A polynomial in one variable with integers as coefficients, which is zero at as many whole numbers as it has
-- coefficients, has no coefficient but 0.
use Rattle.std.specs.Prelude.{◌≡◌, ℕ, zero, suc, ◌*◌, ◌<◌, ℤ, pos, negsuc, ◌+ℤ◌, ◌*ℤ◌, neg_ℤ, List, [], ◌∷◌, length}
use Rattle.std.specs.List.{AllByRecursion}
use Rattle.std.proofs.Common.{refl, sym, ap, ap₂, ◌∙◌, arith}
use Rattle.std.proofs.lemmas.Int.{ints}
use Rattle.coordinate_model.specs.Ring.{Integers}
use Rattle.coordinate_model.proofs.RingLemmas as Ring
use Rattle.coordinate_model.proofs.IntegerRing.{integer_ring}
use Rattle.coordinate_model.proofs.IntLaws.{int_mul_add, int_add_mul}

-- ---- products of integers that are zero

nat_factor : (i n : ℕ) → suc i * n ≡ 0 → n ≡ 0
nat_factor i zero e = refl
nat_factor i (suc n) e = absurd (omega (arith, e))

of_pos : (n : ℕ) → pos n ≡ pos 0 → n ≡ 0
of_pos n e = omega (arith, ints, e)

of_neg : (n : ℕ) → neg_ℤ (pos n) ≡ pos 0 → n ≡ 0
of_neg n e = omega (arith, ints, e)

-- a factor that is not zero may be dropped
pub drop_factor : (i : ℕ) (y : ℤ) → pos (suc i) *ℤ y ≡ pos 0 → y ≡ pos 0
drop_factor i (pos n) e = ap pos (nat_factor i n (of_pos (suc i * n) e))
drop_factor i (negsuc n) e = absurd (let f : suc n ≡ 0 = nat_factor i (suc n) (of_neg (suc i * suc n) e) in omega (arith, f))

-- ---- polynomials in one variable

-- the value at x of the polynomial with these coefficients, that of 1 first
abbrev pub at_number : List ℤ → ℤ → ℤ
at_number [] x = pos 0
at_number (c ∷ cs) x = c +ℤ x *ℤ at_number cs x

abbrev pub AllZero : List ℤ → Type 0
AllZero = AllByRecursion (λ c. c ≡ pos 0)

-- the coefficients of the quotient by x - s of the polynomial, its first coefficient left out, times x
abbrev quotient : ℤ → List ℤ → List ℤ
quotient s [] = []
quotient s (c ∷ cs) = at_number (c ∷ cs) s ∷ quotient s cs

length-quotient : (s : ℤ) (cs : List ℤ) → length (quotient s cs) ≡ length cs
length-quotient s [] = refl
length-quotient s (c ∷ cs) = ap suc (length-quotient s cs)

divided : (s d : ℤ) (cs : List ℤ)
    → (s +ℤ d) *ℤ at_number cs (s +ℤ d) ≡ d *ℤ at_number (quotient s cs) (s +ℤ d) +ℤ s *ℤ at_number cs s
divided s d [] = zero_all (s +ℤ d) d s
  where
    zero_all : (a b c : ℤ) → a *ℤ pos 0 ≡ b *ℤ pos 0 +ℤ c *ℤ pos 0
    zero_all a b c =
        Ring.mul_zero Integers integer_ring a
        ∙ sym (ap₂ ◌+ℤ◌ (Ring.mul_zero Integers integer_ring b) (Ring.mul_zero Integers integer_ring c))
divided s d (c ∷ cs) =
    ap (λ z. x *ℤ (c +ℤ z)) (divided s d cs) ∙ ap (λ z. x *ℤ z) (order c (d *ℤ q) (s *ℤ at_number cs s))
    ∙ int_mul_add x w (d *ℤ q)
    ∙ ap₂ ◌+ℤ◌ (int_add_mul s d w) (Ring.mul_left_comm Integers integer_ring x d q)
    ∙ turn (s *ℤ w) (d *ℤ w) (d *ℤ (x *ℤ q))
    ∙ ap (λ z. z +ℤ s *ℤ w) (sym (int_mul_add d w (x *ℤ q)))
  where
    x : ℤ
    x = s +ℤ d

    q : ℤ
    q = at_number (quotient s cs) x

    w : ℤ
    w = c +ℤ s *ℤ at_number cs s

    order : (a b e : ℤ) → a +ℤ (b +ℤ e) ≡ (a +ℤ e) +ℤ b
    order a b e = omega (arith, ints)

    turn : (a b e : ℤ) → (a +ℤ b) +ℤ e ≡ (b +ℤ e) +ℤ a
    turn a b e = omega (arith, ints)

-- no coefficient but 0 has the value 0
zero_at : (cs : List ℤ) (x : ℤ) → AllZero cs → at_number cs x ≡ pos 0
zero_at [] x h = refl
zero_at (c ∷ cs) x h =
    ap₂ (λ a b. a +ℤ x *ℤ b) h.0 (zero_at cs x h.1) ∙ ap (λ z. pos 0 +ℤ z) (Ring.mul_zero Integers integer_ring x)

first_zero : (c x y : ℤ) → c +ℤ x *ℤ y ≡ pos 0 → y ≡ pos 0 → c ≡ pos 0
first_zero c x y e f = left c (x *ℤ y) e (ap (λ z. x *ℤ z) f ∙ Ring.mul_zero Integers integer_ring x)
  where
    left : (a b : ℤ) → a +ℤ b ≡ pos 0 → b ≡ pos 0 → a ≡ pos 0
    left a b e f = omega (arith, ints, e, f)

of_quotient : (s : ℤ) (cs : List ℤ) → AllZero (quotient s cs) → AllZero cs
of_quotient s [] h = tt
of_quotient s (c ∷ cs) h =
    let rest : AllZero cs = of_quotient s cs h.1 in (first_zero c s (at_number cs s) h.0 (zero_at cs s rest), rest)

-- so many roots as coefficients, at s and the next whole numbers
pub all_zero : (n : ℕ) (cs : List ℤ) (s : ℤ) → length cs ≡ n
    → ((i : ℕ) → i < n → at_number cs (s +ℤ pos i) ≡ pos 0) → AllZero cs
all_zero zero [] s e h = tt
all_zero zero (c ∷ cs) s e h = absurd (omega (arith, e))
all_zero (suc n) [] s e h = absurd (omega (arith, e))
all_zero (suc n) (c ∷ cs) s e h =
    let here : at_number (c ∷ cs) s ≡ pos 0 = ap (at_number (c ∷ cs)) (none s) ∙ h 0 (omega arith) in
    let rest : AllZero cs = of_quotient s cs (all_zero n (quotient s cs) (s +ℤ pos 1)
    (length-quotient s cs ∙ shorter (length cs) e) (λ i l. further i here (h (suc i) (omega (arith, l))))) in
    (first_zero c s (at_number cs s) here (zero_at cs s rest), rest)
  where
    none : (s : ℤ) → s ≡ s +ℤ pos 0
    none s = omega (arith, ints)

    shorter : (m : ℕ) → suc m ≡ suc n → m ≡ n
    shorter m e = omega (arith, e)

    next : (s : ℤ) (i : ℕ) → s +ℤ pos (suc i) ≡ (s +ℤ pos 1) +ℤ pos i
    next s i = omega (arith, ints)

    difference : (a b e f : ℤ) → a +ℤ b ≡ pos 0 → e ≡ f +ℤ b → a +ℤ e ≡ pos 0 → f ≡ pos 0
    difference a b e f p q r = omega (arith, ints, p, q, r)

    further : (i : ℕ) → at_number (c ∷ cs) s ≡ pos 0 → at_number (c ∷ cs) (s +ℤ pos (suc i)) ≡ pos 0
        → at_number (quotient s cs) ((s +ℤ pos 1) +ℤ pos i) ≡ pos 0
    further i p r =
        ap (at_number (quotient s cs)) (sym (next s i))
        ∙ drop_factor i (at_number (quotient s cs) (s +ℤ pos (suc i)))
        (difference c (s *ℤ at_number cs s) _ _ p (divided s (pos (suc i)) cs) r)
