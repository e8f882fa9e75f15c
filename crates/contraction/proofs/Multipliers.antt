-- Integers that a multiple takes away.
use Rattle.std.proofs.Common.{◌≡◌, ◌≢◌, ℕ, zero, suc, ◌*◌, ◌≤◌, true, false, refl, sym, ap, ◌∙◌, arith}
use Rattle.std.proofs.lemmas.Int.{ints, unsigned_abs-mul}
use Rattle.std.specs.Prelude.{ℤ, pos, negsuc, ◌+ℤ◌, ◌*ℤ◌, neg_ℤ, unsigned_abs}
use Rattle.coordinate_model.specs.Sums.{is_zero}

pub is_zero_at : (z : ℤ) → z ≡ pos 0 → is_zero z ≡ true
is_zero_at z e = ap is_zero e

pub is_zero_not : (z : ℤ) → z ≢ pos 0 → is_zero z ≡ false
is_zero_not (pos zero) n = absurd (n refl)
is_zero_not (pos (suc m)) n = refl
is_zero_not (negsuc m) n = refl

-- ---- only the counts 1 and -1 take an integer away

one_only : (n m : ℕ) → 1 ≤ n → n * m * m ≡ n → m ≡ 1
one_only n zero l e = absurd (omega arith)
one_only n (suc zero) l e = refl
one_only n (suc (suc j)) l e = absurd (omega arith)

abs_neg : (z : ℤ) → unsigned_abs (neg_ℤ z) ≡ unsigned_abs z
abs_neg (pos zero) = refl
abs_neg (pos (suc n)) = refl
abs_neg (negsuc n) = refl

some_abs : (z : ℤ) → z ≢ pos 0 → 1 ≤ unsigned_abs z
some_abs (pos zero) n = absurd (n refl)
some_abs (pos (suc m)) n = omega arith
some_abs (negsuc m) n = omega arith

abs_one : (k : ℤ) → k ≢ pos 1 → k ≢ negsuc 0 → unsigned_abs k ≢ 1
abs_one (pos n) p q e = p (ap pos e)
abs_one (negsuc n) p q e = q (ap negsuc (let f : suc n ≡ 1 = e in let g : n ≡ 0 = omega arith in g))

pub other_counts : (c k : ℤ) → c ≢ pos 0 → k ≢ pos 1 → k ≢ negsuc 0 → is_zero (c +ℤ neg_ℤ (c *ℤ k) *ℤ k) ≡ false
other_counts c k z p q =
    is_zero_not (c +ℤ neg_ℤ (c *ℤ k) *ℤ k)
    (λ e. abs_one k p q
    (one_only (unsigned_abs c) (unsigned_abs k) (some_abs c z)
    (sym (unsigned_abs-mul (neg_ℤ (c *ℤ k)) k
    ∙ ap (λ m. m * unsigned_abs k) (abs_neg (c *ℤ k) ∙ unsigned_abs-mul c k))
    ∙ (let f : neg_ℤ (c *ℤ k) *ℤ k ≡ neg_ℤ c = opposite (neg_ℤ (c *ℤ k) *ℤ k) e in ap unsigned_abs f ∙ abs_neg c))))
  where
    opposite : (y : ℤ) → c +ℤ y ≡ pos 0 → y ≡ neg_ℤ c
    opposite y e = omega (arith, ints)

pub count_one : (c : ℤ) → is_zero (c +ℤ neg_ℤ (c *ℤ pos 1) *ℤ pos 1) ≡ true
count_one c = is_zero_at (c +ℤ neg_ℤ (c *ℤ pos 1) *ℤ pos 1) (omega (arith, ints))

pub count_minus : (c : ℤ) → is_zero (c +ℤ neg_ℤ (c *ℤ negsuc 0) *ℤ negsuc 0) ≡ true
count_minus c = is_zero_at (c +ℤ neg_ℤ (c *ℤ negsuc 0) *ℤ negsuc 0) (omega (arith, ints))
