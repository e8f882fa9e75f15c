-- Small integers in eight bits.
use Rattle.std.proofs.Common.{◌≡◌, ◌≢◌, ap, sym, subst, ◌∙◌, inl, inr, to_z, of_z, w8, arith}
use Rattle.std.proofs.lemmas.Int.{ints}
use Rattle.std.specs.Prelude.{ℤ, pos, ◌+ℤ◌, ◌≤ℤ◌, neg_ℤ, FitsSigned}
use Rattle.coordinate_model.specs.Key.{Key}
use Rattle.syzygies.specs.SplitTerms.{IsSign}
use Rattle.syzygies.specs.Collected.{IsSmall}

-- an integer written to eight bits and read again
abbrev pub again : ℤ → ℤ
again c = to_z w8 (of_z w8 c)

pub again-sign : (c : ℤ) → IsSign c → again c ≡ c
again-sign c (inl e) = ap again e ∙ sym e
again-sign c (inr e) = ap again e ∙ sym e

again-small : (c : ℤ) → neg_ℤ (pos 101) ≤ℤ c → c ≤ℤ pos 101 → again c ≡ c
again-small c l h = omega (arith, ints)

-- the sum of a small integer and a sign
pub again-sum : (k : Key) (c more : ℤ) → IsSmall (k, c) → IsSign more → again c +ℤ again more ≡ c +ℤ more
again-sum k c more s (inl e) = omega (arith, ints, s.0, s.1, e)
again-sum k c more s (inr e) = omega (arith, ints, s.0, s.1, e)

-- is from -101 to 101
bounds : (k : Key) (c more : ℤ) → IsSmall (k, c) → IsSign more
    → (neg_ℤ (pos 101) ≤ℤ (c +ℤ more)) × ((c +ℤ more) ≤ℤ pos 101)
bounds k c more s (inl e) = (omega (arith, ints, s.0, s.1, e), omega (arith, ints, s.0, s.1, e))
bounds k c more s (inr e) = (omega (arith, ints, s.0, s.1, e), omega (arith, ints, s.0, s.1, e))

fits : (c : ℤ) → neg_ℤ (pos 101) ≤ℤ c → c ≤ℤ pos 101 → FitsSigned w8 c
fits c l h = omega (arith, ints)

-- and so the sum in eight bits is the sum
pub sum_fits : (k : Key) (c more : ℤ) → IsSmall (k, c) → IsSign more → FitsSigned w8 (again c +ℤ again more)
sum_fits k c more s m =
    let b = bounds k c more s m in
    subst (FitsSigned w8) (sym (again-sum k c more s m)) (fits (c +ℤ more) b.0 b.1)

pub sum_again : (k : Key) (c more : ℤ) → IsSmall (k, c) → IsSign more → again (again c +ℤ again more) ≡ c +ℤ more
sum_again k c more s m =
    let b = bounds k c more s m in
    ap again (again-sum k c more s m) ∙ again-small (c +ℤ more) b.0 b.1

pub sum_zero : (k : Key) (c more : ℤ) → IsSmall (k, c) → IsSign more → of_z w8 (again c +ℤ again more) ≡ 0
    → c +ℤ more ≡ pos 0
sum_zero k c more s m e = sym (sum_again k c more s m) ∙ ap (to_z w8) e

pub sum_nonzero : (k : Key) (c more : ℤ) → IsSmall (k, c) → IsSign more
    → (of_z w8 (again c +ℤ again more) ≡ 0 → ⊥) → c +ℤ more ≢ pos 0
sum_nonzero k c more s m n e = n (ap (of_z w8) (again-sum k c more s m ∙ e))
