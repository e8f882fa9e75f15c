-- A coordinate polynomial that is not zero has a least whole number for each variable with which, put in, it is not
-- zero; and it is at most the degree in the variable.
use Rattle.std.specs.Prelude.{◌≡◌, ℕ, zero, suc, ◌<◌, ◌≤◌, Bool, true, false, cond, pos}
use Rattle.std.specs.Prelude.{List, [], ◌∷◌, ◌⊎◌}
use Rattle.std.proofs.Common.{refl, sym, ap, ◌∙◌, arith, subst, inl, inr, true≢false}
use Rattle.coordinate_model.specs.Sums.{Terms}
use Rattle.coordinate_model.specs.Polynomial.{Variable, Monomial, monomial_cmp}
use Rattle.coordinate_model.specs.Polynomial.{Polynomial, Polynomials}
use Rattle.coordinate_model.specs.Numbers.{put_in, number_for, degree, number_in}
use Rattle.coordinate_model.specs.Numbers.{number_or_itself}
use Rattle.coordinate_model.specs.NumberLaws.{HasLeastNumber, LeastNumberBound, HasLeastNumbers, LeastNumbersBound}
use Rattle.coordinate_model.proofs.PolynomialRing.{monomial_total, monomial_same}
use Rattle.coordinate_model.proofs.PolynomialRing.{value_in-operations, polynomial_ring}
use Rattle.coordinate_model.proofs.Powers.{same, same_so, same_itself}
use Rattle.coordinate_model.proofs.Degrees.{degree-kept}
use Rattle.coordinate_model.proofs.Members.{no_terms}
use Rattle.coordinate_model.proofs.Rests.{is_variable, same_variable_so, zero_of_numbers}

-- whether a polynomial is zero
pub zero_or_not : (p : Polynomial) → (p ≡ Polynomials.𝟘) ⊎ (p ≡ Polynomials.𝟘 → ⊥)
zero_or_not p = by_case p.terms refl
  where
    by_case : (ts : Terms Monomial) → p.terms ≡ ts → (p ≡ Polynomials.𝟘) ⊎ (p ≡ Polynomials.𝟘 → ⊥)
    by_case [] e = inl (no_terms monomial_cmp monomial_total monomial_same p e)
    by_case (t ∷ ts) e = inr (λ z. let f : t ∷ ts ≡ [] = sym e ∙ ap (λ (q : Polynomial). q.terms) z in cc)

-- the first of the polynomials that is not zero
abbrev Found : (ℕ → Polynomial) → ℕ → Type 0
Found f n =
    (k : ℕ) × ((k < n) × ((f k ≡ Polynomials.𝟘 → ⊥) × ((i : ℕ) → i < k → f i ≡ Polynomials.𝟘)))

search : (f : ℕ → Polynomial) (n : ℕ) → ((i : ℕ) → i < n → f i ≡ Polynomials.𝟘) ⊎ Found f n
search f zero = inl (λ i l. absurd (omega (arith, l)))
search f (suc n) = step (search f n) (zero_or_not (f n))
  where
    one_more : f n ≡ Polynomials.𝟘 → ((i : ℕ) → i < n → f i ≡ Polynomials.𝟘) → (i : ℕ) → i < suc n
        → f i ≡ Polynomials.𝟘
    one_more z h i l = by_case (same i n) refl
      where
        by_case : (b : Bool) → same i n ≡ b → f i ≡ Polynomials.𝟘
        by_case true e = ap f (same_so i n e) ∙ z
        by_case false e = h i (omega (arith, l, λ (g : i ≡ n). true≢false (sym (same_itself i) ∙ ap (same i) g ∙ e)))

    step : ((i : ℕ) → i < n → f i ≡ Polynomials.𝟘) ⊎ Found f n
        → (f n ≡ Polynomials.𝟘) ⊎ (f n ≡ Polynomials.𝟘 → ⊥)
        → ((i : ℕ) → i < suc n → f i ≡ Polynomials.𝟘) ⊎ Found f (suc n)
    step (inr found) d = inr (found.0, (omega (arith, found.1.0), found.1.1))
    step (inl h) (inl z) = inl (one_more z h)
    step (inl h) (inr z) = inr (n, (omega arith, (z, h)))

abbrev pub with_number : Variable → Polynomial → ℕ → Polynomial
with_number v p n = put_in (number_for v (pos n)) p

least : (v : Variable) (p : Polynomial) → (p ≡ Polynomials.𝟘 → ⊥) → Found (with_number v p) (suc (degree v p))
least v p h = by_case (search (with_number v p) (suc (degree v p)))
  where
    by_case : ((i : ℕ) → i < suc (degree v p) → with_number v p i ≡ Polynomials.𝟘)
        ⊎ Found (with_number v p) (suc (degree v p)) → Found (with_number v p) (suc (degree v p))
    by_case (inl z) = absurd (h (zero_of_numbers v p z))
    by_case (inr found) = found

pub has_least_number : HasLeastNumber
has_least_number v p h =
    let found = least v p h in (found.0, record { nonzero = found.1.1.0; least = found.1.1.1 })

pub least_number_bound : LeastNumberBound
least_number_bound v p n l = by_case (zero_or_not p)
  where
    by_case : (p ≡ Polynomials.𝟘) ⊎ (p ≡ Polynomials.𝟘 → ⊥) → n ≤ degree v p
    by_case (inl z) =
        absurd (l.nonzero (ap (put_in (number_for v (pos n))) z ∙ (value_in-operations Polynomials polynomial_ring
        (number_or_itself (number_for v (pos n)))).to_zero))
    by_case (inr h) =
        let found = least v p h in
        under n (degree v p) found.0 found.1.0 (λ k. found.1.1.0 (l.least found.0 k))
      where
        under : (n d k : ℕ) → k < suc d → (k < n → ⊥) → n ≤ d
        under n d k e f = omega (arith, e, f)

pub has_least_numbers : HasLeastNumbers
has_least_numbers [] p h = ([], (refl, tt))
has_least_numbers (v ∷ vs) p h =
    let n = has_least_number v p h in
    let ns = has_least_numbers vs (with_number v p n.0) n.1.nonzero in
    ((v, n.0) ∷ ns.0, (ap {B = List Variable} (λ r. v ∷ r) ns.1.0, (n.1, ns.1.1)))

pub least_numbers_bound : LeastNumbersBound
least_numbers_bound [] p l v = omega arith
least_numbers_bound (n ∷ ns) p l v =
    by_case (is_variable n.0 v) refl (least_numbers_bound ns (with_number n.0 p n.1) l.1 v)
  where
    by_case : (b : Bool) → is_variable n.0 v ≡ b → number_in ns v ≤ degree v (with_number n.0 p n.1)
        → cond b n.1 (number_in ns v) ≤ degree v p
    by_case true e h = subst (λ w. n.1 ≤ degree w p) (same_variable_so n.0 v e) (least_number_bound n.0 p n.1 l.0)
    by_case false e h = omega (arith, h, degree-kept (number_for n.0 (pos n.1)) v p)
