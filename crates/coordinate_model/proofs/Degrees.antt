-- The degree of a coordinate polynomial in a variable, by its coefficients, and what becomes of it where numbers are
-- put in.
use Rattle.std.specs.Prelude.{◌≡◌, ℕ, ◌+◌, ◌<◌, ◌≤◌, Bool, true, false, cond, ℤ, pos, ◌+ℤ◌, ◌*ℤ◌, Option, None, Some}
use Rattle.std.specs.Prelude.{List, [], ◌∷◌, map}
use Rattle.std.specs.List.{AllByRecursion}
use Rattle.std.specs.Ordering.{eq_by_cmp, is_eq}
use Rattle.std.specs.declared.cmp.Ordering.{Ordering}
use Rattle.std.specs.declared.cmp.Ordering.TheVariants.{Less, Equal, Greater}
use Rattle.std.proofs.Common.{refl, sym, ap, ap₂, ◌∙◌, arith, ltb, ltb→lt, nltb→le, subst, T, not}
use Rattle.coordinate_model.specs.Ring.{Integers, of_int}
use Rattle.coordinate_model.specs.Sums.{Terms, coefficient, sum_value}
use Rattle.coordinate_model.specs.Polynomial.{Variable, variable_cmp, Monomial, monomial_cmp, monomial_of, exponent}
use Rattle.coordinate_model.specs.Polynomial.{Polynomial}
use Rattle.coordinate_model.specs.Numbers.{Numbers, put_in, number_for, greatest, degree}
use Rattle.coordinate_model.specs.NumberLaws.{IsDegree}
use Rattle.coordinate_model.proofs.Counts.{many, one_if}
use Rattle.coordinate_model.proofs.Orders.{count_ordered}
use Rattle.coordinate_model.proofs.Sorting.{count-many}
use Rattle.coordinate_model.proofs.RingLemmas as Ring
use Rattle.coordinate_model.proofs.IntegerRing.{integer_ring}
use Rattle.coordinate_model.proofs.Bools.{first, second}
use Rattle.coordinate_model.proofs.Members.{Mem, all_of_members, count_member, nonzero_member}
use Rattle.coordinate_model.proofs.SumLemmas.{indicator, count_at-value}
use Rattle.coordinate_model.proofs.WordLemmas.{letters-word_of}
use Rattle.coordinate_model.proofs.PolynomialRing.{variable_total, monomial_total, monomial_same}
use Rattle.coordinate_model.proofs.Putting.{total-put, numbered, others, left_of}

-- ---- the greatest of a list

all_under : (ts : Terms Monomial) (f : Monomial → ℕ) (n : ℕ) → greatest (map (λ t. f t.0) ts) ≤ n
    → AllByRecursion (λ t. f t.0 ≤ n) ts
all_under [] f n h = tt
all_under (t ∷ ts) f n h = (omega (arith, h), all_under ts f n (omega (arith, h)))

under_all : (ts : Terms Monomial) (f : Monomial → ℕ) (n : ℕ) → AllByRecursion (λ t. f t.0 ≤ n) ts
    → greatest (map (λ t. f t.0) ts) ≤ n
under_all [] f n h = omega arith
under_all (t ∷ ts) f n h = let r = under_all ts f n h.1 in omega (arith, h.0, r)

-- ---- the degree by exponents and by coefficients

pub exponents_under : (v : Variable) (p : Polynomial) → AllByRecursion (λ t. exponent v t.0 ≤ degree v p) p.terms
unfolding degree
exponents_under v p = all_under p.terms (exponent v) (degree v p) (omega arith)

not_tied : (m n : Monomial) → (m ≡ n → ⊥) → indicator monomial_cmp m n ≡ pos 0
not_tied m n h = by_case (monomial_cmp m n) refl
  where
    by_case : (r : Ordering) → monomial_cmp m n ≡ r → cond (is_eq r) (pos 1) (pos 0) ≡ pos 0
    by_case Less e = refl
    by_case Equal e = absurd (h (monomial_same m n e))
    by_case Greater e = refl

-- a sum of which each part is zero
pub zero_sum : (g : Monomial → ℤ) (ts : Terms Monomial) → AllByRecursion (λ t. g t.0 ≡ pos 0) ts
    → sum_value Integers g ts ≡ pos 0
zero_sum g [] h = refl
zero_sum g (t ∷ ts) h =
    ap₂ (λ a b. of_int Integers t.1 *ℤ a +ℤ b) h.0 (zero_sum g ts h.1)
    ∙ ap (λ z. z +ℤ pos 0) (Ring.mul_zero Integers integer_ring (of_int Integers t.1))

-- a monomial with a greater exponent has no coefficient
pub above_degree : (v : Variable) (p : Polynomial) (m : Monomial) → degree v p < exponent v m → coefficient p m ≡ pos 0
above_degree v p m l =
    count_at-value monomial_cmp m p.terms
    ∙ zero_sum (indicator monomial_cmp m) p.terms (each p.terms (exponents_under v p))
  where
    each : (ts : Terms Monomial) → AllByRecursion (λ t. exponent v t.0 ≤ degree v p) ts
        → AllByRecursion (λ t. indicator monomial_cmp m t.0 ≡ pos 0) ts
    each [] h = tt
    each (t ∷ ts) h = (
      not_tied m t.0 (λ e. let f : exponent v m ≡ exponent v t.0 = ap (exponent v) e in
          absurd (omega (arith, l, h.0, f))),
      each ts h.1,
    )

-- and where so it is, the degree is no greater
pub degree_under : (v : Variable) (p : Polynomial) (n : ℕ)
    → ((m : Monomial) → n < exponent v m → coefficient p m ≡ pos 0) → degree v p ≤ n
unfolding degree
degree_under v p n h = under_all p.terms (exponent v) n (all_of_members _ p.terms each)
  where
    by_case : (e : Monomial × ℤ) → Mem e p.terms → (b : Bool) → ltb n (exponent v e.0) ≡ b → exponent v e.0 ≤ n
    by_case e m true q =
        absurd (nonzero_member monomial_cmp e p.terms m (second _ _ p.canonical)
        (sym (count_member monomial_cmp monomial_total monomial_same e p.terms m (first _ _ p.canonical))
        ∙ h e.0 (ltb→lt n (exponent v e.0) (subst T (sym q) tt))))
    by_case e m false q = nltb→le n (exponent v e.0) (subst (λ b. T (not b)) (sym q) tt)

    each : (e : Monomial × ℤ) → Mem e p.terms → exponent v e.0 ≤ n
    each e m = by_case e m (ltb n (exponent v e.0)) refl

-- ---- numbers put in

exponent-word : (v : Variable) (vs : List Variable)
    → exponent v (monomial_of vs) ≡ many (eq_by_cmp variable_cmp v) vs
exponent-word v vs =
    count-many (eq_by_cmp variable_cmp v) (monomial_of vs).letters
    ∙ ap (many (eq_by_cmp variable_cmp v)) (letters-word_of variable_cmp variable_total vs)
    ∙ count_ordered variable_total (eq_by_cmp variable_cmp v) vs

-- where no monomial has more of v left, the degree in v is no greater
pub degree-put : (ns : Numbers) (v : Variable) (p : Polynomial) (n : ℕ)
    → AllByRecursion (λ t. exponent v (left_of ns t.0) ≤ n) p.terms → degree v (put_in ns p) ≤ n
degree-put ns v p n h =
    degree_under v (put_in ns p) n (λ m l. count_at-value monomial_cmp m (put_in ns p).terms
    ∙ total-put (indicator monomial_cmp m) ns p ∙ zero_sum _ p.terms (each m l p.terms h))
  where
    each : (m : Monomial) → n < exponent v m → (ts : Terms Monomial)
        → AllByRecursion (λ t. exponent v (left_of ns t.0) ≤ n) ts
        → AllByRecursion (λ t. numbered ns t.0.letters *ℤ indicator monomial_cmp m (left_of ns t.0) ≡ pos 0) ts
    each m l [] h = tt
    each m l (t ∷ ts) h = (
      ap (λ z. numbered ns t.0.letters *ℤ z) (not_tied m (left_of ns t.0) (λ e.
          let f : exponent v m ≡ exponent v (left_of ns t.0) = ap (exponent v) e in absurd (omega (arith, l, h.0, f))))
          ∙ Ring.mul_zero Integers integer_ring (numbered ns t.0.letters),
      each m l ts h.1,
    )

fewer : (ns : Numbers) (p : Variable → Bool) (vs : List Variable) → many p (others ns vs) ≤ many p vs
fewer ns p [] = omega arith
fewer ns p (v ∷ vs) = by_case (ns v) (fewer ns p vs)
  where
    by_case : (o : Option ℤ) → many p (others ns vs) ≤ many p vs
        → many p (elim o as (λ x. List Variable) [ None ↦ v ∷ others ns vs | Some z ↦ others ns vs ])
        ≤ one_if (p v) + many p vs
    by_case None h = omega (arith, h)
    by_case (Some z) h = omega (arith, h)

-- no degree grows
pub degree-kept : (ns : Numbers) (v : Variable) (p : Polynomial) → degree v (put_in ns p) ≤ degree v p
degree-kept ns v p = degree-put ns v p (degree v p) (each p.terms (exponents_under v p))
  where
    each : (ts : Terms Monomial) → AllByRecursion (λ t. exponent v t.0 ≤ degree v p) ts
        → AllByRecursion (λ t. exponent v (left_of ns t.0) ≤ degree v p) ts
    each [] h = tt
    each (t ∷ ts) h = (
      omega (
        arith,
        h.0,
        exponent-word v (others ns t.0.letters),
        fewer ns (eq_by_cmp variable_cmp v) t.0.letters,
        count-many (eq_by_cmp variable_cmp v) t.0.letters,
      ),
      each ts h.1,
    )

none_left : (v : Variable) (z : ℤ) (vs : List Variable)
    → many (eq_by_cmp variable_cmp v) (others (number_for v z) vs) ≡ 0
none_left v z [] = refl
none_left v z (w ∷ vs) = by_case (eq_by_cmp variable_cmp v w) refl (none_left v z vs)
  where
    by_case : (b : Bool) → eq_by_cmp variable_cmp v w ≡ b
        → many (eq_by_cmp variable_cmp v) (others (number_for v z) vs) ≡ 0
        → many (eq_by_cmp variable_cmp v) (elim (cond b (Some z) None) as
        (λ x. List Variable) [ None ↦ w ∷ others (number_for v z) vs | Some y ↦ others (number_for v z) vs ]) ≡ 0
    by_case true e h = h
    by_case false e h = let f : one_if (eq_by_cmp variable_cmp v w) ≡ 0 = ap one_if e in omega (arith, f, h)

-- with a number for v the polynomial has no v
pub degree-gone : (v : Variable) (z : ℤ) (p : Polynomial) → degree v (put_in (number_for v z) p) ≡ 0
degree-gone v z p =
    let h : degree v (put_in (number_for v z) p) ≤ 0 = degree-put (number_for v z) v p 0 (each p.terms) in omega (arith, h)
  where
    each : (ts : Terms Monomial) → AllByRecursion (λ t. exponent v (left_of (number_for v z) t.0) ≤ 0) ts
    each [] = tt
    each (t ∷ ts) =
        (omega (arith, exponent-word v (others (number_for v z) t.0.letters), none_left v z t.0.letters), each ts)

pub is_degree : (v : Variable) (p : Polynomial) → IsDegree v p
is_degree v p = record {
  above = above_degree v p;
  least = degree_under v p;
  kept = λ ns. degree-kept ns v p;
  gone = λ z. degree-gone v z p;
}
