-- With least numbers for all of its variables, one after the other, the value of a nonzero polynomial is not 0.
use Rattle.std.specs.Prelude.{◌≡◌, ◌≢◌, ℕ, zero, suc, ◌+◌, ◌≤◌, Bool, true, false, cond, ℤ, pos, ◌+ℤ◌, ◌*ℤ◌, None, Some}
use Rattle.std.specs.Prelude.{List, [], ◌∷◌, ◌++◌, map, Contains, ◌⊎◌}
use Rattle.std.specs.List.{AllByRecursion}
use Rattle.std.specs.Cmp.{tied_itself}
use Rattle.std.specs.Ordering.{is_eq}
use Rattle.std.specs.declared.cmp.Ordering.{Ordering}
use Rattle.std.specs.declared.cmp.Ordering.TheVariants.{Less, Equal, Greater}
use Rattle.std.proofs.Common.{refl, sym, ap, ap₂, ◌∙◌, arith, subst, inl, inr, true≢false}
use Rattle.coordinate_model.specs.Ring.{Integers, of_int}
use Rattle.coordinate_model.specs.Words.{product_of}
use Rattle.coordinate_model.specs.Sums.{Terms, coefficient, sum_value}
use Rattle.coordinate_model.specs.Polynomial.{Variable, variable_cmp, Monomial, monomial_cmp, exponent}
use Rattle.coordinate_model.specs.Polynomial.{Polynomial, Polynomials}
use Rattle.coordinate_model.specs.Evaluation.{value_in}
use Rattle.coordinate_model.specs.Placement.{Placement, value_at}
use Rattle.coordinate_model.specs.Numbers.{number_for, number_or, degree, AreLeastNumbers, number_in}
use Rattle.coordinate_model.specs.Numbers.{greatest}
use Rattle.coordinate_model.specs.NumberLaws.{ValueWithoutVariables, LeastNumbersValue, HasNonzeroPlacement, ZeroEverywhere}
use Rattle.coordinate_model.proofs.Counts.{many, one_if, many-append}
use Rattle.coordinate_model.proofs.Sorting.{count-many}
use Rattle.coordinate_model.proofs.SumLemmas.{indicator, count_at-value, same_coefficients}
use Rattle.coordinate_model.proofs.WordLemmas.{same_letters}
use Rattle.coordinate_model.proofs.PolynomialRing.{variable_total, monomial_total, monomial_same, unit}
use Rattle.coordinate_model.proofs.Putting.{value_at-put}
use Rattle.coordinate_model.proofs.Degrees.{exponents_under, above_degree, degree-kept, degree-gone}
use Rattle.coordinate_model.proofs.Rests.{is_variable, same_variable_so}
use Rattle.coordinate_model.proofs.LeastNumbers.{with_number, zero_or_not, has_least_numbers, least_numbers_bound}

-- ---- a polynomial without variables

no_letter : (m : Monomial) → ((v : Variable) → exponent v m ≡ 0) → m.letters ≡ []
no_letter m h = by_case m.letters refl
  where
    by_case : (vs : List Variable) → m.letters ≡ vs → m.letters ≡ []
    by_case [] e = e
    by_case (v ∷ vs) e =
        let f : exponent v m ≡ many (is_variable v) (v ∷ vs) =
        count-many (is_variable v) m.letters ∙ ap (many (is_variable v)) e in
        let g : one_if (is_variable v v) ≡ 1 = ap (λ r. one_if (is_eq r)) (tied_itself variable_total v) in
        absurd (omega (arith, f, g, h v))

module _ (p : Polynomial) (h : (v : Variable) → degree v p ≡ 0) where
  alone : (m : Monomial) → m.letters ≡ [] → m ≡ unit
  alone m e = same_letters variable_cmp variable_total m unit e

  is_one : (at : Placement) (m : Monomial) → m ≡ unit → indicator monomial_cmp unit m ≡ product_of Integers at m.letters
  is_one at m e =
      ap (indicator monomial_cmp unit) e ∙ ap (λ r. cond (is_eq r) (pos 1) (pos 0)) (tied_itself monomial_total unit)
      ∙ sym (ap (λ (n : Monomial). product_of Integers at n.letters) e)

  each_one : (at : Placement) (ts : Terms Monomial) → ((v : Variable) → AllByRecursion (λ t. exponent v t.0 ≤ 0) ts)
      → sum_value Integers (indicator monomial_cmp unit) ts
      ≡ sum_value Integers (λ m. product_of Integers at m.letters) ts
  each_one at [] l = refl
  each_one at (t ∷ ts) l =
      ap₂ (λ a b. of_int Integers t.1 *ℤ a +ℤ b)
      (is_one at t.0 (alone t.0 (no_letter t.0 (λ v. let k = (l v).0 in omega (arith, k)))))
      (each_one at ts (λ v. (l v).1))

  -- its value at every placement is the integer of the monomial without letters
  pub value_alone : (at : Placement) → value_at at p ≡ coefficient p unit
  unfolding value_in
  value_alone at =
      sym (count_at-value monomial_cmp unit p.terms
      ∙ each_one at p.terms (λ v. subst (λ n. AllByRecursion (λ t. exponent v t.0 ≤ n) p.terms) (h v)
      (exponents_under v p)))

  -- and the others have no coefficient
  pub others_alone : (m : Monomial) → m ≢ unit → coefficient p m ≡ pos 0
  others_alone m n = by_case m.letters refl
    where
      by_case : (vs : List Variable) → m.letters ≡ vs → coefficient p m ≡ pos 0
      by_case [] e = absurd (n (alone m e))
      by_case (v ∷ vs) e =
          let f : exponent v m ≡ many (is_variable v) (v ∷ vs) =
          count-many (is_variable v) m.letters ∙ ap (many (is_variable v)) e in
          let g : one_if (is_variable v v) ≡ 1 = ap (λ r. one_if (is_eq r)) (tied_itself variable_total v) in
          above_degree v p m (omega (arith, f, g, h v))

  zero_alone : (at : Placement) → value_at at p ≡ pos 0 → p ≡ Polynomials.𝟘
  zero_alone at z =
      same_coefficients monomial_cmp monomial_total monomial_same p Polynomials.𝟘 (λ m. by_case m (monomial_cmp m unit) refl)
    where
      none : (m : Monomial) (r : Ordering) → monomial_cmp m unit ≡ r → is_eq r ≡ false → coefficient p m ≡ pos 0
      none m r e f =
          others_alone m (λ g. true≢false
          (sym (ap is_eq (ap (λ n. monomial_cmp n unit) g ∙ tied_itself monomial_total unit)) ∙ ap is_eq e ∙ f))

      by_case : (m : Monomial) (r : Ordering) → monomial_cmp m unit ≡ r → coefficient p m ≡ pos 0
      by_case m Less e = none m Less e refl
      by_case m Equal e = ap (coefficient p) (monomial_same m unit e) ∙ sym (value_alone at) ∙ z
      by_case m Greater e = none m Greater e refl

-- ---- the value with least numbers

-- no variable but those that are counted in the list
abbrev Counted : List Variable → Polynomial → Type 0
Counted vs p = (v : Variable) → many (is_variable v) vs ≡ 0 → degree v p ≡ 0

-- the placement with the first number
first_number : (n : Variable × ℕ) (ns : List (Variable × ℕ)) (p : Polynomial)
    → value_at (λ v. pos (number_in (n ∷ ns) v)) p
    ≡ value_at (λ v. pos (number_in ns v)) (with_number n.0 p n.1)
first_number n ns p =
    ap (λ g. value_at g p) (λ j v. each v j)
    ∙ sym (value_at-put (λ v. pos (number_in ns v)) (number_for n.0 (pos n.1)) p)
  where
    each : (v : Variable) → pos (number_in (n ∷ ns) v)
        ≡ number_or (number_for n.0 (pos n.1)) (λ v. pos (number_in ns v)) v
    each v = elim (is_variable n.0 v) as
        (λ b. pos (cond b n.1 (number_in ns v)) ≡ elim (cond b (Some (pos n.1)) None) as
        (λ x. ℤ) [ None ↦ pos (number_in ns v) | Some z ↦ z ]) [ true ↦ refl | false ↦ refl ]

counted_next : (n : Variable × ℕ) (vs : List Variable) (p : Polynomial) → Counted (n.0 ∷ vs) p
    → Counted vs (with_number n.0 p n.1)
counted_next n vs p h v e = by_case (is_variable v n.0) refl
  where
    by_case : (b : Bool) → is_variable v n.0 ≡ b → degree v (with_number n.0 p n.1) ≡ 0
    by_case true f =
        ap (λ w. degree w (with_number n.0 p n.1)) (same_variable_so v n.0 f) ∙ degree-gone n.0 (pos n.1) p
    by_case false f =
        let g : one_if (is_variable v n.0) ≡ 0 = ap one_if f in
        let k : degree v p ≡ 0 = h v (omega (arith, g, e)) in
        omega (arith, k, degree-kept (number_for n.0 (pos n.1)) v p)

nonzero_value : (ns : List (Variable × ℕ)) (p : Polynomial) → (p ≡ Polynomials.𝟘 → ⊥) → AreLeastNumbers ns p
    → Counted (map (λ n. n.0) ns) p → value_at (λ v. pos (number_in ns v)) p ≡ pos 0 → ⊥
nonzero_value [] p h l c z = h (zero_alone p (λ v. c v refl) _ z)
nonzero_value (n ∷ ns) p h l c z =
    nonzero_value ns (with_number n.0 p n.1) l.0.nonzero l.1 (counted_next n (map (λ n. n.0) ns) p c)
    (sym (first_number n ns p) ∙ z)

contained : (vs : List Variable) (v : Variable) → Contains vs v → many (is_variable v) vs ≡ 0 → ⊥
contained [] v (k, l, e) z = omega (arith, l)
contained (w ∷ vs) v (zero, l, e) z =
    let g : one_if (is_variable v w) ≡ 1 =
    ap (λ x. one_if (is_variable v x)) e ∙ ap (λ r. one_if (is_eq r)) (tied_itself variable_total v) in
    omega (arith, g, z)
contained (w ∷ vs) v (suc k, l, e) z = contained vs v (k, omega (arith, l), e) (omega (arith, z))

pub least_numbers_value : LeastNumbersValue
least_numbers_value ns p h l c =
    nonzero_value ns p h l (λ v e. c v (λ m. contained (map (λ n. n.0) ns) v m e))

-- ---- the variables of a polynomial

abbrev variables : Terms Monomial → List Variable
variables [] = []
variables (t ∷ ts) = t.0.letters ++ variables ts

counted : (v : Variable) (ts : Terms Monomial) → many (is_variable v) (variables ts) ≡ 0
    → greatest (map (λ t. exponent v t.0) ts) ≡ 0
counted v [] e = refl
counted v (t ∷ ts) e =
    let m : many (is_variable v) (variables (t ∷ ts)) ≡ many (is_variable v) t.0.letters + many (is_variable v) (variables ts) =
    many-append (is_variable v) t.0.letters (variables ts) in
    let r : greatest (map (λ t. exponent v t.0) ts) ≡ 0 = counted v ts (omega (arith, e, m)) in
    let f : exponent v t.0 ≡ many (is_variable v) t.0.letters = count-many (is_variable v) t.0.letters in
    omega (arith, e, m, r, f)

has_variables : (p : Polynomial) → Counted (variables p.terms) p
unfolding degree
has_variables p v e = counted v p.terms e

pub has_nonzero_placement : HasNonzeroPlacement
has_nonzero_placement p h =
    let found = has_least_numbers (variables p.terms) p h in (
      number_in found.0,
      (
        least_numbers_bound found.0 p found.1.1,
        nonzero_value found.0 p h found.1.1
            (λ v e. has_variables p v (ap (many (is_variable v)) (sym found.1.0) ∙ e)),
      ),
    )

pub zero_everywhere : ZeroEverywhere
zero_everywhere p h = by_case (zero_or_not p)
  where
    by_case : (p ≡ Polynomials.𝟘) ⊎ (p ≡ Polynomials.𝟘 → ⊥) → p ≡ Polynomials.𝟘
    by_case (inl z) = z
    by_case (inr n) =
        let found = has_nonzero_placement p n in absurd (found.1.1 (h (λ v. pos (found.0 v))))

pub value_without_variables : ValueWithoutVariables
value_without_variables p h = (value_alone p none, others_alone p none)
  where
    none : (v : Variable) → degree v p ≡ 0
    none v = h v (λ c. contained [] v c refl)
