-- A monomial is told by its exponent in a variable and by the rest of it. So a polynomial that is zero with each
-- number up to its degree put in for the variable is zero.
use Rattle.std.specs.Prelude.{◌≡◌, ℕ, zero, suc, ◌+◌, ◌<◌, ◌≤◌, Bool, true, false, cond, ℤ, pos, ◌*ℤ◌, None, Some}
use Rattle.std.specs.Prelude.{List, [], ◌∷◌, ◌++◌}
use Rattle.std.specs.List.{AllByRecursion}
use Rattle.std.specs.Cmp.{tied_itself}
use Rattle.std.specs.Ordering.{eq_by_cmp, is_eq}
use Rattle.std.specs.declared.cmp.Ordering.{Ordering}
use Rattle.std.specs.declared.cmp.Ordering.TheVariants.{Less, Equal, Greater}
use Rattle.std.proofs.Common.{refl, sym, ap, ap₂, ◌∙◌, arith, true≢false}
use Rattle.coordinate_model.specs.Ring.{Integers}
use Rattle.coordinate_model.specs.Words.{ordered, place}
use Rattle.coordinate_model.specs.Sums.{Terms, sum_value}
use Rattle.coordinate_model.specs.Polynomial.{Variable, variable_cmp, Monomial, monomial_cmp, monomial_of, exponent}
use Rattle.coordinate_model.specs.Polynomial.{Polynomial, Polynomials}
use Rattle.coordinate_model.specs.Numbers.{put_in, number_for, degree}
use Rattle.coordinate_model.proofs.Counts.{many, one_if}
use Rattle.coordinate_model.proofs.Sorting.{count-many}
use Rattle.coordinate_model.proofs.IntegerRing.{integer_ring}
use Rattle.coordinate_model.proofs.Orders.{ordered_append_comm}
use Rattle.coordinate_model.proofs.SumLemmas.{indicator, count_at-value, same_coefficients}
use Rattle.coordinate_model.proofs.SumValues.{value_alike}
use Rattle.coordinate_model.proofs.WordLemmas.{letters-word_of, same_letters, word_of-append}
use Rattle.coordinate_model.proofs.PolynomialRing.{variable_total, variable_same, monomial_total, monomial_same, join}
use Rattle.coordinate_model.specs.Weights.{power}
use Rattle.coordinate_model.proofs.Powers.{same, same_so, same_itself, zero_powers}
use Rattle.coordinate_model.proofs.Putting.{total, total-put, numbered, others, left_of, monomial_of-letters}
use Rattle.coordinate_model.proofs.Degrees.{exponents_under}

abbrev pub is_variable : Variable → Variable → Bool
is_variable v = eq_by_cmp variable_cmp v

pub same_variable_so : (v w : Variable) → is_variable v w ≡ true → v ≡ w
same_variable_so v w e = by_case (variable_cmp v w) refl e
  where
    by_case : (r : Ordering) → variable_cmp v w ≡ r → is_eq r ≡ true → v ≡ w
    by_case Less f g = absurd (true≢false (sym g))
    by_case Equal f g = variable_same v w f
    by_case Greater f g = absurd (true≢false (sym g))

-- ---- a monomial as a power of v times the rest

abbrev without : Variable → List Variable → List Variable
without v [] = []
without v (w ∷ vs) = cond (is_variable v w) (without v vs) (w ∷ without v vs)

abbrev times : ℕ → Variable → List Variable
times zero v = []
times (suc n) v = v ∷ times n v

abbrev rest : Variable → Monomial → Monomial
rest v m = monomial_of (without v m.letters)

abbrev exp : Variable → Monomial → ℕ
exp v m = many (is_variable v) m.letters

others-without : (v : Variable) (z : ℤ) (vs : List Variable) → others (number_for v z) vs ≡ without v vs
others-without v z [] = refl
others-without v z (w ∷ vs) = elim (is_variable v w) as
    (λ b. elim (cond b (Some z) None) as
    (λ x. List Variable) [ None ↦ w ∷ others (number_for v z) vs | Some y ↦ others (number_for v z) vs ]
    ≡ cond b (without v vs) (w ∷ without v vs)) [
      | true ↦ others-without v z vs
      | false ↦ ap {B = List Variable} (λ r. w ∷ r) (others-without v z vs)
    ]

numbered-power : (v : Variable) (z : ℤ) (vs : List Variable)
    → numbered (number_for v z) vs ≡ power z (many (is_variable v) vs)
numbered-power v z [] = refl
numbered-power v z (w ∷ vs) = elim (is_variable v w) as
    (λ b. elim (cond b (Some z) None) as
    (λ x. ℤ) [ None ↦ numbered (number_for v z) vs | Some y ↦ y *ℤ numbered (number_for v z) vs ]
    ≡ power z (one_if b + many (is_variable v) vs)) [
      | true ↦ ap (λ w. z *ℤ w) (numbered-power v z vs)
          ∙ ap (power z) (let e : suc (many (is_variable v) vs) ≡ 1 + many (is_variable v) vs = omega arith in e)
      | false ↦ numbered-power v z vs
          ∙ ap (power z) (let e : many (is_variable v) vs ≡ 0 + many (is_variable v) vs = omega arith in e)
    ]

-- the letters v first
in_front : (v : Variable) (vs : List Variable)
    → ordered variable_cmp (times (many (is_variable v) vs) v ++ without v vs) ≡ ordered variable_cmp vs
in_front v [] = refl
in_front v (w ∷ vs) = by_case (is_variable v w) refl (in_front v vs)
  where
    n : ℕ
    n = many (is_variable v) vs

    one_more : (k : ℕ) → 1 + k ≡ suc k
    one_more k = omega arith

    none_more : (k : ℕ) → 0 + k ≡ k
    none_more k = omega arith

    by_case : (b : Bool) → is_variable v w ≡ b
        → ordered variable_cmp (times n v ++ without v vs) ≡ ordered variable_cmp vs
        → ordered variable_cmp (times (one_if b + n) v ++ cond b (without v vs) (w ∷ without v vs))
        ≡ place variable_cmp w (ordered variable_cmp vs)
    by_case true e ih =
        ap (λ k. ordered variable_cmp (times k v ++ without v vs)) (one_more n)
        ∙ ap₂ (place variable_cmp) (same_variable_so v w e) ih
    by_case false e ih =
        ap (λ k. ordered variable_cmp (times k v ++ (w ∷ without v vs))) (none_more n)
        ∙ ordered_append_comm variable_total variable_same (times n v) (w ∷ without v vs)
        ∙ ap (place variable_cmp w) (ordered_append_comm variable_total variable_same (without v vs) (times n v)
        ∙ ih)

power-rest : (v : Variable) (m : Monomial) → join (monomial_of (times (exp v m) v)) (rest v m) ≡ m
power-rest v m =
    sym (word_of-append variable_cmp variable_total variable_same (times (exp v m) v) (without v m.letters))
    ∙ same_letters variable_cmp variable_total _ _
    (letters-word_of variable_cmp variable_total (times (exp v m) v ++ without v m.letters) ∙ in_front v m.letters
    ∙ sym (letters-word_of variable_cmp variable_total m.letters))
    ∙ monomial_of-letters m

same_monomial : (v : Variable) (m n : Monomial) → exp v m ≡ exp v n → rest v m ≡ rest v n → m ≡ n
same_monomial v m n e f =
    sym (power-rest v m) ∙ ap₂ join (ap (λ k. monomial_of (times k v)) e) f ∙ power-rest v n

-- a monomial is told by both
told : (v : Variable) (m k : Monomial) → indicator monomial_cmp m k
    ≡ cond (same (exp v k) (exp v m)) (indicator monomial_cmp (rest v m) (rest v k)) (pos 0)
told v m k = by_case (monomial_cmp m k) refl
  where
    alike : m ≡ k → pos 1 ≡ cond (same (exp v k) (exp v m)) (indicator monomial_cmp (rest v m) (rest v k)) (pos 0)
    alike e =
        sym (ap (λ n. cond (same (exp v n) (exp v m)) (indicator monomial_cmp (rest v m) (rest v n)) (pos 0)) (sym e)
        ∙ ap (λ b. cond b (indicator monomial_cmp (rest v m) (rest v m)) (pos 0)) (same_itself (exp v m))
        ∙ ap (λ r. cond (is_eq r) (pos 1) (pos 0)) (tied_itself monomial_total (rest v m)))

    unlike : (m ≡ k → ⊥) → (b : Bool) → same (exp v k) (exp v m) ≡ b → (r : Ordering)
        → monomial_cmp (rest v m) (rest v k) ≡ r → pos 0 ≡ cond b (cond (is_eq r) (pos 1) (pos 0)) (pos 0)
    unlike h false e r f = refl
    unlike h true e Less f = refl
    unlike h true e Equal f =
        absurd (h (same_monomial v m k (sym (same_so (exp v k) (exp v m) e)) (monomial_same (rest v m) (rest v k) f)))
    unlike h true e Greater f = refl

    differ : (r : Ordering) → monomial_cmp m k ≡ r → is_eq r ≡ false → m ≡ k → ⊥
    differ r e f g =
        true≢false (sym (ap is_eq (ap (monomial_cmp m) (sym g) ∙ tied_itself monomial_total m)) ∙ ap is_eq e ∙ f)

    by_case : (r : Ordering) → monomial_cmp m k ≡ r → cond (is_eq r) (pos 1) (pos 0)
        ≡ cond (same (exp v k) (exp v m)) (indicator monomial_cmp (rest v m) (rest v k)) (pos 0)
    by_case Less e = unlike (differ Less e refl) (same (exp v k) (exp v m)) refl (monomial_cmp (rest v m) (rest v k)) refl
    by_case Equal e = alike (monomial_same m k e)
    by_case Greater e =
        unlike (differ Greater e refl) (same (exp v k) (exp v m)) refl (monomial_cmp (rest v m) (rest v k)) refl

-- ---- a polynomial that is zero with each number up to its degree is zero

pub zero_of_numbers : (v : Variable) (p : Polynomial)
    → ((i : ℕ) → i < suc (degree v p) → put_in (number_for v (pos i)) p ≡ Polynomials.𝟘) → p ≡ Polynomials.𝟘
zero_of_numbers v p h =
    same_coefficients monomial_cmp monomial_total monomial_same p Polynomials.𝟘
    (λ m. count_at-value monomial_cmp m p.terms ∙ value_alike Integers integer_ring _ _ (told v m) p.terms
    ∙ zero_powers (exp v) (λ k. indicator monomial_cmp (rest v m) (rest v k)) (suc (degree v p)) p.terms
    (each p.terms (exponents_under v p)) (at_number m) (exp v m))
  where
    each : (ts : Terms Monomial) → AllByRecursion (λ t. exponent v t.0 ≤ degree v p) ts
        → AllByRecursion (λ t. exp v t.0 < suc (degree v p)) ts
    each [] l = tt
    each (t ∷ ts) l = (omega (arith, l.0, count-many (is_variable v) t.0.letters), each ts l.1)

    one : (m : Monomial) (i : ℕ) (k : Monomial)
        → power (pos i) (exp v k) *ℤ indicator monomial_cmp (rest v m) (rest v k)
        ≡ numbered (number_for v (pos i)) k.letters *ℤ indicator monomial_cmp (rest v m)
        (left_of (number_for v (pos i)) k)
    one m i k =
        ap₂ (λ a vs. a *ℤ indicator monomial_cmp (rest v m) (monomial_of vs))
        (sym (numbered-power v (pos i) k.letters)) (sym (others-without v (pos i) k.letters))

    at_number : (m : Monomial) (i : ℕ) → i < suc (degree v p)
        → sum_value Integers (λ k. power (pos i) (exp v k) *ℤ indicator monomial_cmp (rest v m) (rest v k)) p.terms
        ≡ pos 0
    at_number m i l =
        value_alike Integers integer_ring _ _ (one m i) p.terms
        ∙ sym (total-put (indicator monomial_cmp (rest v m)) (number_for v (pos i)) p)
        ∙ ap (total (indicator monomial_cmp (rest v m))) (h i l)
