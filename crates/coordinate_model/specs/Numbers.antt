-- Numbers that are put in for variables of a coordinate polynomial, and its degree in a variable.
use Rattle.std.specs.Prelude.{◌≡◌, ℕ, ◌<◌, max, if◌then◌else◌, ℤ, pos, Option, None, Some, List, [], ◌∷◌, map}
use Rattle.std.specs.Prelude.{Contains}
use Rattle.std.specs.Ordering.{eq_by_cmp}
use Rattle.coordinate_model.specs.Ring.{of_int}
use Rattle.coordinate_model.specs.Polynomial.{Variable, variable_cmp, exponent, Polynomial, Polynomials, monomial}
use Rattle.coordinate_model.specs.Evaluation.{value_in}

-- ---- numbers put in

-- integers for some of the variables
abbrev pub Numbers : Type 0
Numbers = Variable → Option ℤ

-- the integer of the variable as a polynomial, or the variable itself
abbrev pub number_or_itself : Numbers → Variable → Polynomial
number_or_itself ns v = elim (ns v) [ None ↦ monomial (v ∷ []) | Some z ↦ of_int Polynomials z ]

-- the polynomial with the numbers put in
abbrev pub put_in : Numbers → Polynomial → Polynomial
put_in ns = value_in Polynomials (number_or_itself ns)

-- no number
abbrev pub no_numbers : Numbers
no_numbers v = None

-- a number for one variable
abbrev pub number_for : Variable → ℤ → Numbers
number_for v z w = if eq_by_cmp variable_cmp v w then Some z else None

-- the numbers of ns, and those of ms for further variables
abbrev pub and_then : Numbers → Numbers → Numbers
and_then ns ms v = elim (ns v) [ None ↦ ms v | Some z ↦ Some z ]

-- numbers for a list of variables; the first one counts where a variable comes twice
abbrev pub numbers_of : List (Variable × ℤ) → Numbers
numbers_of [] = no_numbers
numbers_of (n ∷ ns) = and_then (number_for n.0 n.1) (numbers_of ns)

-- the polynomial with the numbers of the list put in, one after the other
abbrev pub put_in_turn : List (Variable × ℤ) → Polynomial → Polynomial
put_in_turn [] p = p
put_in_turn (n ∷ ns) p = put_in_turn ns (put_in (number_for n.0 n.1) p)

-- the integer of the variable, or that of the placement
abbrev pub number_or : Numbers → (Variable → ℤ) → Variable → ℤ
number_or ns at v = elim (ns v) [ None ↦ at v | Some z ↦ z ]

-- ---- degrees

-- the greatest of the numbers; 0 where there is none
abbrev pub greatest : List ℕ → ℕ
greatest [] = 0
greatest (n ∷ ns) = max n (greatest ns)

-- the degree of the polynomial in the variable: the greatest exponent of the variable in its monomials; 0 where it has
-- none
unfoldable pub degree : Variable → Polynomial → ℕ
degree v p = greatest (map (λ t. exponent v t.0) p.terms)

-- ---- least numbers

-- n is the least whole number with which, put in for v, the polynomial is not zero
pub record IsLeastNumber (v : Variable) (p : Polynomial) (n : ℕ) : Type 0 where
  pub nonzero : put_in (number_for v (pos n)) p ≡ Polynomials.𝟘 → ⊥
  pub least : (m : ℕ) → m < n → put_in (number_for v (pos m)) p ≡ Polynomials.𝟘

-- each number of the list is least for its variable, with the earlier ones put in
abbrev pub AreLeastNumbers : List (Variable × ℕ) → Polynomial → Type 0
AreLeastNumbers [] p = Unit {0}
AreLeastNumbers (n ∷ ns) p =
    IsLeastNumber n.0 p n.1 × AreLeastNumbers ns (put_in (number_for n.0 (pos n.1)) p)

-- the number of the variable; 0 where the list has none
abbrev pub number_in : List (Variable × ℕ) → Variable → ℕ
number_in [] v = 0
number_in (n ∷ ns) v = if eq_by_cmp variable_cmp n.0 v then n.1 else number_in ns v

-- the polynomial has no variable but those of the list
abbrev pub HasVariables : List Variable → Polynomial → Type 0
HasVariables vs p = (v : Variable) → (Contains vs v → ⊥) → degree v p ≡ 0
