-- The laws of numbers that are put in for variables, of degrees and of least numbers, as the contracts cite them.
use Rattle.std.specs.Prelude.{◌≡◌, ◌≢◌, ℕ, ◌<◌, ◌≤◌, ℤ, pos, List, [], map}
use Rattle.coordinate_model.specs.Words.{no_letters}
use Rattle.coordinate_model.specs.Sums.{coefficient}
use Rattle.coordinate_model.specs.Polynomial.{Variable, variable_cmp, Monomial, exponent, Polynomial, Polynomials}
use Rattle.coordinate_model.specs.Placement.{Placement, value_at}
use Rattle.coordinate_model.specs.Numbers.{Numbers, put_in, no_numbers, number_for, and_then, numbers_of, put_in_turn, number_or}
use Rattle.coordinate_model.specs.Numbers.{degree, IsLeastNumber, AreLeastNumbers, number_in, HasVariables}

-- ---- numbers put in

-- without a number nothing changes
abbrev pub PutInNone : Type 0
PutInNone = (p : Polynomial) → put_in no_numbers p ≡ p

-- numbers that are put in after others are put in at once with them
abbrev pub PutInBoth : Type 0
PutInBoth = (ns ms : Numbers) (p : Polynomial) → put_in ms (put_in ns p) ≡ put_in (and_then ns ms) p

-- numbers that are put in one after the other are put in at once
abbrev pub PutInTurn : Type 0
PutInTurn = (ns : List (Variable × ℤ)) (p : Polynomial) → put_in_turn ns p ≡ put_in (numbers_of ns) p

-- the value at a placement of a polynomial with numbers put in
abbrev pub ValueOfPutIn : Type 0
ValueOfPutIn = (at : Placement) (ns : Numbers) (p : Polynomial) → value_at at (put_in ns p) ≡ value_at (number_or ns at) p

-- ---- degrees

-- the degree in a variable is the least number such that no monomial with a greater exponent has a coefficient; no
-- degree grows where numbers are put in, and a variable that has a number is gone
pub record IsDegree (v : Variable) (p : Polynomial) : Type 0 where
  pub above : (m : Monomial) → degree v p < exponent v m → coefficient p m ≡ pos 0
  pub least : (n : ℕ) → ((m : Monomial) → n < exponent v m → coefficient p m ≡ pos 0) → degree v p ≤ n
  pub kept : (ns : Numbers) → degree v (put_in ns p) ≤ degree v p
  pub gone : (z : ℤ) → degree v (put_in (number_for v z) p) ≡ 0

-- a polynomial without variables has as its value, at every placement, the coefficient of the monomial without
-- letters, and no other coefficient
abbrev pub ValueWithoutVariables : Type 0
ValueWithoutVariables =
    (p : Polynomial) → HasVariables [] p
    → ((at : Placement) → value_at at p ≡ coefficient p (no_letters variable_cmp))
    × ((m : Monomial) → m ≢ no_letters variable_cmp → coefficient p m ≡ pos 0)

-- a product of polynomials that are not zero is not zero
abbrev pub NonzeroProduct : Type 0
NonzeroProduct =
    (p q : Polynomial) → p ≢ Polynomials.𝟘 → q ≢ Polynomials.𝟘 → Polynomials.◌⊗◌ p q ≢ Polynomials.𝟘

-- ---- least numbers

-- a polynomial that is not zero has a least whole number for each variable
abbrev pub HasLeastNumber : Type 0
HasLeastNumber = (v : Variable) (p : Polynomial) → p ≢ Polynomials.𝟘 → (n : ℕ) × IsLeastNumber v p n

-- which is at most the degree
abbrev pub LeastNumberBound : Type 0
LeastNumberBound = (v : Variable) (p : Polynomial) (n : ℕ) → IsLeastNumber v p n → n ≤ degree v p

-- it has least numbers for the variables of any list, one after the other
abbrev pub HasLeastNumbers : Type 0
HasLeastNumbers =
    (vs : List Variable) (p : Polynomial) → p ≢ Polynomials.𝟘
    → (ns : List (Variable × ℕ)) × ((map (λ n. n.0) ns ≡ vs) × AreLeastNumbers ns p)

-- each at most the degree of its variable
abbrev pub LeastNumbersBound : Type 0
LeastNumbersBound =
    (ns : List (Variable × ℕ)) (p : Polynomial) → AreLeastNumbers ns p → (v : Variable) → number_in ns v ≤ degree v p

-- and where they are numbers for all variables that it has, its value there is not 0
abbrev pub LeastNumbersValue : Type 0
LeastNumbersValue =
    (ns : List (Variable × ℕ)) (p : Polynomial) → p ≢ Polynomials.𝟘 → AreLeastNumbers ns p
    → HasVariables (map (λ n. n.0) ns) p → value_at (λ v. pos (number_in ns v)) p ≢ pos 0

-- a polynomial that is not zero has a placement at which its value is not 0, where each variable has a whole number
-- from 0 to its degree in the polynomial
abbrev pub HasNonzeroPlacement : Type 0
HasNonzeroPlacement =
    (p : Polynomial) → p ≢ Polynomials.𝟘
    → (at : Variable → ℕ) × (((v : Variable) → at v ≤ degree v p) × (value_at (λ v. pos (at v)) p ≢ pos 0))

-- so a polynomial whose value is 0 at every placement is zero
abbrev pub ZeroEverywhere : Type 0
ZeroEverywhere = (p : Polynomial) → ((at : Placement) → value_at at p ≡ pos 0) → p ≡ Polynomials.𝟘
