-- The laws of coefficients, of bracket polynomials and their values, and of normal forms, as the contracts cite them:
-- standard tableaux are linearly independent (Sturmfels, Algorithms in Invariant Theory, section 3.1).
use Rattle.std.specs.Prelude.{◌≡◌, ℕ, ◌<◌, List, length, pos, ◌+ℤ◌, neg_ℤ}
use Rattle.std.specs.declared.cmp.Ordering.TheVariants.{Less}
use Rattle.std.specs.List.{AllByRecursion}
use Rattle.coordinate_model.specs.Sums.{Terms, coefficient, count_at, sum_of}
use Rattle.coordinate_model.specs.Polynomial.{Variable, variable_cmp, exponent, Monomial, monomial_cmp, Polynomial}
use Rattle.coordinate_model.specs.Polynomial.{Polynomials}
use Rattle.coordinate_model.specs.Key.{Key, key_cmp, key_value, key_lead, IsRow, IsStandardKey}
use Rattle.coordinate_model.specs.BracketPolynomial.{KeySums, BracketPolynomial, IsBracketPolynomial, IsNormal, value}
use Rattle.coordinate_model.specs.BracketPolynomial.{add, mul}
use Rattle.coordinate_model.specs.Syzygy.{sorted_bracket, syz, Use, IsUse, multiple, AreSizes}
use Rattle.coordinate_model.specs.Sequences.{IsRank}

-- coordinate polynomials are equal where each monomial has the same coefficient in both
abbrev pub SamePolynomials : Type 0
SamePolynomials = (f g : Polynomial) → ((m : Monomial) → coefficient f m ≡ coefficient g m) → f ≡ g

-- and bracket polynomials, where each key has
abbrev pub SameBracketPolynomials : Type 0
SameBracketPolynomials = (f g : BracketPolynomial) → ((k : Key) → coefficient f k ≡ coefficient g k) → f ≡ g

-- the coefficients of a list of terms, of a sum and of a negative
pub record HasCoefficients (k : Key) : Type 0 where
  pub of_terms : (ts : Terms Key) → coefficient (sum_of key_cmp ts) k ≡ count_at key_cmp k ts
  pub of_sum : (f g : BracketPolynomial) → coefficient (add f g) k ≡ coefficient f k +ℤ coefficient g k
  pub of_negative : (f : BracketPolynomial) → coefficient (KeySums.neg f) k ≡ neg_ℤ (coefficient f k)

-- bracket polynomials obey the laws of a commutative ring, that of one where the rows of each key ascend
pub record KeySumLaws : Type 0 where
  pub add_assoc : (f g h : BracketPolynomial) → add (add f g) h ≡ add f (add g h)
  pub add_comm : (f g : BracketPolynomial) → add f g ≡ add g f
  pub add_zero : (f : BracketPolynomial) → add f KeySums.𝟘 ≡ f
  pub add_neg : (f : BracketPolynomial) → add f (KeySums.neg f) ≡ KeySums.𝟘
  pub mul_assoc : (f g h : BracketPolynomial) → mul (mul f g) h ≡ mul f (mul g h)
  pub mul_comm : (f g : BracketPolynomial) → mul f g ≡ mul g f
  pub mul_one : (d n : ℕ) (f : BracketPolynomial) → IsBracketPolynomial d n f → mul f KeySums.𝟙 ≡ f
  pub mul_add : (f g h : BracketPolynomial) → mul f (add g h) ≡ add (mul f g) (mul f h)

-- the value of a sum is the sum of the values
abbrev pub ValueOfSum : Type 0
ValueOfSum = (f g : BracketPolynomial) → value (add f g) ≡ Polynomials.◌⊕◌ (value f) (value g)

-- and the value of a product is the product of the values
abbrev pub ValueOfProduct : Type 0
ValueOfProduct = (f g : BracketPolynomial) → value (mul f g) ≡ Polynomials.◌⊗◌ (value f) (value g)

-- sums, products, sorted brackets, syzygies and multiples are bracket polynomials
pub record MakesBracketPolynomials (d n : ℕ) : Type 0 where
  pub sum : (f g : BracketPolynomial) → IsBracketPolynomial d n f → IsBracketPolynomial d n g
      → IsBracketPolynomial d n (add f g)
  pub product : (f g : BracketPolynomial) → IsBracketPolynomial d n f → IsBracketPolynomial d n g
      → IsBracketPolynomial d n (mul f g)
  pub bracket : (ps : List ℕ) → length ps ≡ d → IsBracketPolynomial d 0 (sorted_bracket ps)
  pub syzygy : (α β γ : List ℕ) → AreSizes d α β γ → IsBracketPolynomial d 0 (syz α β γ)
  pub multiple : (u : Use) → IsRank d → IsUse d u → length u.exponents ≡ n → AllByRecursion (IsRow d) u.rest
      → IsBracketPolynomial d n (multiple u)

-- monomials are ordered lexicographically: the first variable with another exponent decides
abbrev pub LexicographicOrder : Type 0
LexicographicOrder =
    (v : Variable) (m n : Monomial) → ((u : Variable) → variable_cmp u v ≡ Less → exponent u m ≡ exponent u n)
    → exponent v m < exponent v n → monomial_cmp m n ≡ Less

-- m is the greatest monomial of p, with coefficient 1
pub record IsGreatest (p : Polynomial) (m : Monomial) : Type 0 where
  pub once : coefficient p m ≡ pos 1
  pub above : (n : Monomial) → monomial_cmp m n ≡ Less → coefficient p n ≡ pos 0

-- the greatest monomial of a standard key's value is its parameters times its diagonal product, with coefficient 1
abbrev pub GreatestOfKey : Type 0
GreatestOfKey = (d n : ℕ) (k : Key) → IsRank d → IsStandardKey d n k → IsGreatest (key_value k) (key_lead k)

-- and different standard keys have different ones
abbrev pub OneKey : Type 0
OneKey = (d n : ℕ) (k l : Key) → IsRank d → IsStandardKey d n k → IsStandardKey d n l → key_lead k ≡ key_lead l → k ≡ l

-- two normal bracket polynomials with equal values are equal
abbrev pub Independent : Type 0
Independent =
    (d n : ℕ) (f g : BracketPolynomial) → IsRank d → IsNormal d n f → IsNormal d n g → value f ≡ value g → f ≡ g
