-- Bracket polynomials: the polynomials in brackets and parameters, as finite sums of integers times keys, and the
-- coordinate polynomials that they stand for (Sturmfels, Algorithms in Invariant Theory, section 3.1).
use Rattle.std.specs.Prelude.{ℕ, [], slice_set, replicate}
use Rattle.std.specs.List.{AllByRecursion}
use Rattle.coordinate_model.specs.Ring.{Ops}
use Rattle.coordinate_model.specs.Sums.{Sum, Sums, single, sum_value}
use Rattle.coordinate_model.specs.Polynomial.{Polynomial, Polynomials}
use Rattle.coordinate_model.specs.Key.{Key, key_cmp, key_times, rows_key, key_value, IsKey, IsStandardKey}

-- a bracket polynomial: a finite map from keys to nonzero integers
abbrev pub BracketPolynomial : Type 0
BracketPolynomial = Sum key_cmp

-- the bracket polynomials with the operations of a ring
abbrev pub KeySums : Ops
KeySums = Sums key_cmp key_times (rows_key [])

-- the sum of bracket polynomials
abbrev pub add : BracketPolynomial → BracketPolynomial → BracketPolynomial
add = KeySums.◌⊕◌

-- the product of bracket polynomials
abbrev pub mul : BracketPolynomial → BracketPolynomial → BracketPolynomial
mul = KeySums.◌⊗◌

-- the parameter i as a bracket polynomial of n parameters
abbrev pub parameter_of : ℕ → ℕ → BracketPolynomial
parameter_of n i = single key_cmp (record { exponents = slice_set (replicate n 0) i 1; rows = [] })

-- the value: the sum, over the keys, of the integer times the value of the key
unfoldable pub value : BracketPolynomial → Polynomial
value f = sum_value Polynomials key_value f.terms

-- every key with a term has P
abbrev pub AllKeys : (Key → Type 0) → BracketPolynomial → Type 0
AllKeys P f = AllByRecursion (λ t. P t.0) f.terms

-- a bracket polynomial of rank d and n parameters: every key is one
abbrev pub IsBracketPolynomial : ℕ → ℕ → BracketPolynomial → Type 0
IsBracketPolynomial d n f = AllKeys (IsKey d n) f

-- a normal bracket polynomial of rank d and n parameters: every key is standard
abbrev pub IsNormal : ℕ → ℕ → BracketPolynomial → Type 0
IsNormal d n f = AllKeys (IsStandardKey d n) f
