-- Bracket polynomials with numbers put in for some of their parameters. The parameters that are left keep their order,
-- and are counted from 0 again.
use Rattle.std.specs.Prelude.{◌≡◌, ℕ, zero, suc, ◌+◌, ℤ, pos, ◌*ℤ◌, Option, None, Some, List, [], ◌∷◌, map, length, count_by}
use Rattle.std.specs.Prelude.{is_none}
use Rattle.coordinate_model.specs.Ring.{of_int}
use Rattle.coordinate_model.specs.Sums.{sum_of}
use Rattle.coordinate_model.specs.Polynomial.{Variable, coordinate, parameter, Polynomial, Polynomials, monomial}
use Rattle.coordinate_model.specs.Key.{Key, key_cmp}
use Rattle.coordinate_model.specs.BracketPolynomial.{BracketPolynomial, value, IsNormal}
use Rattle.coordinate_model.specs.Evaluation.{value_in}

-- for each parameter its number, or none
abbrev pub Weights : Type 0
Weights = List (Option ℤ)

-- the number to the power n
abbrev pub power : ℤ → ℕ → ℤ
power z zero = pos 1
power z (suc n) = z *ℤ power z n

-- the exponents of the parameters that are left
abbrev pub left_exponents : Weights → List ℕ → List ℕ
left_exponents [] es = es
left_exponents (w ∷ ws) [] = []
left_exponents (None ∷ ws) (e ∷ es) = e ∷ left_exponents ws es
left_exponents (Some z ∷ ws) (e ∷ es) = left_exponents ws es

-- the product of the numbers, each to the power of its exponent
abbrev pub weights_product : Weights → List ℕ → ℤ
weights_product [] es = pos 1
weights_product (w ∷ ws) [] = pos 1
weights_product (None ∷ ws) (e ∷ es) = weights_product ws es
weights_product (Some z ∷ ws) (e ∷ es) = power z e *ℤ weights_product ws es

-- the key with the parameters that are left
abbrev pub left_key : Weights → Key → Key
left_key ws k = record { exponents = left_exponents ws k.exponents; rows = k.rows }

-- the bracket polynomial with the numbers put in
unfoldable pub special : Weights → BracketPolynomial → BracketPolynomial
special ws f =
    sum_of key_cmp (map (λ t. (left_key ws t.0, t.1 *ℤ weights_product ws t.0.exponents)) f.terms)

-- parameter k of ws, where i parameters that are left come before ws: its number, or itself as it is counted now
abbrev pub weight : ℕ → Weights → ℕ → Polynomial
weight i [] k = monomial (parameter (i + k) ∷ [])
weight i (None ∷ ws) zero = monomial (parameter i ∷ [])
weight i (Some z ∷ ws) zero = of_int Polynomials z
weight i (None ∷ ws) (suc k) = weight (suc i) ws k
weight i (Some z ∷ ws) (suc k) = weight i ws k

-- a variable with the numbers put in
abbrev pub weighted : Weights → Variable → Polynomial
weighted ws (coordinate i j) = monomial (coordinate i j ∷ [])
weighted ws (parameter k) = weight 0 ws k

-- the coordinate polynomial with the numbers put in
abbrev pub put_weights : Weights → Polynomial → Polynomial
put_weights ws = value_in Polynomials (weighted ws)

-- the value of a bracket polynomial with the numbers put in is its value with them put in
abbrev pub ValueOfSpecial : Type 0
ValueOfSpecial = (ws : Weights) (f : BracketPolynomial) → value (special ws f) ≡ put_weights ws (value f)

-- a normal bracket polynomial stays normal, with the parameters that are left
abbrev pub SpecialIsNormal : Type 0
SpecialIsNormal =
    (d : ℕ) (ws : Weights) (f : BracketPolynomial) → IsNormal d (length ws) f
    → IsNormal d (count_by is_none ws) (special ws f)
