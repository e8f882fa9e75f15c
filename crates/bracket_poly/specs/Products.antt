-- Products of the terms of two polynomials.
use Rattle.std.specs.Prelude.{◌≡◌, ◌⊎◌, ℕ, ◌≤◌, ℤ, pos, negsuc, neg_ℤ, ◌*ℤ◌, List, map, Option, Bool, if◌then◌else◌}
use Rattle.std.specs.List.{AllByRecursion}
use Rattle.coordinate_model.specs.Sums.{Terms}
use Rattle.coordinate_model.specs.Key.{Key, key_times, add_exponents}
use Rattle.coordinate_model.specs.Starts.{row_key}
use Rattle.coordinate_model.specs.BracketPolynomial.{BracketPolynomial, AllKeys}

-- +1 or -1
abbrev pub IsSign : ℤ → Type 0
IsSign sign = (sign ≡ pos 1) ⊎ (sign ≡ negsuc 0)

-- no exponent passes n
abbrev pub HasDegree : ℕ → BracketPolynomial → Type 0
HasDegree n f = AllKeys (λ k. AllByRecursion (λ e. e ≤ n) k.exponents) f

-- in no product of a term of each does an exponent pass 65,535
abbrev pub ExponentsFit : BracketPolynomial → BracketPolynomial → Type 0
ExponentsFit f g =
    AllKeys (λ k. AllKeys (λ l. AllByRecursion (λ e. e ≤ 65535) (add_exponents k.exponents l.exponents)) g) f

-- a term times another, the sign and the row
abbrev pub product_term : Option (List ℕ) → ℤ → Key × ℤ → Key × ℤ → Key × ℤ
product_term row sign t u = (key_times (key_times t.0 u.0) (row_key row), sign *ℤ (t.1 *ℤ u.1))

-- a term times each of others, the sign and the row
abbrev pub multiple_terms : Option (List ℕ) → ℤ → Terms Key → Key × ℤ → Terms Key
multiple_terms row sign us t = map (product_term row sign t) us

-- the integer, negated or as it is
abbrev pub signed_by : Bool → ℤ → ℤ
signed_by negative c = if negative then neg_ℤ c else c

-- the terms, each negated or as it is
abbrev pub signed_terms : Bool → Terms Key → Terms Key
signed_terms negative ts = map (λ t. (t.0, signed_by negative t.1)) ts
