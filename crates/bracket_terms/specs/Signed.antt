-- Brackets with a sign, and the bracket of a sequence of points.
use Rattle.std.specs.Prelude.{ℕ, ℤ, if◌then◌else◌, List, Option, Some, None}
use Rattle.coordinate_model.specs.Sequences.{is_odd, repeats, sign_of}
use Rattle.coordinate_model.specs.Syzygy.{sorted}
use Rattle.coordinate_model.specs.Polynomial.{Polynomial, Polynomials, br}
use Rattle.bracket_terms.specs.declared.signed.Signed.{Signed}
use Rattle.bracket_terms.specs.declared.signed.Signed.TheVariants.{Zero, Plus, Minus}

-- the points in ascending order with the sign of the sequence, or zero where a point comes twice
abbrev pub sorted_with_sign : {d : ℕ} → List ℕ → Signed d
sorted_with_sign points =
    if repeats points then Zero else if is_odd points then Minus (sorted points) else Plus (sorted points)

-- the same as a row and a sign, and nothing where a point comes twice
abbrev pub signed_row : List ℕ → Option (List ℕ × ℤ)
signed_row points = if repeats points then None else Some (sorted points, sign_of points)

-- the coordinate polynomial: zero, or the sign times the bracket
abbrev pub value_of : {d : ℕ} → Signed d → Polynomial
value_of Zero = Polynomials.𝟘
value_of (Plus bracket) = br bracket
value_of (Minus bracket) = Polynomials.neg (br bracket)
