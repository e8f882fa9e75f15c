-- What terms that are added one after another, and products, come to.
use Rattle.std.specs.Prelude.{◌≡◌, ℕ, ◌+◌, ℤ, List, [], ◌∷◌, Option, Ok}
use Rattle.coordinate_model.specs.Sums.{Terms, sum_of}
use Rattle.coordinate_model.specs.Key.{Key, key_cmp}
use Rattle.coordinate_model.specs.BracketPolynomial.{BracketPolynomial, add, mul}
use Rattle.coordinate_model.specs.Starts.{row_key, product_terms}
use Rattle.coordinate_model.specs.Syzygy.{Use, multiple, additions}
use Rattle.bracket_poly.specs.Tracked.{Tracked, plus_term, plus_terms}
use Rattle.bracket_poly.specs.Makings.{made_product}
use Rattle.bracket_poly.specs.Products.{HasDegree}

-- a term that is added makes the sum with it
abbrev pub TermAdds : Type 0
TermAdds = (p : Tracked) (t : Key × ℤ) → (plus_term p t).sum ≡ add p.sum (sum_of key_cmp (t ∷ []))

-- terms that are added one after another make the sum with theirs
abbrev pub TermsAdd : Type 0
TermsAdd = (p : Tracked) (ts : Terms Key) → (plus_terms p ts).sum ≡ add p.sum (sum_of key_cmp ts)

-- the terms of a product make the sum with the product of both, the row and the sign
abbrev pub ProductAdds : Type 0
ProductAdds =
    (p : Tracked) (f g : BracketPolynomial) (row : Option (List ℕ)) (sign : ℤ)
    → (plus_terms p (product_terms f g row sign)).sum
    ≡ add p.sum (mul (mul f g) (sum_of key_cmp ((row_key row, sign) ∷ [])))

-- the terms of a use make the sum with its multiple
abbrev pub UseAdds : Type 0
UseAdds = (p : Tracked) (u : Use) → (plus_terms p (additions u)).sum ≡ add p.sum (multiple u)

-- what is made as a product is the product
abbrev pub MakesProduct : Type 0
MakesProduct = (f g : BracketPolynomial) (q : Tracked) → made_product f g ≡ Ok q → q.sum ≡ mul f g

-- its exponents are at most the sums of those of both
abbrev pub ProductHasDegree : Type 0
ProductHasDegree =
    (m n : ℕ) (f g : BracketPolynomial) (q : Tracked) → made_product f g ≡ Ok q → HasDegree m f → HasDegree n g
    → HasDegree (m + n) q.sum
