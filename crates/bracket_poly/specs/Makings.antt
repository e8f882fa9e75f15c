-- Polynomials that are made step by step, up to the first limit that is passed.
use Rattle.std.specs.Prelude.{pos, List, [], ◌∷◌, None, Some, Result, Ok, Err}
use Rattle.coordinate_model.specs.Sums.{Terms}
use Rattle.coordinate_model.specs.Key.{Key}
use Rattle.coordinate_model.specs.BracketPolynomial.{BracketPolynomial}
use Rattle.coordinate_model.specs.Starts.{product_terms}
use Rattle.bracket_poly.specs.Tracked.{Tracked, Limit, nothing, plus_terms, first_limit}

-- the next step, unless a limit stopped the one before
infixl 10 ◌>>=◌
abbrev pub ◌>>=◌ : {A B : Type 0} → Result A Limit → (A → Result B Limit) → Result B Limit
(Ok x) >>= f = f x
(Err limit) >>= f = Err limit

-- the polynomial with the terms added one after another, or the first limit that is passed
abbrev pub adding : Tracked → Terms Key → Result Tracked Limit
adding p ts = elim (first_limit p ts) [ Some limit ↦ Err limit | None ↦ Ok (plus_terms p ts) ]

-- the product of two polynomials, in a new one
abbrev pub made_product : BracketPolynomial → BracketPolynomial → Result Tracked Limit
made_product f g = adding nothing (product_terms f g None (pos 1))

-- a step for each item, in order
abbrev pub each_item : {A : Type 0} → (Tracked → A → Result Tracked Limit) → Tracked → List A → Result Tracked Limit
each_item step p [] = Ok p
each_item step p (x ∷ xs) = do
  q ← step p x
  each_item step q xs
