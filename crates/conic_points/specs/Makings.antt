-- How brackets of points that are values are made, and the six-point polynomial of six of them, up to the first limit that
-- is passed. The limits are those of additions to one polynomial; the order in which terms are added is this library's own.
use Rattle.std.specs.Prelude.{ℕ, if◌then◌else◌, List, [], ◌∷◌, ◌++◌, Some, Result, Ok}
use Rattle.coordinate_model.specs.Sequences.{repeats, sign_of}
use Rattle.coordinate_model.specs.Sums.{negated}
use Rattle.coordinate_model.specs.BracketPolynomial.{BracketPolynomial}
use Rattle.coordinate_model.specs.Syzygy.{sorted}
use Rattle.coordinate_model.specs.Value.{Value}
use Rattle.coordinate_model.specs.Starts.{Entry, product_terms}
use Rattle.bracket_poly.specs.Tracked.{Tracked, Limit, nothing}
use Rattle.bracket_poly.specs.Makings.{◌>>=◌, adding, each_item, made_product}

-- f times g times the bracket of the points, sorted with its sign: nothing where a point comes twice
abbrev pub adding_bracket : BracketPolynomial → BracketPolynomial → List ℕ → Tracked → Result Tracked Limit
adding_bracket f g points p =
    if repeats points then Ok p
    else adding p (product_terms f g (Some (sorted points)) (sign_of points))

-- f times the entry's polynomial, and for it those of an entry of each of the others, times the bracket of the points before,
-- of theirs and of those after: a product that is no last one is made in a new polynomial
abbrev pub adding_entry : List ℕ → List Value → BracketPolynomial → List ℕ → Tracked → Entry → Result Tracked Limit
adding_entry after [] f before p e = adding_bracket f e.1 (before ++ e.0 ++ after) p
adding_entry after (V ∷ others) f before p e = do
  both ← made_product f e.1
  each_item (adding_entry after others both.sum (before ++ e.0)) p V

-- the bracket of two values or more, with points before and after them, in a new polynomial
unfoldable pub made_bracket : List ℕ → List Value → List ℕ → Result Tracked Limit
made_bracket before (V ∷ W ∷ others) after =
    each_item (λ p e. each_item (adding_entry after others e.1 (before ++ e.0)) p W) nothing V
made_bracket before others after = Ok nothing

-- the product of four polynomials, from left to right
abbrev pub made_products : (f g h k : BracketPolynomial) → Result Tracked Limit
made_products f g h k = do
  two ← made_product f g
  three ← made_product two.sum h
  made_product three.sum k

-- the product f g [246][356], of which the brackets are made first
abbrev pub made_behind : BracketPolynomial → BracketPolynomial → (p2 p3 p4 p5 p6 : Value) → Result Tracked Limit
made_behind f g p2 p3 p4 p5 p6 = do
  third ← made_bracket [] (p2 ∷ p4 ∷ p6 ∷ []) []
  fourth ← made_bracket [] (p3 ∷ p5 ∷ p6 ∷ []) []
  made_products f g third.sum fourth.sum

-- the product [123][145][246][356]: the four brackets are made in this order, and then multiplied
unfoldable pub made_four : (p1 p2 p3 p4 p5 p6 : Value) → Result Tracked Limit
made_four p1 p2 p3 p4 p5 p6 = do
  first ← made_bracket [] (p1 ∷ p2 ∷ p3 ∷ []) []
  second ← made_bracket [] (p1 ∷ p4 ∷ p5 ∷ []) []
  made_behind first.sum second.sum p2 p3 p4 p5 p6

-- the terms of the one in a new polynomial, and then the negated terms of the other
abbrev pub made_difference : BracketPolynomial → BracketPolynomial → Result Tracked Limit
made_difference f g = do
  start ← adding nothing f.terms
  adding start (negated g.terms)

-- that product less [124][135][236][456], which is the same with the points 3 and 4 exchanged
unfoldable pub made_conic : (p1 p2 p3 p4 p5 p6 : Value) → Result Tracked Limit
made_conic p1 p2 p3 p4 p5 p6 = do
  first ← made_four p1 p2 p3 p4 p5 p6
  second ← made_four p1 p2 p4 p3 p5 p6
  made_difference first.sum second.sum

-- so it is for the list of the six
abbrev pub made_of : List Value → Result Tracked Limit
made_of (p1 ∷ p2 ∷ p3 ∷ p4 ∷ p5 ∷ p6 ∷ []) = made_conic p1 p2 p3 p4 p5 p6
made_of others = Ok nothing
