-- What brackets of values and the six-point polynomial come to, where no limit stops their making.
use Rattle.std.specs.Prelude.{◌≡◌, ℕ, List, [], ◌∷◌, ◌++◌, Ok}
use Rattle.std.specs.List.{AllByRecursion}
use Rattle.coordinate_model.specs.Brackets.{sum_over}
use Rattle.coordinate_model.specs.BracketPolynomial.{KeySums, BracketPolynomial, IsBracketPolynomial, mul}
use Rattle.coordinate_model.specs.Syzygy.{sorted_bracket}
use Rattle.coordinate_model.specs.Value.{Value}
use Rattle.coordinate_model.specs.Conics.{conic_value}
use Rattle.coordinate_model.proofs.StartSizes.{IsEntry}
use Rattle.bracket_poly.specs.Tracked.{Tracked}
use Rattle.conic_points.specs.Makings.{made_bracket, made_conic}

-- f times the bracket of the values, with points before and after them: the sum over an entry of each
abbrev pub times_bracket : List ℕ → List Value → BracketPolynomial → List ℕ → BracketPolynomial
times_bracket after [] f before = mul f (sorted_bracket (before ++ after))
times_bracket after (V ∷ others) f before =
    sum_over KeySums (λ e. times_bracket after others (mul f e.1) (before ++ e.0)) V

-- the bracket of values, with points before and after them
abbrev pub values_bracket : List ℕ → List Value → List ℕ → BracketPolynomial
values_bracket before [] after = sorted_bracket (before ++ after)
values_bracket before (V ∷ others) after =
    sum_over KeySums (λ e. times_bracket after others e.1 (before ++ e.0)) V

-- what is made as a bracket is the bracket of the values
abbrev pub MadeBracket : Type 0
MadeBracket =
    (before after : List ℕ) (V W : Value) (others : List Value) (q : Tracked)
    → made_bracket before (V ∷ W ∷ others) after ≡ Ok q → q.sum ≡ values_bracket before (V ∷ W ∷ others) after

-- what is made of six values is their six-point polynomial
abbrev pub MadeConic : Type 0
MadeConic =
    (p1 p2 p3 p4 p5 p6 : Value) (p : Tracked) → made_conic p1 p2 p3 p4 p5 p6 ≡ Ok p
    → p.sum ≡ conic_value p1 p2 p3 p4 p5 p6

-- the value is a point of rank 3, of which the polynomials are bracket polynomials in n parameters
abbrev pub IsPointIn : ℕ → Value → Type 0
IsPointIn n A = AllByRecursion (IsEntry 3 n 1) A

-- what is made of six such points is a bracket polynomial of rank 3 in as many parameters
abbrev pub MadeIsFormed : Type 0
MadeIsFormed =
    (n : ℕ) (p1 p2 p3 p4 p5 p6 : Value) (p : Tracked) → made_conic p1 p2 p3 p4 p5 p6 ≡ Ok p
    → AllByRecursion (IsPointIn n) (p1 ∷ p2 ∷ p3 ∷ p4 ∷ p5 ∷ p6 ∷ []) → IsBracketPolynomial 3 n p.sum
