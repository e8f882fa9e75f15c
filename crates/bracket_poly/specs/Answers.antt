-- Which answer goes with which limit. Want of memory is told by nothing.
use Rattle.std.specs.Prelude.{◌≡◌, ◌≢◌, ⊤, Option, Some, None, Result, Ok, Err, OnOk, IfErr}
use Rattle.coordinate_model.specs.Sums.{Terms}
use Rattle.coordinate_model.specs.Key.{Key}
use Rattle.bracket_poly.specs.declared.error.PolyError.{PolyError}
use Rattle.bracket_poly.specs.declared.error.PolyError.TheVariants.{Coefficient, Keys, Memory}
use Rattle.bracket_poly.specs.Tracked.{Tracked, Limit, coefficient_limit, keys_limit, plus_terms, first_limit, before_limit}
use Rattle.bracket_poly.specs.Tracked.{AddsFront}

-- the error tells this limit
abbrev pub IsErrorOf : PolyError → Option Limit → Type 0
IsErrorOf Coefficient limit = limit ≡ Some coefficient_limit
IsErrorOf Keys limit = limit ≡ Some keys_limit
IsErrorOf Memory limit = ⊤

-- a result says that no limit is passed, and an error tells the one that is
abbrev pub AnswersLimit : {X : Type 0} → Result X PolyError → Option Limit → Type 0
AnswersLimit (Ok x) limit = limit ≡ None
AnswersLimit (Err error) limit = IsErrorOf error limit

-- what a call answers and leaves that adds the terms one after another: all of them, or those before the one that passes a
-- limit; for want of memory some of the first ones
pub record AddsTerms {X : Type 0} (old : Tracked) (ts : Terms Key) (result : Result X PolyError) (new : Tracked) : Type 0 where
  pub answer : AnswersLimit result (first_limit old ts)
  pub all : OnOk result (new ≡ plus_terms old ts)
  pub refused : IfErr result (λ error. error ≢ Memory → new ≡ plus_terms old (before_limit old ts))
  pub front : AddsFront old ts new

-- the error tells the limit that stops the making
abbrev pub IsStop : PolyError → Result Tracked Limit → Type 0
IsStop Coefficient made = made ≡ Err coefficient_limit
IsStop Keys made = made ≡ Err keys_limit
IsStop Memory made = ⊤

-- a result, seen by view, is the polynomial that is made, and an error tells the limit
abbrev pub Answers : {X : Type 0} → (X → Tracked) → Result X PolyError → Result Tracked Limit → Type 0
Answers view (Ok x) made = made ≡ Ok (view x)
Answers view (Err error) made = IsStop error made
