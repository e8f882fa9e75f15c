-- Which answer goes with which run of passes.
use Rattle.std.specs.Prelude.{◌≡◌, ⊤, ℕ, [], map, Some, None, Result, Ok, Err}
use Rattle.coordinate_model.specs.Key.{points}
use Rattle.coordinate_model.specs.BracketPolynomial.{BracketPolynomial, AllKeys}
use Rattle.bracket_terms.specs.LogUses.{use_of}
use Rattle.bracket_poly.specs.Kept.{TrackedOf}
use Rattle.bracket_poly.specs.Tracked.{Limit, coefficient_limit, keys_limit}
use Rattle.bracket_poly.specs.declared.error.PolyError.{PolyError}
use Rattle.bracket_poly.specs.declared.error.PolyError.TheVariants as Refused
use Rattle.straightening.specs.declared.straight.Partial.{Partial}
use Rattle.straightening.specs.Results.{UsesKeepClasses}
use Rattle.straightening.specs.RunLaws.{HasLike}
use Rattle.straightening.specs.Runs.{Run, limit_stop}
use Rattle.contraction.specs.PassLaws.{EachLowers}
use Rattle.contraction.specs.declared.contracted.Contracted.{Contracted}
use Rattle.contraction.specs.declared.contracted.ContractError.{ContractError}
use Rattle.contraction.specs.declared.contracted.ContractError.TheVariants.{Coefficient, Keys, Memory}

-- the run ended without a stop, with these uses and this polynomial
pub record IsEnd {d : ℕ} (s : Contracted d) (r : Run) : Type 0 where
  pub no_stop : r.stop ≡ None
  pub uses : map use_of s.uses ≡ r.uses
  pub poly : s.poly.tracked ≡ r.last

-- the run stopped at this limit, behind these uses and no turn
pub record IsPart {d : ℕ} (p : Partial d) (r : Run) (limit : Limit) : Type 0 where
  pub stopped : r.stop ≡ Some (limit_stop limit)
  pub uses : map use_of p.uses ≡ r.uses
  pub turns : p.turns ≡ 0

-- the error tells how the run stopped
abbrev pub IsStopOf : {d : ℕ} → ContractError d → Run → Type 0
IsStopOf (Coefficient p) r = IsPart p r coefficient_limit
IsStopOf (Keys p) r = IsPart p r keys_limit
IsStopOf Memory r = ⊤

-- the answer tells the run's end or stop; for want of memory it tells nothing
abbrev pub AnswersPasses : {d : ℕ} → Result (Contracted d) (ContractError d) → Run → Type 0
AnswersPasses (Ok s) r = IsEnd s r
AnswersPasses (Err error) r = IsStopOf error r

-- how a refused addition stops a run
abbrev pub stop_by : {d : ℕ} → PolyError → Partial d → ContractError d
stop_by Refused.Coefficient p = Coefficient p
stop_by Refused.Keys p = Keys p
stop_by Refused.Memory p = Memory

-- each key and each use of an answer has the parameters and the points of a key of the polynomial
abbrev pub AnswersInClasses : {d : ℕ} → Result (Contracted d) (ContractError d) → BracketPolynomial → Type 0
AnswersInClasses (Ok s) f =
    AllKeys (λ k. HasLike f k.exponents (points k.rows)) s.poly.tracked.sum × UsesKeepClasses f s.uses
AnswersInClasses (Err (Coefficient p)) f = UsesKeepClasses f p.uses
AnswersInClasses (Err (Keys p)) f = UsesKeepClasses f p.uses
AnswersInClasses (Err Memory) f = ⊤

-- each use of an answer makes the terms fewer
abbrev pub AnswersLower : {d : ℕ} → Result (Contracted d) (ContractError d) → BracketPolynomial → Type 0
AnswersLower (Ok s) f = EachLowers f (map use_of s.uses)
AnswersLower (Err (Coefficient p)) f = EachLowers f (map use_of p.uses)
AnswersLower (Err (Keys p)) f = EachLowers f (map use_of p.uses)
AnswersLower (Err Memory) f = ⊤

-- nothing was done
pub record IsUnchanged {d : ℕ} (s : Contracted d) (p : TrackedOf d) : Type 0 where
  pub poly : s.poly ≡ p
  pub uses : s.uses ≡ []
