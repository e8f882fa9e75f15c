-- Which answer goes with which run.
use Rattle.std.specs.Prelude.{◌≡◌, ⊤, ℕ, ◌<◌, ◌≤◌, List, [], map, length, Some, None, Result, Ok, Err}
use Rattle.std.specs.List.{AllByRecursion}
use Rattle.coordinate_model.specs.Key.{points}
use Rattle.coordinate_model.specs.BracketPolynomial.{BracketPolynomial, AllKeys, IsNormal, value}
use Rattle.bracket_terms.specs.LogUses.{use_of}
use Rattle.bracket_terms.specs.declared.log_use.LogUse.{LogUse}
use Rattle.bracket_poly.specs.Kept.{TrackedOf}
use Rattle.bracket_poly.specs.declared.error.PolyError.{PolyError}
use Rattle.bracket_poly.specs.declared.error.PolyError.TheVariants as Refused
use Rattle.bracket_poly.specs.Tracked.{coefficient_limit, keys_limit}
use Rattle.straightening.specs.declared.straight.Straight.{Straight}
use Rattle.straightening.specs.declared.straight.Partial.{Partial}
use Rattle.straightening.specs.declared.straight.StopError.{StopError}
use Rattle.straightening.specs.declared.straight.StopError.TheVariants.{Turns, Coefficient, Keys, Memory}
use Rattle.straightening.specs.RunLaws.{HasLike, use_points}
use Rattle.straightening.specs.Runs.{Run, Stop, turns_stop, limit_stop}

-- the run ended without a stop, with these uses and this polynomial
pub record IsEnd {d : ℕ} (s : Straight d) (r : Run) : Type 0 where
  pub no_stop : r.stop ≡ None
  pub uses : map use_of s.uses ≡ r.uses
  pub normal : s.normal.tracked ≡ r.last
  pub turns : s.turns ≡ length r.uses

-- the run stopped so, behind these uses
pub record IsPart {d : ℕ} (p : Partial d) (r : Run) (stop : Stop) : Type 0 where
  pub stopped : r.stop ≡ Some stop
  pub uses : map use_of p.uses ≡ r.uses
  pub turns : p.turns ≡ length r.uses

-- the error tells how the run stopped
abbrev pub IsStopOf : {d : ℕ} → StopError d → Run → Type 0
IsStopOf (Turns p) r = IsPart p r turns_stop
IsStopOf (Coefficient p) r = IsPart p r (limit_stop coefficient_limit)
IsStopOf (Keys p) r = IsPart p r (limit_stop keys_limit)
IsStopOf Memory r = ⊤

-- the answer tells the run's end or stop; for want of memory it tells nothing
abbrev pub AnswersRun : {d : ℕ} → Result (Straight d) (StopError d) → Run → Type 0
AnswersRun (Ok s) r = IsEnd s r
AnswersRun (Err error) r = IsStopOf error r

-- how a refused addition stops a run
abbrev pub stop_by : {d : ℕ} → PolyError → Partial d → StopError d
stop_by Refused.Coefficient p = Coefficient p
stop_by Refused.Keys p = Keys p
stop_by Refused.Memory p = Memory

-- each of the uses has the parameters and the points of a key of the polynomial
abbrev pub UsesKeepClasses : {d : ℕ} → BracketPolynomial → List (LogUse d) → Type 0
UsesKeepClasses f uses =
    AllByRecursion (λ u. HasLike f (use_of u).exponents (use_points (use_of u))) uses

-- each key and each use of an answer has the parameters and the points of a key of the polynomial
abbrev pub AnswersInClasses : {d : ℕ} → Result (Straight d) (StopError d) → BracketPolynomial → Type 0
AnswersInClasses (Ok s) f =
    AllKeys (λ k. HasLike f k.exponents (points k.rows)) s.normal.tracked.sum × UsesKeepClasses f s.uses
AnswersInClasses (Err (Turns p)) f = UsesKeepClasses f p.uses
AnswersInClasses (Err (Coefficient p)) f = UsesKeepClasses f p.uses
AnswersInClasses (Err (Keys p)) f = UsesKeepClasses f p.uses
AnswersInClasses (Err Memory) f = ⊤

-- at most so many turns were made, and the budget was spent only where it is less than that
abbrev pub IsWithin : {d : ℕ} → Result (Straight d) (StopError d) → ℕ → ℕ → Type 0
IsWithin (Ok s) budget most = s.turns ≤ most
IsWithin (Err (Turns p)) budget most = (p.turns ≤ most) × (budget < most)
IsWithin (Err (Coefficient p)) budget most = p.turns ≤ most
IsWithin (Err (Keys p)) budget most = p.turns ≤ most
IsWithin (Err Memory) budget most = ⊤

-- nothing was done
pub record IsUnchanged {d : ℕ} (s : Straight d) (p : TrackedOf d) : Type 0 where
  pub normal : s.normal ≡ p
  pub uses : s.uses ≡ []
  pub turns : s.turns ≡ 0

-- the only normal polynomial with the value of this one
abbrev pub IsOnlyNormal : ℕ → BracketPolynomial → BracketPolynomial → Type 0
IsOnlyNormal d f normal = (g : BracketPolynomial) → IsNormal d 64 g → value g ≡ value f → g ≡ normal

-- the answer without what comes with an end
abbrev pub straight_of : {A B C : Type 0} → Result (A × B) C → Result A C
straight_of (Ok end) = Ok end.0
straight_of (Err error) = Err error
