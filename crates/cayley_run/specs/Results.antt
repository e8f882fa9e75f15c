-- Which answer goes with which run.
use Rattle.std.specs.Prelude.{◌≡◌, ⊤, ℕ, map, Some, None, Result, Ok, Err}
use Rattle.bracket_poly.specs.Tracked.{coefficient_limit, keys_limit}
use Rattle.bracket_poly.specs.Sections.{worked_of}
use Rattle.bracket_poly.specs.declared.error.PolyError.{PolyError}
use Rattle.bracket_poly.specs.declared.error.PolyError.TheVariants as poly_error
use Rattle.bracket_poly.specs.declared.section.ObjectLog.{ObjectLog}
use Rattle.straightening.specs.Runs.{Stop, turns_stop, limit_stop}
use Rattle.cayley_run.specs.declared.answer.StopKind.{StopKind}
use Rattle.cayley_run.specs.declared.answer.StopKind.TheVariants.{Turns, Coefficient, Keys}
use Rattle.cayley_run.specs.declared.answer.RunError.{RunError}
use Rattle.cayley_run.specs.declared.answer.RunError.TheVariants as error
use Rattle.cayley_run.specs.Runs.{Log}
use Rattle.std.specs.Global.{Vec}

-- the kind of a stop
abbrev pub stop_of : StopKind → Stop
stop_of Turns = turns_stop
stop_of Coefficient = limit_stop coefficient_limit
stop_of Keys = limit_stop keys_limit

-- the kind of a stop at the limit that the error tells
abbrev pub IsKindOf : PolyError → StopKind → Type 0
IsKindOf poly_error.Coefficient kind = kind ≡ Coefficient
IsKindOf poly_error.Keys kind = kind ≡ Keys
IsKindOf poly_error.Memory kind = ⊥

-- the error tells how the run stopped, behind these logs
abbrev pub IsStopOf : {d : ℕ} → RunError d → Log → Type 0
IsStopOf (error.Stop done kind) log = (map worked_of done ≡ log.objects) × (log.stop ≡ Some (stop_of kind))
IsStopOf error.Memory log = ⊤

-- the answer tells the run's logs or its stop; for want of memory it tells nothing
abbrev pub AnswersLog : {d : ℕ} → Result (Vec (ObjectLog d)) (RunError d) → Log → Type 0
AnswersLog (Ok logs) log = (map worked_of logs.items ≡ log.objects) × (log.stop ≡ None)
AnswersLog (Err e) log = IsStopOf e log
