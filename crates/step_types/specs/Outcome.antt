-- Steps that may end early, and what a function answered beside them.
use Rattle.std.specs.Prelude.{◌≡◌, Option, Some, None, Result, Ok, Err}
use Rattle.step_types.specs.declared.fault.StepFault.{StepFault}
use Rattle.step_types.specs.declared.fault.CheckError.{CheckError}
use Rattle.step_types.specs.declared.fault.CheckError.TheVariants as errors

-- the next step, unless there was nothing before
infixl 10 ◌>>=◌
abbrev pub ◌>>=◌ : {A B : Type 0} → Option A → (A → Option B) → Option B
None >>= f = None
(Some x) >>= f = f x

-- the error is the fault that the rules give, or memory was wanting
abbrev pub Fails : {Y : Type 0} → CheckError → Result Y StepFault → Type 0
Fails errors.Memory given = Unit {0}
Fails (errors.Fault fault) given = given ≡ Err fault

-- what a function answered, seen by view, is what the rules give, unless memory was wanting
abbrev pub Gives : {X Y : Type 0} → (X → Y) → Result X CheckError → Result Y StepFault → Type 0
Gives view (Ok x) given = given ≡ Ok (view x)
Gives view (Err e) given = Fails e given
