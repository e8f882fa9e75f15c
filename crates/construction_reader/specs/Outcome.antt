-- Steps that may find a fault, and what a function answered beside them.
use Rattle.std.specs.Prelude.{◌≡◌, Result, Ok, Err}
use Rattle.construction_reader.specs.declared.fault.Kind.{Kind}
use Rattle.construction_reader.specs.declared.fault.LineError.{LineError}
use Rattle.construction_reader.specs.declared.fault.LineError.TheVariants as errors

-- the next step, unless one failed before
infixl 10 ◌>>=◌
abbrev pub ◌>>=◌ : {A B E : Type 0} → Result A E → (A → Result B E) → Result B E
(Ok x) >>= f = f x
(Err e) >>= f = Err e

-- the error is the one that reading gives, or memory was wanting
abbrev pub Fails : {Y : Type 0} → LineError → Result Y Kind → Type 0
Fails errors.Memory read = Unit {0}
Fails (errors.Fault k) read = read ≡ Err k

-- what a function answered, seen by view, is what reading gives, unless memory was wanting
abbrev pub Gives : {X Y : Type 0} → (X → Y) → Result X LineError → Result Y Kind → Type 0
Gives view (Ok x) read = read ≡ Ok (view x)
Gives view (Err e) read = Fails e read
