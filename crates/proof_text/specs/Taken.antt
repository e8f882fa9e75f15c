-- What a function answered that takes a line, a part of it or a text, beside what is read or the first fault.
use Rattle.std.specs.Prelude.{◌≡◌, ℕ, Result, Ok, Err}
use Rattle.proof_text.specs.declared.fault.ProofKind.{ProofKind}
use Rattle.proof_text.specs.declared.fault.ProofFault.{ProofFault}
use Rattle.proof_text.specs.declared.fault.ProofError.{ProofError}
use Rattle.proof_text.specs.declared.fault.ProofError.TheVariants as text
use Rattle.proof_text.specs.declared.fault.LineError.{LineError}
use Rattle.proof_text.specs.declared.fault.LineError.TheVariants as errors

-- the error tells the kind of fault, or memory was wanting
abbrev pub Refuses : {Y : Type 0} → LineError → Result Y ProofKind → Type 0
Refuses errors.Memory read = Unit {0}
Refuses (errors.Fault found) read = read ≡ Err found

-- what a function answered, seen by view, is what is read, and an error tells the kind of fault, unless memory was
-- wanting
abbrev pub Takes : {X Y : Type 0} → (X → Y) → Result X LineError → Result Y ProofKind → Type 0
Takes view (Ok x) read = read ≡ Ok (view x)
Takes view (Err e) read = Refuses e read

-- a line's error as that of a text
abbrev pub at_number : ℕ → LineError → ProofError
at_number n errors.Memory = text.Memory
at_number n (errors.Fault found) = text.Fault (record { line = n; kind = found })

-- the error tells the fault of a text, or memory was wanting
abbrev pub RefusesText : {Y : Type 0} → ProofError → Result Y ProofFault → Type 0
RefusesText text.Memory read = Unit {0}
RefusesText (text.Fault fault) read = read ≡ Err fault

-- what a function answered, seen by view, is what a text tells, and an error tells its fault, unless memory was wanting
abbrev pub Reads : {X Y : Type 0} → (X → Y) → Result X ProofError → Result Y ProofFault → Type 0
Reads view (Ok x) read = read ≡ Ok (view x)
Reads view (Err e) read = RefusesText e read
