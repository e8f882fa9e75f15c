-- A whole construction: its first fault, or what it makes.
use Rattle.std.specs.Prelude.{◌≡◌, ℕ, List, [], ◌∷◌, Option, Result, Ok, Err}
use Rattle.std.specs.List.{flat_map}
use Rattle.std.specs.Option.{option_map}
use Rattle.construction_reader.specs.Outcome.{◌>>=◌}
use Rattle.construction_reader.specs.Said.{Sentence, Row, Account, sentences_of}
use Rattle.construction_reader.specs.Grammar.{params_of}
use Rattle.step_types.specs.declared.measure.Measure.{Measure}
use Rattle.step_types.specs.declared.fault.StepKind.{StepKind}
use Rattle.step_types.specs.declared.fault.StepFault.{StepFault}
use Rattle.step_types.specs.declared.fault.CheckError.{CheckError}
use Rattle.step_types.specs.declared.fault.CheckError.TheVariants as errors
use Rattle.step_types.specs.declared.names.Names.{Names}
use Rattle.step_types.specs.Known.{Known, nothing, found, known_with}
use Rattle.step_types.specs.Rules.{measured}

-- what is known behind a row that has this measure, or its line with this fault
abbrev pub behind : Known → Row → Result Measure StepKind → Result Known StepFault
behind known row (Ok m) = Ok (known_with known row.sentence m)
behind known row (Err kind) = Err (record { line = row.line; kind = kind })

-- what is known behind a row, or its fault
abbrev pub taken : ℕ → Known → Row → Result Known StepFault
taken rank known row = behind known row (measured rank known row.sentence)

-- what is known behind the rows, or the line and the kind of the first faulty one
unfoldable pub outcome : ℕ → Known → List Row → Result Known StepFault
outcome rank known [] = Ok known
outcome rank known (row ∷ rows) = taken rank known row >>= λ next. outcome rank next rows

-- what a construction makes and uses, or its first fault
abbrev pub checked : Account → Result Known StepFault
checked c = outcome c.rank nothing c.rows

-- no statement has a fault
abbrev pub IsGood : Account → Type 0
IsGood c = (known : Known) × (checked c ≡ Ok known)

-- the first faulty statement has this line and this kind
abbrev pub IsFault : Account → StepFault → Type 0
IsFault c fault = checked c ≡ Err fault

-- the error is that fault, or for memory
abbrev pub IsCause : Account → CheckError → Type 0
IsCause c (errors.Fault fault) = IsFault c fault
IsCause c errors.Memory = Unit {0}

-- the objects of a good construction in the order in which they are made, each with its measure
abbrev pub objects_in : Result Known StepFault → List (List ℕ × Measure)
objects_in (Ok known) = known.made
objects_in (Err fault) = []

-- the objects of a construction, each with its measure; none where a statement has a fault
abbrev pub objects_of : Account → List (List ℕ × Measure)
objects_of c = objects_in (checked c)

-- the step of the object of this name
abbrev pub step_in : Account → List ℕ → Option ℕ
step_in c name = option_map (λ m. m.step) (found name (objects_of c))

-- the names of a `free` line
abbrev pub free_in : Sentence → List (List ℕ)
free_in (Sentence.Free names) = names
free_in (Sentence.Define kind name recipe) = []
free_in (Sentence.Conclude claim) = []

-- the rank, the free points as they are written, and the parameters in the order of their first uses
abbrev pub names_of : Account → Names
names_of c = record {
  rank = c.rank;
  free = flat_map free_in (sentences_of c.rows);
  params = params_of [] (sentences_of c.rows);
}

-- no statement has a fault, and these are the names and the objects
pub record Holds (c : Account) (names : Names) (made : List (List ℕ × Measure)) : Type 0 where
  pub good : IsGood c
  pub named : names ≡ names_of c
  pub objects : made ≡ objects_of c
