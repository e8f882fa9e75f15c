-- What the rules give of the statements and the objects of a whole construction.
use Rattle.std.specs.Prelude.{◌≡◌, ℕ, ◌≤◌, ◌<◌, List, [], ◌∷◌, ◌++◌, map, Ok, Err, Contains}
use Rattle.std.specs.List.{flat_map, AllByRecursion}
use Rattle.construction_reader.specs.Said.{Object, Sentence, Row, Account, sentences_of}
use Rattle.step_types.specs.declared.measure.Measure.{Measure}
use Rattle.step_types.specs.declared.fault.StepFault.{StepFault}
use Rattle.step_types.specs.Known.{Known, nothing, names_made}
use Rattle.step_types.specs.Rules.{sentence_args, measured}
use Rattle.step_types.specs.Checks.{outcome}

-- the row stands behind these rows, which have no fault, and this is known there
pub record Reaches (c : Account) (front : List Row) (row : Row) (known : Known) : Type 0 where
  pub back : List Row
  pub split : c.rows ≡ front ++ row ∷ back
  pub faultless : outcome c.rank nothing front ≡ Ok known

-- the row has this fault, and no row before it has one
pub record IsFirstFault (c : Account) (fault : StepFault) : Type 0 where
  pub front : List Row
  pub row : Row
  pub known : Known
  pub reached : Reaches c front row known
  pub line : row.line ≡ fault.line
  pub kind : measured c.rank known row.sentence ≡ Err fault.kind

-- a step below the rank, at most 64 rows, and a degree of at most 1000
pub record IsSized (rank : ℕ) (m : Measure) : Type 0 where
  pub least : 0 < m.step
  pub below : m.step < rank
  pub rows : m.rows ≤ 64
  pub degree : m.degree ≤ 1000

-- the names of the objects
abbrev pub names_of : List (List ℕ × Measure) → List (List ℕ)
names_of made = map (λ entry. entry.0) made

-- the names of the objects that the rows make, in order
abbrev pub all_made : List Row → List (List ℕ)
all_made rows = flat_map names_made (sentences_of rows)

-- the names in an object
abbrev pub names_in : Object → List (List ℕ)
names_in (Object.Named name) = name ∷ []
names_in (Object.Join a b) = names_in a ++ names_in b
names_in (Object.Meet a b) = names_in a ++ names_in b

-- each name in an object that the sentence speaks of was made by one of the rows
abbrev pub AreMadeBy : List Row → Sentence → Type 0
AreMadeBy front sentence =
    AllByRecursion (λ object. AllByRecursion (λ name. Contains (all_made front) name) (names_in object))
    (sentence_args sentence)

-- the row has no fault, is within the limits, and speaks of objects that the rows before it made
pub record IsFaultless (c : Account) (front : List Row) (row : Row) : Type 0 where
  pub known : Known
  pub measure : Measure
  pub reached : outcome c.rank nothing front ≡ Ok known
  pub measured_so : measured c.rank known row.sentence ≡ Ok measure
  pub rows : measure.rows ≤ 64
  pub degree : measure.degree ≤ 1000
  pub before : AreMadeBy front row.sentence
