-- Parts of the input that are construction texts.
use Rattle.std.specs.Prelude.{◌≡◌, ◌⊎◌, ℕ, List, ◌++◌, codes, decimal}
use Rattle.construction_reader.specs.Said.{Account}
use Rattle.construction_reader.specs.TextOf.{TextOf}
use Rattle.construction_reader.specs.Seen.{account}
use Rattle.construction_reader.specs.Faults as texts
use Rattle.construction_reader.specs.declared.fault.Kind.{Kind}
use Rattle.construction_reader.specs.declared.fault.Kind.TheVariants.{Byte, LongName, NoHeader, AfterConclusion}
use Rattle.construction_reader.specs.declared.fault.Kind.TheVariants.{Keyword, Deep, Shape, TooMany, NoConclusion}
use Rattle.step_types.specs.Checks as steps
use Rattle.step_types.specs.declared.fault.StepKind.{StepKind}
use Rattle.step_types.specs.declared.fault.StepKind.TheVariants.{Rank, Twice, Unknown, Step, Rows, Degree}
use Rattle.prover.specs.declared.parts.Fault.{Fault}
use Rattle.prover.specs.declared.parts.Fault.TheVariants as fault
use Rattle.prover.specs.declared.parts.Part.{Part}
use Rattle.prover.specs.declared.parts.Part.TheVariants as part
use Rattle.prover.specs.Answer.{Answer, refused}

-- ---- faults

-- the word of a kind of fault
abbrev pub kind_word : Kind → List ℕ
kind_word Byte = codes "byte"
kind_word LongName = codes "longname"
kind_word NoHeader = codes "noheader"
kind_word AfterConclusion = codes "afterconclusion"
kind_word Keyword = codes "keyword"
kind_word Deep = codes "deep"
kind_word Shape = codes "shape"
kind_word TooMany = codes "toomany"
kind_word NoConclusion = codes "noconclusion"

-- the word of a broken step rule
abbrev pub step_word : StepKind → List ℕ
step_word Rank = codes "rank"
step_word Twice = codes "twice"
step_word Unknown = codes "unknown"
step_word Step = codes "step"
step_word Rows = codes "rows"
step_word Degree = codes "degree"

-- the line of a fault, and its word
abbrev pub line_of : Fault → ℕ
line_of (fault.Text f) = f.line
line_of (fault.Step f) = f.line

abbrev pub word_of : Fault → List ℕ
word_of (fault.Text f) = kind_word f.kind
word_of (fault.Step f) = step_word f.kind

-- where a part under this prefix has a fault
abbrev pub refused_at : List ℕ → Fault → Answer
refused_at prefix f = refused (prefix ++ (codes "line " ++ (decimal (line_of f) ++ (codes " " ++ word_of f))))

-- ---- texts

-- the fault of a text: where it leaves the grammar, else the first step rule that its construction breaks
abbrev pub IsFault : List ℕ → Fault → Type 0
IsFault text (fault.Text f) = texts.IsFault text f
IsFault text (fault.Step f) = (c : Account) × TextOf text c × steps.IsFault c f

-- the text gives this construction, which keeps the step rules
pub record Gives (text : List ℕ) (c : Account) : Type 0 where
  pub gives : TextOf text c
  pub good : steps.IsGood c

-- the answer to a text: that it has a fault, told behind the prefix, or else the answer to its construction
abbrev pub IsPart : List ℕ → List ℕ → (Account → Answer → Type 0) → Answer → Type 0
IsPart prefix text Then answer =
    ((f : Fault) × IsFault text f × (answer ≡ refused_at prefix f)) ⊎ ((c : Account) × Gives text c × Then c answer)

-- what a text is read as
abbrev pub IsPartOf : List ℕ → Part → Type 0
IsPartOf text (part.Good checked) = Gives text (account checked)
IsPartOf text (part.Faulty f) = IsFault text f
