-- How a text is read line by line, up to the first faulty line: what the reader's own functions answer.
use Rattle.std.specs.Prelude.{◌≡◌, ℕ, ◌+◌, Bool, false, ◌&&◌, nat_lt, List, [], ◌∷◌, ◌++◌, length, map, Result, Ok, Err, codes, if◌then◌else◌}
use Rattle.construction_reader.specs.declared.fault.Kind.{Kind}
use Rattle.construction_reader.specs.declared.fault.Kind.TheVariants.{NoHeader, AfterConclusion, NoConclusion, TooMany}
use Rattle.construction_reader.specs.declared.fault.TextFault.{TextFault}
use Rattle.construction_reader.specs.declared.fault.ReadTextError.{ReadTextError}
use Rattle.construction_reader.specs.declared.fault.ReadTextError.TheVariants as errors
use Rattle.construction_reader.specs.declared.fault.LineError.{LineError}
use Rattle.construction_reader.specs.declared.fault.LineError.TheVariants as line
use Rattle.construction_reader.specs.declared.state.Stage.{Stage}
use Rattle.construction_reader.specs.declared.state.Stage.TheVariants.{Empty, Named, Going, Concluded}
use Rattle.construction_reader.specs.declared.state.Progress as code
use Rattle.construction_reader.specs.Outcome.{◌>>=◌}
use Rattle.construction_reader.specs.Words.{◌is◌}
use Rattle.construction_reader.specs.Params.{with_params}
use Rattle.construction_reader.specs.Said.{Sentence, Row, Account, row}
use Rattle.construction_reader.specs.Sentences.{sentence_at}
use Rattle.construction_reader.specs.Lines.{lines_of, line_tokens}

-- what the lines so far say
pub record Progress : Type 0 where
  pub stage : Stage
  pub rank : ℕ
  pub rows : List Row
  pub free : ℕ
  pub definitions : ℕ
  pub params : List (List ℕ)

-- the same of the code's value
abbrev pub progress : code.Progress → Progress
progress p = record {
  stage = p.stage;
  rank = p.rank;
  rows = map row p.statements.items;
  free = p.free;
  definitions = p.definitions;
  params = p.params.items;
}

-- nothing is said yet
abbrev pub start : Progress
start = record { stage = Empty; rank = 0; rows = []; free = 0; definitions = 0; params = [] }

-- whether the tokens are these two
abbrev pub is_two : List ℕ → List ℕ → List (List ℕ) → Bool
is_two a b [] = false
is_two a b (x ∷ []) = false
is_two a b (x ∷ y ∷ []) = (x is a) && (y is b)
is_two a b (x ∷ y ∷ z ∷ rest) = false

-- the progress with the sentence counted, or the limit that it passes; a conclusion ends the text
unfoldable pub counts : Sentence → Progress → Result Progress Kind
counts (Sentence.Free names) p =
    if nat_lt 200 (p.free + length names) then Err TooMany else Ok (record p { free = p.free + length names })
counts (Sentence.Define kind name recipe) p =
    if nat_lt 2000 (p.definitions + 1) then Err TooMany
    else if nat_lt 64 (length (with_params p.params recipe)) then Err TooMany
    else Ok (record p { definitions = p.definitions + 1; params = with_params p.params recipe })
counts (Sentence.Conclude claim) p = Ok (record p { stage = Concluded })

-- the progress with the sentence of this line
unfoldable pub adds : ℕ → Sentence → Progress → Result Progress Kind
adds n sentence p = do
  q ← counts sentence p
  Ok (record q { rows = q.rows ++ record { line = n; sentence = sentence } ∷ [] })

-- the progress with a line that is not blank
unfoldable pub full_line : Stage → ℕ → List (List ℕ) → Progress → Result Progress Kind
full_line Empty n tokens p =
    if is_two (codes "construction") (codes "1") tokens then Ok (record p { stage = Named }) else Err NoHeader
full_line Named n tokens p =
    if is_two (codes "rank") (codes "3") tokens then Ok (record p { stage = Going; rank = 3 })
    else if is_two (codes "rank") (codes "4") tokens then Ok (record p { stage = Going; rank = 4 })
    else Err NoHeader
full_line Going n tokens p = sentence_at tokens >>= λ s. adds n s p
full_line Concluded n tokens p = Err AfterConclusion

-- the progress with a line of these tokens
unfoldable pub line_read : ℕ → List (List ℕ) → Progress → Result Progress Kind
line_read n [] p = Ok p
line_read n (token ∷ rest) p = full_line p.stage n (token ∷ rest) p

-- the progress with this line
unfoldable pub takes_line : ℕ → List ℕ → Progress → Result Progress Kind
takes_line n line p = line_tokens line >>= λ tokens. line_read n tokens p

-- a fault of the line of this number
abbrev pub at_line : {A : Type 0} → ℕ → Result A Kind → Result A TextFault
at_line n (Ok x) = Ok x
at_line n (Err kind) = Err (record { line = n; kind = kind })

-- what is said where no line is left
unfoldable pub ends : Progress → Stage → Result Account Kind
ends p Empty = Err NoHeader
ends p Named = Err NoHeader
ends p Going = Err NoConclusion
ends p Concluded = Ok (record { rank = p.rank; rows = p.rows })

-- what the lines from number n on say in the end
unfoldable pub reads : ℕ → List (List ℕ) → Progress → Result Account TextFault
reads n [] p = at_line n (ends p p.stage)
reads n (line ∷ lines) p = at_line n (takes_line n line p) >>= λ q. reads (n + 1) lines q

-- what the text says, or its first faulty line and what is wrong with it
unfoldable pub read_of : List ℕ → Result Account TextFault
read_of bytes = reads 1 (lines_of bytes) start

-- the error is the one that reading gives, or memory was wanting
abbrev pub TextFails : {Y : Type 0} → ReadTextError → Result Y TextFault → Type 0
TextFails errors.Memory read = Unit {0}
TextFails (errors.Fault f) read = read ≡ Err f

-- what a function answered, seen by view, is what reading gives, unless memory was wanting
abbrev pub GivesText : {X Y : Type 0} → (X → Y) → Result X ReadTextError → Result Y TextFault → Type 0
GivesText view (Ok x) read = read ≡ Ok (view x)
GivesText view (Err e) read = TextFails e read

-- a line's error as the text's
abbrev pub at_number : ℕ → LineError → ReadTextError
at_number n line.Memory = errors.Memory
at_number n (line.Fault kind) = errors.Fault (record { line = n; kind = kind })

-- what a function answered, seen by view
abbrev pub seen_by : {X Y E : Type 0} → (X → Y) → Result X E → Result Y E
seen_by view (Ok x) = Ok (view x)
seen_by view (Err e) = Err e
