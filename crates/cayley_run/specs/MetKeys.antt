-- The keys that the sections of a run have met: a start has met those that making it met, and an end those of its start
-- and then those of the terms that the uses added.
use Rattle.std.specs.Prelude.{◌≡◌, ⊤, ℕ, List, [], ◌∷◌, ◌++◌, map, zip, flat_map, Some, None, Result, Ok, Err}
use Rattle.std.specs.Global.{Vec}
use Rattle.std.specs.List.{AllByRecursion}
use Rattle.coordinate_model.specs.Starts.{Product}
use Rattle.coordinate_model.specs.Syzygy.{additions}
use Rattle.coordinate_model.specs.Value.{Value}
use Rattle.bracket_terms.specs.Joins.{points_of}
use Rattle.bracket_terms.specs.LogUses.{use_of}
use Rattle.bracket_poly.specs.Tracked.{Tracked, Limit, plus_terms}
use Rattle.bracket_poly.specs.declared.section.Section.{Section}
use Rattle.bracket_poly.specs.declared.section.ObjectLog.{ObjectLog}
use Rattle.cayley_terms.specs.declared.instr.Instr.{Instr}
use Rattle.cayley_terms.specs.declared.instr.Instr.TheVariants.{Free, Join, Meet, On, Conic}
use Rattle.cayley_terms.specs.declared.program.Program.{Program}
use Rattle.cayley_terms.specs.Starts.{products_of, value_at}
use Rattle.cayley_terms.specs.Starts as operation
use Rattle.conic_points.specs.Makings.{made_of}
use Rattle.shuffle_meet.specs.SectionStarts.{section_starts}
use Rattle.shuffle_meet.specs.Stops.{first_stop, Start}
use Rattle.cayley_run.specs.Runs.{Log, at_start, with_instr}
use Rattle.cayley_run.specs.declared.answer.Options.{Options}
use Rattle.cayley_run.specs.declared.answer.RunError.{RunError}
use Rattle.cayley_run.specs.declared.answer.RunError.TheVariants as error

-- ---- the starts of a run

-- the starts of an object of this step in rank d that adds these products, unless one of them passes a limit
abbrev pub object_starts : ℕ → ℕ → List Product → List Start
object_starts d step ps = elim (first_stop [] ps) [ Some limit ↦ [] | None ↦ section_starts d step ps ]

-- the start of a conclusion that is made so, unless that passes a limit
abbrev pub claim_starts : Result Tracked Limit → List Start
claim_starts (Err limit) = []
claim_starts (Ok start) = ([], start) ∷ []

-- the starts of the object of an instruction of this step behind these values; a free point is no object
abbrev pub instr_starts : ℕ → List Value → Instr × ℕ → List (List Start)
instr_starts d values (Free i, step) = []
instr_starts d values (Join a b, step) = object_starts d step (products_of operation.Join d values a b) ∷ []
instr_starts d values (Meet a b, step) = object_starts d step (products_of operation.Meet d values a b) ∷ []
instr_starts d values (On a b s t, step) = object_starts d step (products_of (operation.On s t) d values a b) ∷ []
instr_starts d values (Conic p1 p2 p3 p4 p5 p6, step) =
    claim_starts (made_of (map (value_at values) (p1 ∷ p2 ∷ p3 ∷ p4 ∷ p5 ∷ p6 ∷ []))) ∷ []

-- the starts of the objects of a run that goes on with these instructions, each with its step, unless it has stopped
abbrev pub starts_on : ℕ → Log → List (Instr × ℕ) → List (List Start)
starts_on d log [] = []
starts_on d log (instr ∷ instrs) = elim log.stop [
  | Some stop ↦ []
  | None ↦ instr_starts d log.values instr ++ starts_on d (with_instr d log instr) instrs
]

-- the starts of the objects of the run of a program
unfoldable pub starts_of_run : Options → Program → List (List Start)
starts_of_run options p = starts_on p.rank (at_start options) (zip p.instrs p.steps)

-- ---- what sections have met

-- the start of a section, with the keys that it has met
abbrev pub section_start : {d : ℕ} → Section d → Start
section_start s = (points_of s.scalar, s.start.tracked)

-- a section that has an end: it is the start with the terms of the uses added one after another, with the keys that so
-- are met
abbrev pub EndsSo : {d : ℕ} → Section d → Type 0
EndsSo s = elim s.end [
  | None ↦ Unit {0}
  | Some end ↦ end.tracked ≡ plus_terms s.start.tracked (flat_map additions (map use_of s.uses))
]

-- sections of these starts, or of the first of them where the run stopped
pub record HaveMet {d : ℕ} (sections : List (Section d)) (starts : List Start) : Type 0 where
  pub others : List Start
  pub begin : starts ≡ map section_start sections ++ others
  pub end : AllByRecursion EndsSo sections

-- objects of these starts
abbrev pub AllHaveMet : {d : ℕ} → List (ObjectLog d) → List (List Start) → Type 0
AllHaveMet [] [] = ⊤
AllHaveMet [] (starts ∷ others) = ⊥
AllHaveMet (object ∷ objects) [] = ⊥
AllHaveMet (object ∷ objects) (starts ∷ others) = HaveMet object.sections starts × AllHaveMet objects others

-- the logs are those of objects of these starts; for want of memory there is none
abbrev pub AnswersMet : {d : ℕ} → Result (Vec (ObjectLog d)) (RunError d) → List (List Start) → Type 0
AnswersMet (Ok logs) starts = AllHaveMet logs.items starts
AnswersMet (Err (error.Stop done kind)) starts = AllHaveMet done starts
AnswersMet (Err error.Memory) starts = ⊤
