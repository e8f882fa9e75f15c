-- The run of a program: each object from the values of earlier ones, until all are worked out or a limit is passed.
use Rattle.std.specs.Prelude.{ℕ, ◌+◌, ◌-◌, List, [], ◌∷◌, ◌++◌, map, zip, length}
use Rattle.std.specs.Prelude.{Option, Some, None, Result, Ok, Err}
use Rattle.coordinate_model.specs.Value.{Value}
use Rattle.coordinate_model.specs.Starts.{Product}
use Rattle.bracket_poly.specs.Sections.{Worked, value_from}
use Rattle.bracket_poly.specs.Tracked.{Tracked, Limit}
use Rattle.conic_points.specs.Makings.{made_of}
use Rattle.cayley_terms.specs.declared.instr.Instr.{Instr}
use Rattle.cayley_terms.specs.declared.instr.Instr.TheVariants.{Free, Join, Meet, On, Conic}
use Rattle.cayley_terms.specs.declared.program.Program.{Program}
use Rattle.cayley_terms.specs.Starts.{products_of, free_value, value_at}
use Rattle.cayley_terms.specs.Starts as operation
use Rattle.shuffle_meet.specs.Stops.{first_stop, Start}
use Rattle.straightening.specs.Runs.{Stop, limit_stop}
use Rattle.cayley_run.specs.Sections.{Sections, run_starts}
use Rattle.cayley_run.specs.declared.answer.Options.{Options}
use Rattle.shuffle_meet.specs.SectionStarts.{section_starts}

-- what a run has done: how it is run, the value of each instruction, the objects that were worked out, the turns that
-- are left, and what stopped it, if anything did
pub record Log : Type 0 where
  pub options : Options
  pub values : List Value
  pub objects : List Worked
  pub left : ℕ
  pub stop : Option Stop

-- before the first instruction
abbrev pub at_start : Options → Log
at_start options = record { options = options; values = []; objects = []; left = options.budget; stop = None }

-- how many turns it has made
abbrev pub turns_of : Log → ℕ
turns_of log = log.options.budget - log.left

-- with the value of a free point more
abbrev pub with_free : ℕ → Log → Log
with_free i log = record log { values = log.values ++ free_value 64 i ∷ [] }

-- with an object more of this step and these sections
abbrev pub with_sections : ℕ → Log → Sections → Log
with_sections step log s = record {
  options = log.options;
  values = log.values ++ value_from s.sections ∷ [];
  objects = log.objects ++ record { number = length log.objects + 1; step = step; sections = s.sections } ∷ [];
  left = s.left;
  stop = s.stop;
}

-- with an object of this step more, before whose sections the run stopped so
abbrev pub with_stop : ℕ → Stop → Log → Log
with_stop step stop log = with_sections step log (record { sections = []; left = log.left; stop = Some stop })

-- with an object of this step more, and the sections of these starts
abbrev pub with_starts : ℕ → List Start → Log → Log
with_starts step starts log = with_sections step log (run_starts log.options.contract log.left starts)

-- with an object of this step in rank d more, that adds these products, unless one of them passes a limit
abbrev pub with_object : ℕ → ℕ → List Product → Log → Log
with_object d step ps log = elim (first_stop [] ps) [
  | Some limit ↦ with_stop step (limit_stop limit) log
  | None ↦ with_starts step (section_starts d step ps) log
]

-- with a conclusion of this step more, of a start that is made so, unless that passes a limit
abbrev pub with_start : ℕ → Result Tracked Limit → Log → Log
with_start step (Err limit) log = with_stop step (limit_stop limit) log
with_start step (Ok start) log = with_starts step (([], start) ∷ []) log

-- with the conclusion of this step more that the six points of these numbers are on a conic
abbrev pub with_conic : ℕ → List ℕ → Log → Log
with_conic step six log = with_start step (made_of (map (value_at log.values) six)) log

-- with one instruction more, of this step
abbrev pub with_instr : ℕ → Log → Instr × ℕ → Log
with_instr d log (Free i, step) = with_free i log
with_instr d log (Join a b, step) = with_object d step (products_of operation.Join d log.values a b) log
with_instr d log (Meet a b, step) = with_object d step (products_of operation.Meet d log.values a b) log
with_instr d log (On a b s t, step) = with_object d step (products_of (operation.On s t) d log.values a b) log
with_instr d log (Conic p1 p2 p3 p4 p5 p6, step) = with_conic step (p1 ∷ p2 ∷ p3 ∷ p4 ∷ p5 ∷ p6 ∷ []) log

-- the run goes on with these instructions, each with its step, unless it has stopped
abbrev pub run_on : ℕ → Log → List (Instr × ℕ) → Log
run_on d log [] = log
run_on d log (instr ∷ instrs) = elim log.stop [ Some stop ↦ log | None ↦ run_on d (with_instr d log instr) instrs ]

-- the run of a program
unfoldable pub run_of : Options → Program → Log
run_of options p = run_on p.rank (at_start options) (zip p.instrs p.steps)
