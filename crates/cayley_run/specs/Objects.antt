-- The run of one object by itself, from the values of earlier instructions, and the run of a program as that of its objects
-- one after another, each with the turns that the ones before it have left.
use Rattle.std.specs.Prelude.{◌≡◌, ℕ, ◌-◌, List, [], ◌∷◌, map, Some, None, Result, Ok, Err}
use Rattle.coordinate_model.specs.Starts.{Product}
use Rattle.coordinate_model.specs.Value.{Value}
use Rattle.bracket_poly.specs.Tracked.{Tracked, Limit}
use Rattle.cayley_terms.specs.Starts.{products_of, value_at}
use Rattle.cayley_terms.specs.Starts as operation
use Rattle.cayley_terms.specs.declared.instr.Instr.{Instr}
use Rattle.cayley_terms.specs.declared.instr.Instr.TheVariants.{Free, Join, Meet, On, Conic}
use Rattle.conic_points.specs.Makings.{made_of}
use Rattle.shuffle_meet.specs.SectionStarts.{section_starts}
use Rattle.shuffle_meet.specs.Stops.{first_stop, Start}
use Rattle.straightening.specs.Runs.{Stop, limit_stop}
use Rattle.cayley_run.specs.Runs.{Log, with_free, with_sections, run_on, with_instr}
use Rattle.cayley_run.specs.Sections.{Sections, run_starts}
use Rattle.cayley_run.specs.declared.answer.Options.{Options}

-- ---- one object

-- the object stopped before its sections
abbrev pub stopped_before : Options → Stop → Sections
stopped_before options stop = record { sections = []; left = options.budget; stop = Some stop }

-- the sections of these starts
abbrev pub started : Options → List Start → Sections
started options starts = run_starts options.contract options.budget starts

-- the run of an object of this step in rank d that adds these products, unless one of them passes a limit
abbrev pub run_of_products : ℕ → ℕ → Options → List Product → Sections
run_of_products d step options ps = elim (first_stop [] ps) [
  | Some limit ↦ stopped_before options (limit_stop limit)
  | None ↦ started options (section_starts d step ps)
]

-- the run of a conclusion of a start that is made so, unless that passes a limit
abbrev pub run_of_start : Options → Result Tracked Limit → Sections
run_of_start options (Err limit) = stopped_before options (limit_stop limit)
run_of_start options (Ok start) = started options (([], start) ∷ [])

-- the run of the object of an instruction of this step behind these values, with the budget for it alone: its sections, the
-- turns that are left, and what stopped it, if anything did; a free point has no section
abbrev pub run_of_object : ℕ → Options → List Value → Instr × ℕ → Sections
run_of_object d options values (Free i, step) = started options []
run_of_object d options values (Join a b, step) =
    run_of_products d step options (products_of operation.Join d values a b)
run_of_object d options values (Meet a b, step) =
    run_of_products d step options (products_of operation.Meet d values a b)
run_of_object d options values (On a b s t, step) =
    run_of_products d step options (products_of (operation.On s t) d values a b)
run_of_object d options values (Conic p1 p2 p3 p4 p5 p6, step) =
    run_of_start options (made_of (map (value_at values) (p1 ∷ p2 ∷ p3 ∷ p4 ∷ p5 ∷ p6 ∷ [])))

-- how many turns it made
abbrev pub turns_in : Options → Sections → ℕ
turns_in options s = options.budget - s.left

-- ---- all objects

-- the options with the turns that a run has left
abbrev pub options_left : Log → Options
options_left log = record { budget = log.left; contract = log.options.contract }

-- the run with one instruction of this step more, of which the object was run so
abbrev pub with_run : Instr × ℕ → Sections → Log → Log
with_run (Free i, step) s log = with_free i log
with_run (Join a b, step) s log = with_sections step log s
with_run (Meet a b, step) s log = with_sections step log s
with_run (On a b s' t, step) s log = with_sections step log s
with_run (Conic p1 p2 p3 p4 p5 p6, step) s log = with_sections step log s

-- the run with one instruction more, which is run from the values of the earlier ones with the turns that are left
abbrev pub with_next : ℕ → Log → Instr × ℕ → Log
with_next d log instr = with_run instr (run_of_object d (options_left log) log.values instr) log

-- the run goes on with these instructions so, unless it has stopped
abbrev pub run_by_objects : ℕ → Log → List (Instr × ℕ) → Log
run_by_objects d log [] = log
run_by_objects d log (instr ∷ instrs) =
    elim log.stop [ Some stop ↦ log | None ↦ run_by_objects d (with_next d log instr) instrs ]

-- each instruction of a run is run by itself
abbrev pub NextIsByItself : Type 0
NextIsByItself = (d : ℕ) (log : Log) (instr : Instr × ℕ) → with_instr d log instr ≡ with_next d log instr

-- and so the run is that of its objects one after another
abbrev pub RunIsByObjects : Type 0
RunIsByObjects =
    (d : ℕ) (log : Log) (instrs : List (Instr × ℕ)) → run_on d log instrs ≡ run_by_objects d log instrs
