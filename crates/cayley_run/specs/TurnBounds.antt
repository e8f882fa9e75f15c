-- How many turns a run takes: in each section at most as many as there are keys that are not standard in the classes of
-- the terms of its start, apart from the passes with which it begins.
use Rattle.std.specs.Prelude.{◌≡◌, ℕ, ◌+◌, ◌≤◌, Bool, List, [], ◌∷◌, ◌++◌, length, Some}
use Rattle.std.specs.List.{AllByRecursion}
use Rattle.coordinate_model.specs.Syzygy.{Use}
use Rattle.bracket_poly.specs.Sections.{Rewritten, Worked}
use Rattle.bracket_poly.specs.Tracked.{Tracked}
use Rattle.straightening.specs.Bounds.{turnable_keys}
use Rattle.straightening.specs.Runs.{turns_stop}
use Rattle.cayley_terms.specs.declared.program.Program.{Program}
use Rattle.cayley_run.specs.Runs.{Log, run_of}
use Rattle.cayley_run.specs.Sections.{passes_of}
use Rattle.cayley_run.specs.declared.answer.Options.{Options}

-- how many turns a section of rank d may take
abbrev pub section_turns : ℕ → Rewritten → ℕ
section_turns d s = length (turnable_keys d s.start)

-- how many all of the sections may take
abbrev pub sections_turns : ℕ → List Rewritten → ℕ
sections_turns d [] = 0
sections_turns d (s ∷ sections) = section_turns d s + sections_turns d sections

-- and those of all the objects
abbrev pub all_turns : ℕ → List Worked → ℕ
all_turns d [] = 0
all_turns d (o ∷ objects) = sections_turns d o.sections + all_turns d objects

-- the uses of a section are the passes of its start, where they are asked for, and then those of at most its turns
pub record HasFewTurns (d : ℕ) (contract : Bool) (s : Rewritten) : Type 0 where
  pub start : Tracked
  pub same_start : s.start ≡ start.sum
  pub turns : List Use
  pub uses : s.uses ≡ (passes_of contract start).uses ++ turns
  pub few : length turns ≤ section_turns d s

-- each section of the log takes at most its turns; and with a budget of as many turns as all of them may take, the run
-- behind the log did not stop for its turns
pub record TakesFewTurns (d : ℕ) (options : Options) (log : Log) : Type 0 where
  pub sections : AllByRecursion (λ o. AllByRecursion (HasFewTurns d options.contract) o.sections) log.objects
  pub enough : all_turns d log.objects ≤ options.budget → log.stop ≡ Some turns_stop → ⊥

-- the run of a program does
abbrev pub RunTakesFewTurns : Type 0
RunTakesFewTurns = (options : Options) (p : Program) → TakesFewTurns p.rank options (run_of options p)
