use Rattle.std.proofs.Common.{zip, drop}
use Rattle.cayley_run.specs.Seen.{log_of, steps_of}
use Rattle.cayley_run.proofs.MetSections.{MetFrom}
use Rattle.cayley_run.proofs.RunSteps.{IsRunFrom}
use Rattle.cayley_run.proofs.run.run_sections.Given as goal

-- the run goes on from here, and the objects so far have met what they have to
abbrev pub invariant-loop-number : goal.invariant-loop-number
invariant-loop-number g l =
    IsRunFrom l.fn.options l.program (log_of l.progress) (steps_of l.progress) (drop l.number l.program.instrs)
    (drop l.number l.program.steps)
    × MetFrom l.fn.options l.program l.progress.objects.items (log_of l.progress)
    (zip (drop l.number l.program.instrs) (drop l.number l.program.steps))
