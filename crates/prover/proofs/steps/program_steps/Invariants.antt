use Rattle.std.proofs.Common.{◌≡◌, ◌++◌, zip, drop}
use Rattle.log_checker.specs.Objects.{object_steps, program_steps}
use Rattle.prover.proofs.steps.program_steps.Given as goal

-- what is there, and the steps of the objects from here on
abbrev pub invariant-loop-number : goal.invariant-loop-number
invariant-loop-number l =
    l.objects.items ++ object_steps (zip (drop l.number l.program.instrs) (drop l.number l.program.steps))
    ≡ program_steps l.program
