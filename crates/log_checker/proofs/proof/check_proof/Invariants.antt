use Rattle.std.proofs.Common.{drop}
use Rattle.log_checker.specs.Seen.{place_of, steps_in}
use Rattle.log_checker.proofs.Courses.{IsGoing}
use Rattle.log_checker.proofs.proof.check_proof.Given as goal

-- the check goes on from here
abbrev pub invariant-loop-number : goal.invariant-loop-number
invariant-loop-number g l =
    IsGoing l.program l.objects (place_of l.progress) (steps_in l.progress.values.items)
    (drop l.number l.program.instrs) (drop l.number l.program.steps)
