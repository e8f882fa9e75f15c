use Rattle.std.proofs.Common.{drop}
use Rattle.cayley_run.proofs.IntoLaws.{IsWritten}
use Rattle.cayley_run.proofs.into.run_into.Given as goal

-- the run goes on from here, and its lines so far were written
abbrev pub invariant-loop-number : goal.invariant-loop-number
invariant-loop-number g l =
    IsWritten l.names l.fn.options l.program l.course (drop l.number l.program.instrs) (drop l.number l.program.steps)
    (g.K.Sink.held l.fn.sink) (g.K.Sink.held l.sink) (g.K.Sink.faults l.fn.sink) (g.K.Sink.faults l.sink)
