use Rattle.std.proofs.Common.{drop}
use Rattle.cayley_run.specs.Seen.{starts_of}
use Rattle.cayley_run.proofs.EndingLaws.{Written}
use Rattle.cayley_run.proofs.writing.write_starts.Given as goal

-- the sections so far were written
abbrev pub invariant-loop-start : goal.invariant-loop-start
invariant-loop-start g l =
    Written l.names l.fn.contract l.budget (starts_of l.starts) l.ending (starts_of (drop l.start-index l.starts))
    (g.K.Sink.held l.fn.sink) (g.K.Sink.held l.sink) (g.K.Sink.faults l.fn.sink) (g.K.Sink.faults l.sink)
