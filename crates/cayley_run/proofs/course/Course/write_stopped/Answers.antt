use Rattle.cayley_run.proofs.CourseLaws.{writes_then_none}
use Rattle.cayley_run.proofs.course.Course.write_stopped.Goals as goal

pub returns-in_err-finish-clause-writes : goal.returns-in_err-finish-clause-writes
returns-in_err-finish-clause-writes g c =
    writes_then_none _ _ _ _ _ _ c.in_ok-write_object.ensures c.from_residual-in_err-finish.ensures.1
