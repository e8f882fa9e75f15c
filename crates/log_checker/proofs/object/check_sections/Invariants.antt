use Rattle.std.proofs.Common.{◌+◌}
use Rattle.log_checker.proofs.Paired.{SectionsFrom}
use Rattle.log_checker.proofs.object.check_sections.Given as goal

abbrev pub invariant-loop-number : goal.invariant-loop-number
invariant-loop-number g l = SectionsFrom l.starts l.sections (l.before + 1) l.number
