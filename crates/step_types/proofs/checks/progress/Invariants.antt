use Rattle.std.proofs.Common.{◌≡◌, drop, map}
use Rattle.construction_reader.specs.Said.{row}
use Rattle.construction_reader.specs.Seen.{account}
use Rattle.step_types.specs.Seen.{known}
use Rattle.step_types.specs.Checks.{outcome, checked}
use Rattle.step_types.proofs.checks.progress.Given as goal

abbrev pub invariant-loop-statement : goal.invariant-loop-statement
invariant-loop-statement l =
    outcome l.c.rank (known l.progress) (map row (drop l.statement-index l.statement-items)) ≡ checked (account l.c)
