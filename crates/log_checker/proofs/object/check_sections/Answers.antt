use Rattle.std.proofs.Common.{◌+◌}
use Rattle.log_checker.proofs.Paired.{sections_end}
use Rattle.log_checker.proofs.object.check_sections.Goals as goal

pub returns-clause-accepted : goal.returns-clause-accepted
returns-clause-accepted g c =
    sections_end c.args.starts.now c.args.sections.now (c.args.before + 1) c.loop-number.number c.requires.scalars
    c.loop-number.invariant c.loop-number-test.false
