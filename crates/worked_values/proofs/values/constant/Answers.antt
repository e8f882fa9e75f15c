use Rattle.std.proofs.Common.{rules}
use Rattle.worked_values.proofs.values.constant.Goals as goal

pub returns : goal.returns
returns g c = record { value = c.args.c; not_zero = c.requires.not_zero; is = search rules }
