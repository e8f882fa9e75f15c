use Rattle.std.proofs.Common.{length}
use Rattle.step_types.proofs.table.Table.+total.Given as goal

abbrev pub decreases-total : goal.decreases-total
decreases-total l = length l.args.now
