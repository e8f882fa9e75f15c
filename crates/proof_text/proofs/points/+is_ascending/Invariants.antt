use Rattle.std.proofs.Common.{length}
use Rattle.proof_text.proofs.points.+is_ascending.Given as goal

abbrev pub decreases-is_ascending : goal.decreases-is_ascending
decreases-is_ascending g l = length l.rows.now
