use Rattle.std.proofs.Common.{length}
use Rattle.proof_text.proofs.points.+are_rising.Given as goal

abbrev pub decreases-are_rising : goal.decreases-are_rising
decreases-are_rising g l = length l.rows.now
