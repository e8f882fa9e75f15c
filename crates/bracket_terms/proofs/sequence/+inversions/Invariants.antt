use Rattle.std.proofs.Common.{length}
use Rattle.bracket_terms.proofs.sequence.+inversions.Given as goal

abbrev pub decreases-inversions : goal.decreases-inversions
decreases-inversions l = length l.points.now
