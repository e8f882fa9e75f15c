use Rattle.straightening.proofs.CoverLaws.{FilledIn}
use Rattle.straightening.proofs.turn.filled.Given as goal

abbrev pub invariant-loop-params : goal.invariant-loop-params
invariant-loop-params g l = FilledIn g.row.D l.poly.tracked l.queue l.params-iterator.entries
