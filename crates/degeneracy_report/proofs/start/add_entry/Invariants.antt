use Rattle.bracket_poly.proofs.Additions.{SoFar}
use Rattle.degeneracy_report.proofs.StartSteps.{row_term}
use Rattle.degeneracy_report.proofs.start.add_entry.Given as goal

abbrev pub invariant-loop-key : goal.invariant-loop-key
invariant-loop-key g l = SoFar (row_term l.row) l.fn.start.tracked l.start.tracked l.entry.1.tracked.sum.terms l.key-iterator
