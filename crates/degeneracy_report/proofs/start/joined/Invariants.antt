use Rattle.bracket_poly.specs.Tracked.{nothing}
use Rattle.bracket_poly.specs.Values.{value_of}
use Rattle.bracket_poly.proofs.Additions.{SoFar}
use Rattle.degeneracy_report.specs.Joined.{fresh_points, joined_terms}
use Rattle.degeneracy_report.proofs.StartSteps.{left_from}
use Rattle.degeneracy_report.proofs.start.joined.Given as goal

abbrev pub invariant-loop-entry : goal.invariant-loop-entry
invariant-loop-entry g l =
    SoFar (joined_terms (fresh_points g.row.D l.value.step l.fresh)) nothing l.start.tracked (value_of l.entry-items)
    (left_from (fresh_points g.row.D l.value.step l.fresh) l.entry-items l.entry-index l.entry-index)
