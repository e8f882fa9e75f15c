use Rattle.std.proofs.Common.{◌≡◌, ◌+◌, take, drop, []}
use Rattle.bracket_poly.specs.Makings.{each_item}
use Rattle.bracket_poly.specs.Values.{value_of}
use Rattle.bracket_poly.proofs.Makings.{from_place}
use Rattle.conic_points.specs.Makings.{adding_entry}
use Rattle.conic_points.proofs.brackets.add_last.Given as goal

abbrev pub invariant-loop-entry : goal.invariant-loop-entry
invariant-loop-entry g l =
    each_item (adding_entry (drop (l.place + 1) l.row) [] l.f.tracked.sum (take l.place l.row)) l.fn.sum.tracked
    (value_of l.last.entries)
    ≡ from_place (adding_entry (drop (l.place + 1) l.row) [] l.f.tracked.sum (take l.place l.row)) l.entry-items l.sum.tracked
    l.entry-index
