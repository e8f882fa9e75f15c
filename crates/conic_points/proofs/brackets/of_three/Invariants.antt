use Rattle.std.proofs.Common.{◌≡◌, ◌+◌, ◌++◌, take, drop, [], ◌∷◌}
use Rattle.bracket_poly.specs.Makings.{each_item}
use Rattle.bracket_poly.specs.Tracked.{nothing}
use Rattle.bracket_poly.specs.Values.{value_of}
use Rattle.bracket_poly.proofs.Makings.{from_place}
use Rattle.conic_points.specs.Makings.{adding_entry}
use Rattle.conic_points.proofs.brackets.of_three.Given as goal

abbrev pub invariant-loop-entry : goal.invariant-loop-entry
invariant-loop-entry g l =
    each_item (λ p a. each_item (adding_entry (drop (l.place + 3) l.row) (value_of l.last.entries ∷ []) a.1 (take l.place l.row ++ a.0)) p
    (value_of l.second.entries)) nothing (value_of l.first.entries)
    ≡ from_place (λ p a. each_item (adding_entry (drop (l.place + 3) l.row) (value_of l.last.entries ∷ []) a.1 (take l.place l.row ++ a.0)) p
    (value_of l.second.entries)) l.entry-items l.sum.tracked l.entry-index
