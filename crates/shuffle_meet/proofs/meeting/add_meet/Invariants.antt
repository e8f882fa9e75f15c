use Rattle.std.proofs.Common.{◌≡◌, ◌-◌, take, flat_map}
use Rattle.coordinate_model.specs.Sequences.{splits, range}
use Rattle.coordinate_model.specs.Starts.{meet_product}
use Rattle.bracket_poly.specs.Values.{entry_of}
use Rattle.shuffle_meet.specs.Seen.{seen}
use Rattle.shuffle_meet.proofs.Added.{HasAdded}
use Rattle.shuffle_meet.proofs.meeting.add_meet.Given as goal

abbrev pub invariant-loop-i : goal.invariant-loop-i
invariant-loop-i g l = record {
  step : l.starts.step ≡ l.initial.starts.step;
  added : HasAdded (seen l.initial.starts.polys.entries)
      (flat_map (meet_product (entry_of l.left) (entry_of l.right))
      (take l.i (splits (g.row.D - l.right.0.size) (range l.left.0.size))))
      (seen l.starts.polys.entries);
}
