use Rattle.std.proofs.Common.{◌≡◌, take, flat_map}
use Rattle.bracket_poly.specs.Values.{entry_of}
use Rattle.shuffle_meet.specs.Seen.{seen}
use Rattle.shuffle_meet.specs.Objects.{meets_with}
use Rattle.shuffle_meet.proofs.Added.{HasAdded}
use Rattle.shuffle_meet.proofs.meeting.add_meets.Given as goal

abbrev pub invariant-loop-right : goal.invariant-loop-right
invariant-loop-right g l = record {
  step : l.starts.step ≡ l.initial.starts.step;
  added : HasAdded (seen l.initial.starts.polys.entries)
      (flat_map (λ right. meets_with g.row.D (entry_of l.left) (entry_of right)) (take l.right-index l.rights))
      (seen l.starts.polys.entries);
}
