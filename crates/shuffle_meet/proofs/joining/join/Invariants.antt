use Rattle.std.proofs.Common.{◌≡◌, take, flat_map}
use Rattle.coordinate_model.specs.Starts.{join_product}
use Rattle.bracket_poly.specs.Values.{entry_of, value_of}
use Rattle.shuffle_meet.specs.Seen.{seen}
use Rattle.shuffle_meet.proofs.Added.{HasAdded}
use Rattle.shuffle_meet.proofs.joining.join.Given as goal

abbrev pub invariant-loop-left : goal.invariant-loop-left
invariant-loop-left g l = record {
  step : l.starts.step ≡ l.initial.starts.step;
  added : HasAdded (seen l.initial.starts.polys.entries)
      (flat_map (λ left. flat_map (join_product g.row.D (entry_of left)) (value_of l.b.entries)) (take l.left-index l.a.entries))
      (seen l.starts.polys.entries);
}
