use Rattle.std.proofs.Common.{◌≡◌, take, flat_map}
use Rattle.shuffle_meet.specs.Seen.{seen}
use Rattle.shuffle_meet.proofs.Added.{HasAdded}
use Rattle.shuffle_meet.proofs.MixSteps.{scaled}
use Rattle.shuffle_meet.proofs.mixing.add_scaled.Given as goal

abbrev pub invariant-loop-entry : goal.invariant-loop-entry
invariant-loop-entry g l = record {
  step : l.starts.step ≡ l.initial.starts.step;
  added : HasAdded (seen l.initial.starts.polys.entries)
      (flat_map (scaled l.factor.tracked.sum) (take l.entry-index l.entries)) (seen l.starts.polys.entries);
}
