use Rattle.std.proofs.Common.{◌≡◌, ◌++◌, take, drop}
use Rattle.step_types.specs.Known.{AreNew, entries_of}
use Rattle.step_types.proofs.progress.add_points.Given as goal

abbrev pub invariant-loop-name : goal.invariant-loop-name
invariant-loop-name l = record {
  same : l.made ≡ l.initial.made ++ entries_of l.m (take l.name-index l.names);
  new : AreNew l.made (drop l.name-index l.names);
}
