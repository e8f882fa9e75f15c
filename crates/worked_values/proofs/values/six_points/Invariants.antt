use Rattle.std.proofs.Common.{◌≡◌}
use Rattle.std.specs.List.{AllByRecursion}
use Rattle.conic_points.specs.Points.{IsSmall}
use Rattle.worked_values.proofs.values.six_points.Given as goal

abbrev pub invariant-loop-i : goal.invariant-loop-i
invariant-loop-i l = record {
  steps : AllByRecursion (λ value. value.step ≡ 1) l.six.items;
  small : AllByRecursion (λ value. AllByRecursion IsSmall value.entries) l.six.items;
}
