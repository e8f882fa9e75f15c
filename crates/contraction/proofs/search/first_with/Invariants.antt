use Rattle.std.proofs.Common.{◌≡◌, map, length}
use Rattle.std.specs.List.{AllByRecursion}
use Rattle.contraction.specs.Pairs.{IsTerm}
use Rattle.contraction.specs.Passes.{first_with}
use Rattle.contraction.proofs.search.first_with.Given as goal

abbrev pub invariant-loop-left : goal.invariant-loop-left
invariant-loop-left g l =
    (first_with (l.first.0.now, l.first.1) (map (λ t. (t.0.now, t.1)) l.left)
    ≡ first_with (l.first.0.now, l.first.1) (map (λ t. (t.0.now, t.1)) l.fn.others))
    × AllByRecursion (IsTerm g.row.D) (map (λ t. (t.0.now, t.1)) l.left)

abbrev pub decreases-loop-left : goal.decreases-loop-left
decreases-loop-left g l = length l.left
