use Rattle.std.proofs.Common.{◌≡◌, Some, map, take}
use Rattle.std.specs.List.{zip}
use Rattle.placement.specs.Numbers.{combination_of}
use Rattle.placement.proofs.combined.mixed.Given as goal

abbrev pub invariant-loop-k : goal.invariant-loop-k
invariant-loop-k l =
    map (λ z. Some z) l.made.items ≡ map (combination_of l.s l.t) (take l.k (zip l.a l.b))
