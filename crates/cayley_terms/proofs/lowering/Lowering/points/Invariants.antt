use Rattle.std.proofs.Common.{◌≡◌, drop, fold}
use Rattle.cayley_terms.specs.Straight.{point_lowered}
use Rattle.cayley_terms.proofs.lowering.Lowering.points.Given as goal

abbrev pub invariant-loop-name : goal.invariant-loop-name
invariant-loop-name l =
    fold (point_lowered l.line) l.initial.self l.names ≡ fold (point_lowered l.line) l.self (drop l.name-index l.names)
