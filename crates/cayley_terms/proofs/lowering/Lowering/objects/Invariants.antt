use Rattle.std.proofs.Common.{◌≡◌, map, drop}
use Rattle.construction_reader.specs.Said.{object}
use Rattle.cayley_terms.specs.Straight.{objects_lowered}
use Rattle.cayley_terms.proofs.ObjectSteps.{with_front}
use Rattle.cayley_terms.proofs.lowering.Lowering.objects.Given as goal

abbrev pub invariant-loop-arg : goal.invariant-loop-arg
invariant-loop-arg l =
    objects_lowered l.line (map object l.args) l.initial.self
    ≡ with_front l.numbers.items (objects_lowered l.line (map object (drop l.arg-index l.args)) l.self)
