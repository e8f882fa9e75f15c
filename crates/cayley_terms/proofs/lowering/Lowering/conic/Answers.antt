use Rattle.std.proofs.Common.{ℕ, List, length, ◌∙◌, ap}
use Rattle.construction_reader.specs.Said.{objects}
use Rattle.cayley_terms.specs.Straight.{Lowered}
use Rattle.cayley_terms.proofs.PascalSteps.{as_many}
use Rattle.cayley_terms.proofs.lowering.Lowering.conic.Goals as goal

pub six_points-requires-clause-six : goal.six_points-requires-clause-six
six_points-requires-clause-six c =
    ap length c.deref.ensures.value
    ∙ ap (λ (ns : Lowered × List ℕ). length ns.1) (c.in_ok-six.ensures {u = tt})
    ∙ as_many c.args.line (objects c.args.args.now) c.args.self.now ∙ c.requires.six
