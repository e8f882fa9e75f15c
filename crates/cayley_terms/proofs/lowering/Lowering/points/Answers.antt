use Rattle.cayley_terms.proofs.StatementSteps.{points_room}
use Rattle.cayley_terms.proofs.lowering.Lowering.points.Goals as goal

pub point-requires : goal.point-requires
point-requires c =
    points_room c.args.line c.args.names.now c.loop-name.name-index c.name-item.result c.loop-name.self _
    c.loop-name-test.true c.name-item.is c.loop-name.invariant c.requires
