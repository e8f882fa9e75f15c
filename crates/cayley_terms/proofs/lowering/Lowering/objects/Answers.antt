use Rattle.std.proofs.Common.{sym, ◌∙◌, arith}
use Rattle.cayley_terms.proofs.ObjectSteps.{objects_next, objects_room, objects_end}
use Rattle.cayley_terms.proofs.lowering.Lowering.objects.Goals as goal

pub object-requires : goal.object-requires
object-requires c =
    objects_room c.args.line c.args.args.now c.loop-arg.arg-index c.arg-item.result c.loop-arg.self
    c.loop-arg.numbers.items _ c.loop-arg-test.true c.arg-item.is c.loop-arg.invariant c.requires

pub loop-arg-preserved : goal.loop-arg-preserved
loop-arg-preserved c =
    rw (c.in_ok-push.ensures.items)
    (c.loop-arg.invariant
    ∙ objects_next c.args.line c.args.args.now c.loop-arg.arg-index c.arg-item.result c.loop-arg.self
    c.loop-arg.numbers.items (c.object.new.self, c.in_ok-number.number) c.loop-arg-test.true c.arg-item.is
    (c.in_ok-number.ensures {u = tt}))

pub returns : goal.returns
returns c =
    sym
    (c.loop-arg.invariant
    ∙ objects_end c.args.line c.args.args.now c.loop-arg.arg-index c.loop-arg.self c.loop-arg.numbers.items
    (omega arith))
