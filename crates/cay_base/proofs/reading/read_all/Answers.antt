use Rattle.cay_base.proofs.Known.{consumes_more, leaves_a_front}
use Rattle.cay_base.proofs.reading.read_all.Goals as goal

pub returns-in_err-extend_from_slice-clause-leaves :
    goal.returns-in_err-extend_from_slice-clause-leaves
returns-in_err-extend_from_slice-clause-leaves g c =
    leaves_a_front c.args.limit (g.S.Source.left c.args.source.now) (g.S.Source.left c.take.new.self) _ _
    (consumes_more _ (g.S.Source.left c.loop-room.source) _ _ _ c.loop-room.invariant.0 c.in-Ok.ensures.bytes.0)
    c.from_residual.ensures.1
