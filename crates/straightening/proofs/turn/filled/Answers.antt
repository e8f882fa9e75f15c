use Rattle.std.proofs.Common.{rules}
use Rattle.straightening.proofs.CoverLaws.{filled_key, one_filled, all_filled}
use Rattle.straightening.proofs.turn.filled.Goals as goal

pub take_in-requires : goal.take_in-requires
take_in-requires g c =
    let key =
    filled_key g.row.D c.args.poly.now.tracked _ _ _ _ c.loop-params.invariant c.in-Some.ensures.steps c.args.poly.now.formed in
    (search rules, (search rules, (c.args.poly.now.formed.rank, key.ascending)))

pub loop-params-preserved : goal.loop-params-preserved
loop-params-preserved g c =
    one_filled g.row.D c.args.poly.now.tracked _ _ _ _ c.loop-params.invariant c.in-Some.ensures.steps _
    c.in_ok-take_in.ensures

pub returns : goal.returns
returns g c = all_filled g.row.D c.args.poly.now.tracked _ _ c.loop-params.invariant c.in-None.ensures.steps.0
