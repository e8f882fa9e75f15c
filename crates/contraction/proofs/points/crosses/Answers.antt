use Rattle.std.proofs.Common.{length, ap₂, ◌∙◌}
use Rattle.contraction.specs.Passes.{shared}
use Rattle.contraction.proofs.PairLaws.{crosses_is}
use Rattle.contraction.proofs.points.crosses.Goals as goal

pub returns : goal.returns
returns g c =
    crosses_is g.row.D c.args.low.now c.args.high.now
    (c.points-first.ensures.count, c.points-first.ensures.increasing)
    (c.points-second.ensures.count, c.points-second.ensures.increasing) c.shared_count.result
    (c.shared_count.ensures.count
    ∙ ap₂ (λ v w. length (shared v w)) c.points-first.ensures.points c.points-second.ensures.points)
