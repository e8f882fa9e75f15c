use Rattle.std.proofs.Common.{sym, ◌∙◌}
use Rattle.proof_text.proofs.PointSteps.{rising_plus, plus_points}
use Rattle.proof_text.proofs.products.bracket.Goals as goal

pub unreachable-requires : goal.unreachable-requires
unreachable-requires g c =
    c.in_default.not-Plus c.args.points.now (c.sort.ensures.sorted ∙ rising_plus c.args.points.now c.requires.rising)

pub returns : goal.returns
returns g c =
    plus_points c.in-Plus.bracket c.args.points.now
    (sym c.in-Plus.is ∙ c.sort.ensures.sorted ∙ rising_plus c.args.points.now c.requires.rising)
