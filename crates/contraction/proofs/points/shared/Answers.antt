use Rattle.std.proofs.Common.{rules, arith}
use Rattle.std.proofs.lemmas.List.{append-nil, take_all}
use Rattle.std.proofs.lemmas.List.Elements.{filter_more}
use Rattle.coordinate_model.specs.Sequences.{has}
use Rattle.std.proofs.Common.{get_or}
use Rattle.contraction.proofs.PointLists.{any_has}
use Rattle.contraction.proofs.points.shared.Goals as goal

pub loop-point-preserved : goal.loop-point-preserved
loop-point-preserved c =
    grind (
      arith,
      filter_more (has c.args.high.now) c.args.low.now c.loop-point.point-index 0 (omega arith),
      append-nil,
      any_has (get_or c.args.low.now c.loop-point.point-index 0) c.args.high.now,
    )

pub returns : goal.returns
returns c = search (rules, take_all)
