use Rattle.std.proofs.Common.{rules, arith, get_or}
use Rattle.std.proofs.lemmas.List.{take_all}
use Rattle.std.proofs.lemmas.List.Filters.{length-filter_more}
use Rattle.coordinate_model.specs.Sequences.{has}
use Rattle.contraction.proofs.PointLists.{any_has}
use Rattle.contraction.proofs.points.shared_count.Goals as goal

pub loop-point-preserved : goal.loop-point-preserved
loop-point-preserved c =
    grind (
      arith,
      length-filter_more (has c.args.high.now) c.args.low.now c.loop-point.point-index 0 (omega arith),
      any_has (get_or c.args.low.now c.loop-point.point-index 0) c.args.high.now,
    )

pub returns-clause-count : goal.returns-clause-count
returns-clause-count c = search (rules, take_all)
