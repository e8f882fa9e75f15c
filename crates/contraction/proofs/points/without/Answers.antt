use Rattle.std.proofs.Common.{rules, arith, not, get_or}
use Rattle.std.proofs.lemmas.List.{append-nil, take_all}
use Rattle.std.proofs.lemmas.List.Elements.{filter_more}
use Rattle.coordinate_model.specs.Sequences.{has}
use Rattle.contraction.proofs.PointLists.{any_has}
use Rattle.contraction.proofs.points.without.Goals as goal

pub loop-point-preserved : goal.loop-point-preserved
loop-point-preserved c =
    grind (
      arith,
      filter_more (λ x. not (has c.args.other.now x)) c.args.row.now c.loop-point.point-index 0 (omega arith),
      append-nil,
      any_has (get_or c.args.row.now c.loop-point.point-index 0) c.args.other.now,
    )

pub returns : goal.returns
returns c = search (rules, take_all)
