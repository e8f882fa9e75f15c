use Rattle.std.proofs.Common.{rules, ◌≡◌}
use Rattle.std.proofs.lemmas.Result.{IfOk-weaker}
use Rattle.coordinate_model.specs.BracketPolynomial.{value}
use Rattle.bracket_poly.specs.Values.{value_of}
use Rattle.degeneracy_report.specs.Joined.{fresh_points}
use Rattle.degeneracy_report.specs.Reports.{IsJoin}
use Rattle.degeneracy_report.proofs.Reports.{is_join, zero_if, sizes_if, classes_of, bound_of}
use Rattle.degeneracy_report.proofs.StartKeys.{start_degree}
use Rattle.degeneracy_report.proofs.report.degenerate.Goals as goal

pub straighten-requires : goal.straighten-requires
straighten-requires g c = (
  search rules,
  (
    search rules,
    (
      search rules,
      start_degree (fresh_points g.row.D c.args.value.now.step c.args.fresh) (value_of c.args.value.now.entries)
          c.in-Ok.start.tracked c.in-Ok.ensures c.requires.degree,
    ),
  ),
)

pub returns-in-Ok-clause-value : goal.returns-in-Ok-clause-value
returns-in-Ok-clause-value g c =
    IfOk-weaker c.straighten.result (λ end. value end.normal.tracked.sum ≡ value c.in-Ok.start.tracked.sum)
    (λ end. IsJoin c.args.value.now c.args.fresh end.normal.tracked.sum)
    (λ end. is_join c.args.value.now c.args.fresh c.requires.least c.requires.most c.requires.points c.in-Ok.start
    c.in-Ok.ensures end.normal.tracked.sum)
    c.straighten.ensures.value

pub returns-in-Ok-clause-zero : goal.returns-in-Ok-clause-zero
returns-in-Ok-clause-zero g c =
    zero_if c.args.value.now c.args.fresh c.requires.least c.requires.most c.requires.points c.in-Ok.start c.in-Ok.ensures
    c.straighten.result c.straighten.ensures.value c.straighten.ensures.normal

pub returns-in-Ok-clause-sizes : goal.returns-in-Ok-clause-sizes
returns-in-Ok-clause-sizes g c =
    sizes_if c.args.value.now c.args.fresh c.requires.least c.requires.most c.requires.points c.in-Ok.start c.in-Ok.ensures
    c.straighten.result c.straighten.ensures.classes

pub returns-in-Ok-clause-classes : goal.returns-in-Ok-clause-classes
returns-in-Ok-clause-classes g c =
    classes_of c.args.value.now c.args.fresh c.requires.least c.requires.most c.requires.points c.in-Ok.start c.in-Ok.ensures
    c.straighten.result c.straighten.ensures.classes

pub returns-in-Ok-clause-bound : goal.returns-in-Ok-clause-bound
returns-in-Ok-clause-bound g c =
    bound_of c.args.value.now c.args.fresh c.requires.least c.requires.most c.requires.points c.in-Ok.start c.in-Ok.ensures
    c.straighten.result c.args.budget c.straighten.ensures.bound
