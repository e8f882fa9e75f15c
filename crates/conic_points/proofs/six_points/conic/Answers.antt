use Rattle.std.proofs.Common.{rules, sym, subst, List}
use Rattle.std.specs.List.{AllByRecursion}
use Rattle.bracket_poly.specs.Answers.{Answers}
use Rattle.bracket_poly.specs.declared.value.Value.{Value}
use Rattle.bracket_poly.proofs.Makings.{if_made}
use Rattle.conic_points.specs.Makings.{made_of}
use Rattle.conic_points.specs.Points.{IsPoint, values_of}
use Rattle.conic_points.proofs.SizeLaws.{doubles}
use Rattle.conic_points.proofs.Sixes.{these_six, are_points, is_six_point}
use Rattle.conic_points.proofs.six_points.conic.Goals as goal

pub six_point-requires : goal.six_point-requires
six_point-requires g c =
    let same = these_six c.args.six.now c.index-six-0.result c.index-six-1.result c.index-six-2.result c.index-six-3.result
    c.index-six-4.result c.index-six-5.result c.requires.six c.index-six-0.is c.index-six-1.is c.index-six-2.is c.index-six-3.is
    c.index-six-4.is c.index-six-5.is in (
      search rules,
      (
        search rules,
        (
          c.requires.rank,
          subst (AllByRecursion IsPoint) same (are_points c.args.six.now c.requires.points c.requires.exponents),
        ),
      ),
    )

pub returns-clause-made : goal.returns-clause-made
returns-clause-made g c =
    let same = these_six c.args.six.now c.index-six-0.result c.index-six-1.result c.index-six-2.result c.index-six-3.result
    c.index-six-4.result c.index-six-5.result c.requires.six c.index-six-0.is c.index-six-1.is c.index-six-2.is c.index-six-3.is
    c.index-six-4.is c.index-six-5.is in
    subst (λ (vs : List (Value g.row.D)). Answers (λ poly. poly.tracked) c.six_point.result (made_of (values_of vs))) (sym same)
    c.six_point.ensures

pub returns-clause-value : goal.returns-clause-value
returns-clause-value g c =
    if_made _ _ c.six_point.result _ (returns-clause-made g c)
    (λ poly e. is_six_point g.row.D c.args.six.now poly.tracked c.requires.rank c.requires.six c.requires.points e)

pub returns-clause-sizes : goal.returns-clause-sizes
returns-clause-sizes g c =
    if_made _ _ c.six_point.result _ (returns-clause-made g c) (λ poly e. doubles c.args.six.now poly.tracked c.requires.six e)
