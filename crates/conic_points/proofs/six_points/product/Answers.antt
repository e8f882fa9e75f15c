use Rattle.std.proofs.Common.{rules, lit≤}
use Rattle.std.specs.Prelude.{Result}
use Rattle.bracket_poly.specs.Answers.{Answers, IsStop}
use Rattle.bracket_poly.specs.Products.{HasDegree}
use Rattle.bracket_poly.specs.Tracked.{Tracked, Limit}
use Rattle.bracket_poly.proofs.Degrees.{exponents_fit}
use Rattle.bracket_poly.proofs.Makings.{error_answers, stop_then, then_has}
use Rattle.bracket_poly.proofs.ProductKeys.{product_degree}
use Rattle.conic_points.proofs.six_points.product.Goals as goal

pub times-requires : goal.times-requires
times-requires g c = (
  search rules,
  exponents_fit 3000 3000 c.args.first.now.tracked.sum c.args.second.now.tracked.sum (lit≤ tt) c.requires.first c.requires.second,
)

pub times-requires-2 : goal.times-requires-2
times-requires-2 g c =
    let two : HasDegree 6000 c.in_ok-two.two.tracked.sum =
    product_degree 3000 3000 c.args.first.now.tracked.sum c.args.second.now.tracked.sum c.in_ok-two.two.tracked
    c.in_ok-two.ensures c.requires.first c.requires.second in (
      search rules,
      exponents_fit 6000 3000 c.in_ok-two.two.tracked.sum c.args.third.now.tracked.sum (lit≤ tt) two c.requires.third,
    )

pub times-requires-3 : goal.times-requires-3
times-requires-3 g c =
    let two : HasDegree 6000 c.in_ok-two.two.tracked.sum =
    product_degree 3000 3000 c.args.first.now.tracked.sum c.args.second.now.tracked.sum c.in_ok-two.two.tracked
    c.in_ok-two.ensures c.requires.first c.requires.second in
    let three : HasDegree 9000 c.in_ok-three.three.tracked.sum =
    product_degree 6000 3000 c.in_ok-two.two.tracked.sum c.args.third.now.tracked.sum c.in_ok-three.three.tracked
    c.in_ok-three.ensures two c.requires.third in (
      search rules,
      exponents_fit 9000 3000 c.in_ok-three.three.tracked.sum c.args.fourth.now.tracked.sum (lit≤ tt) three c.requires.fourth,
    )

pub returns-in_err-two : goal.returns-in_err-two
returns-in_err-two g c =
    error_answers _ c.from_residual.result c.in_err-two.field-0.0 _ c.from_residual.ensures.1
    (stop_then c.in_err-two.field-0.0 _ _ c.in_err-two.ensures)

pub returns-in_err-three : goal.returns-in_err-three
returns-in_err-three g c =
    error_answers _ c.from_residual-in_err-three.result c.in_err-three.field-0.0 _ c.from_residual-in_err-three.ensures.1
    (then_has (IsStop c.in_err-three.field-0.0) _ _ _ c.in_ok-two.ensures
    (stop_then c.in_err-three.field-0.0 _ _ c.in_err-three.ensures))

pub returns : goal.returns
returns g c =
    let Q : Result Tracked Limit → Type 0 = Answers (λ poly. poly.tracked) c.times-3.result in
    then_has Q _ _ _ c.in_ok-two.ensures (then_has Q _ _ _ c.in_ok-three.ensures c.times-3.ensures)
