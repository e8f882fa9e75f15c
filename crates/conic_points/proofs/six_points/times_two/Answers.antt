use Rattle.std.proofs.Common.{rules}
use Rattle.std.specs.Prelude.{Result}
use Rattle.bracket_poly.specs.Answers.{Answers, IsStop}
use Rattle.bracket_poly.specs.Tracked.{Tracked, Limit}
use Rattle.bracket_poly.proofs.Makings.{error_answers, stop_then, then_has}
use Rattle.conic_points.proofs.six_points.times_two.Goals as goal

pub bracket-requires : goal.bracket-requires
bracket-requires g c =
    let h = c.requires.points in
    (search rules, (search rules, (c.requires.rank, (h.0, (h.1.1.0, (h.1.1.1.1.0, tt))))))

pub bracket-requires-2 : goal.bracket-requires-2
bracket-requires-2 g c =
    let h = c.requires.points in
    (search rules, (search rules, (c.requires.rank, (h.1.0, (h.1.1.1.0, (h.1.1.1.1.0, tt))))))

pub product-requires : goal.product-requires
product-requires g c = (
  search rules,
  (
    c.requires.rank,
    (c.requires.first, (c.requires.second, (c.in_ok-third.ensures.degree, c.in_ok-fourth.ensures.degree))),
  ),
)

pub returns-in_err-third : goal.returns-in_err-third
returns-in_err-third g c =
    error_answers _ c.from_residual.result c.in_err-third.field-0.0 _ c.from_residual.ensures.1
    (stop_then c.in_err-third.field-0.0 _ _ c.in_err-third.ensures.made)

pub returns-in_err-fourth : goal.returns-in_err-fourth
returns-in_err-fourth g c =
    error_answers _ c.from_residual-in_err-fourth.result c.in_err-fourth.field-0.0 _ c.from_residual-in_err-fourth.ensures.1
    (then_has (IsStop c.in_err-fourth.field-0.0) _ _ _ c.in_ok-third.ensures.made
    (stop_then c.in_err-fourth.field-0.0 _ _ c.in_err-fourth.ensures.made))

pub returns : goal.returns
returns g c =
    let Q : Result Tracked Limit → Type 0 = Answers (λ poly. poly.tracked) c.product.result in
    then_has Q _ _ _ c.in_ok-third.ensures.made (then_has Q _ _ _ c.in_ok-fourth.ensures.made c.product.ensures)
