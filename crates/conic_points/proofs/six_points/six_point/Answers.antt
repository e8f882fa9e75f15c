use Rattle.std.proofs.Common.{rules}
use Rattle.std.specs.Prelude.{Result}
use Rattle.bracket_poly.specs.Answers.{Answers, IsStop}
use Rattle.bracket_poly.specs.Tracked.{Tracked, Limit}
use Rattle.bracket_poly.proofs.Makings.{error_answers, stop_then, then_has}
use Rattle.conic_points.specs.Makings.{made_conic}
use Rattle.conic_points.proofs.six_points.six_point.Goals as goal

pub four_brackets-requires-2 : goal.four_brackets-requires-2
four_brackets-requires-2 g c =
    let h = c.requires.points in
    (search rules, (search rules, (c.requires.rank, (h.0, (h.1.0, (h.1.1.1.0, (h.1.1.0, (h.1.1.1.1.0, (h.1.1.1.1.1.0, tt)))))))))

pub returns-in_err-first : goal.returns-in_err-first
unfolding made_conic
returns-in_err-first g c =
    error_answers _ c.from_residual.result c.in_err-first.field-0.0 _ c.from_residual.ensures.1
    (stop_then c.in_err-first.field-0.0 _ _ c.in_err-first.ensures)

pub returns-in_err-second : goal.returns-in_err-second
unfolding made_conic
returns-in_err-second g c =
    error_answers _ c.from_residual-in_err-second.result c.in_err-second.field-0.0 _ c.from_residual-in_err-second.ensures.1
    (then_has (IsStop c.in_err-second.field-0.0) _ _ _ c.in_ok-first.ensures
    (stop_then c.in_err-second.field-0.0 _ _ c.in_err-second.ensures))

pub returns : goal.returns
unfolding made_conic
returns g c =
    let Q : Result Tracked Limit → Type 0 = Answers (λ poly. poly.tracked) c.difference.result in
    then_has Q _ _ _ c.in_ok-first.ensures (then_has Q _ _ _ c.in_ok-second.ensures c.difference.ensures)
