use Rattle.std.proofs.Common.{◌≡◌, ◌∙◌, sym, ap}
use Rattle.std.specs.Prelude.{Some, None}
use Rattle.coordinate_model.specs.BracketPolynomial.{BracketPolynomial}
use Rattle.bracket_poly.specs.Values.{value_of}
use Rattle.conic_points.specs.Points.{values_of}
use Rattle.cayley_run.specs.Courses.{first_polynomial, last_polynomial}
use Rattle.cayley_run.proofs.CourseLaws.{last_by, first_by, copy_result}
use Rattle.cayley_run.proofs.course.last_polynomial.Goals as goal

pub returns-in-Some-first : goal.returns-in-Some-first
returns-in-Some-first g c =
    copy_result c.copy.result c.in-Some-first.field-0.now.1 (last_polynomial (values_of c.args.values.now))
    (sym (first_by c.items.result.now (Some c.in-Some-first.field-0.now) c.in-Some-first.ensures.value)
    ∙ ap (λ es. first_polynomial (value_of es)) c.items.ensures
    ∙ sym (last_by c.args.values.now (Some c.in-Some.value.now) c.in-Some.ensures.value))
    c.copy.ensures

pub returns-in-None : goal.returns-in-None
returns-in-None g c =
    ap (λ t. t.sum) c.new-in-None.ensures
    ∙ sym (first_by c.items.result.now None c.in-None.ensures.value)
    ∙ ap (λ es. first_polynomial (value_of es)) c.items.ensures
    ∙ sym (last_by c.args.values.now (Some c.in-Some.value.now) c.in-Some.ensures.value)
