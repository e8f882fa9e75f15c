use Rattle.std.proofs.Common.{ap, sym, subst, ◌∙◌, ◌≡◌}
use Rattle.std.specs.Prelude.{Result, Ok}
use Rattle.coordinate_model.specs.Sums.{negated}
use Rattle.bracket_poly.specs.Answers.{IsStop}
use Rattle.bracket_poly.specs.Makings.{adding}
use Rattle.bracket_poly.specs.Tracked.{Tracked, Limit}
use Rattle.bracket_poly.proofs.Makings.{error_answers, stop_then, then_has, adds_ok, adds_err}
use Rattle.conic_points.proofs.six_points.difference.Goals as goal

pub returns-in_err-add_terms : goal.returns-in_err-add_terms
returns-in_err-add_terms g c =
    let Q : Result Tracked Limit → Type 0 = IsStop c.in_err-add_terms.field-0.0 in
    error_answers _ c.from_residual.result c.in_err-add_terms.field-0.0 _ c.from_residual.ensures.1
    (stop_then c.in_err-add_terms.field-0.0 _ _ (subst (λ (p : Tracked). Q (adding p c.args.first.now.tracked.sum.terms))
    c.new-start.ensures
    (adds_err c.new-start.result.tracked _ c.args.first.now.tracked.sum.terms c.in_err-add_terms.field-0.0
    c.in_err-add_terms.ensures)))

pub returns-in_err-subtract_terms : goal.returns-in_err-subtract_terms
returns-in_err-subtract_terms g c =
    let Q : Result Tracked Limit → Type 0 = IsStop c.in_err-subtract_terms.field-0.0 in
    error_answers _ c.from_residual-in_err-subtract_terms.result c.in_err-subtract_terms.field-0.0 _
    c.from_residual-in_err-subtract_terms.ensures.1
    (then_has Q _ _ _ (ap (λ p. adding p c.args.first.now.tracked.sum.terms) (sym c.new-start.ensures)
    ∙ adds_ok c.new-start.result.tracked c.add_terms.new.self.tracked c.args.first.now.tracked.sum.terms _
    c.in_ok-add_terms.ensures)
    (adds_err c.add_terms.new.self.tracked _ (negated c.args.second.now.tracked.sum.terms)
    c.in_err-subtract_terms.field-0.0 c.in_err-subtract_terms.ensures))

pub returns : goal.returns
returns g c =
    let Q : Result Tracked Limit → Type 0 = λ r. r ≡ Ok c.subtract_terms.new.self.tracked in
    then_has Q _ _ _ (ap (λ p. adding p c.args.first.now.tracked.sum.terms) (sym c.new-start.ensures)
    ∙ adds_ok c.new-start.result.tracked c.add_terms.new.self.tracked c.args.first.now.tracked.sum.terms _
    c.in_ok-add_terms.ensures)
    (adds_ok c.add_terms.new.self.tracked c.subtract_terms.new.self.tracked (negated c.args.second.now.tracked.sum.terms) _
    c.in_ok-subtract_terms.ensures)
