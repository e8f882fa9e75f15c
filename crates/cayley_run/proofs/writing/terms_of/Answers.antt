use Rattle.std.proofs.Common.{◌≡◌, ◌∙◌, ap}
use Rattle.coordinate_model.specs.Key.{key_cmp}
use Rattle.coordinate_model.proofs.KeyProducts.{key_same, key_total}
use Rattle.coordinate_model.proofs.SumRing.{sum_of-terms}
use Rattle.bracket_poly.specs.Tracked.{Tracked, nothing, plus_terms}
use Rattle.bracket_poly.proofs.Totals.{adds_all}
use Rattle.cayley_run.proofs.writing.terms_of.Goals as goal

pub returns-in-Ok : goal.returns-in-Ok
returns-in-Ok g c =
    let added : c.add_terms.new.self.tracked
    ≡ plus_terms c.new-terms.result.tracked c.args.polynomial.now.tracked.sum.terms =
    c.in-Ok.ensures.all in
    ap (λ (p : Tracked). p.sum) added
    ∙ ap (λ (p : Tracked). (plus_terms p c.args.polynomial.now.tracked.sum.terms).sum) c.new-terms.ensures
    ∙ adds_all nothing c.args.polynomial.now.tracked.sum.terms
    ∙ sum_of-terms key_cmp key_total key_same c.args.polynomial.now.tracked.sum
