use Rattle.bracket_poly.proofs.Additions.{adds_listed}
use Rattle.bracket_poly.proofs.Signs.{not_negated}
use Rattle.bracket_poly.proofs.poly.Poly.add_terms.Goals as goal

pub returns : goal.returns
returns g c =
    adds_listed _ _ _ _ _ (not_negated c.args.other.now.tracked.sum.terms) c.add_signed.ensures
