use Rattle.std.proofs.Common.{sym, ◌∙◌}
use Rattle.bracket_poly.proofs.MetKeys.{count_unmet}
use Rattle.bracket_poly.proofs.poly.Poly.known_coefficient.Goals as goal

pub returns-else-met : goal.returns-else-met
returns-else-met g c =
    let seen = c.args.self.now in
    sym (count_unmet seen.tracked.met c.args.key.now seen.tracked.sum.terms seen.formed.terms_met (sym c.requires ∙ c.if-met.false))
