use Rattle.std.proofs.Common.{◌∙◌, ap, arith, take}
use Rattle.bracket_terms.specs.Exponents.{in_use}
use Rattle.bracket_terms.proofs.UsedLaws.{few-used, take-used}
use Rattle.bracket_terms.proofs.params.Params.in_use.Goals as goal

pub shared_ref_as_front-result : goal.shared_ref_as_front-result
shared_ref_as_front-result c = omega (arith, few-used c.self.inside.exponents, c.self.invariant.0, c.self.invariant.1)

pub returns-clause-used : goal.returns-clause-used
returns-clause-used c =
    ap (λ n. take n c.self.inside.exponents) c.self.invariant.1 ∙ take-used c.self.inside.exponents
    ∙ ap in_use c.self.view_is
