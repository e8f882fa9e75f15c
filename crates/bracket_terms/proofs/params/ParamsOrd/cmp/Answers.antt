use Rattle.std.proofs.Common.{nat_cmp, sym, ap, ◌∙◌}
use Rattle.std.specs.Cmp.Lexicographic.{slice_cmp}
use Rattle.bracket_terms.specs.Exponents.{in_use}
use Rattle.bracket_terms.proofs.UsedLaws.{cmp-used}
use Rattle.bracket_terms.proofs.params.ParamsOrd.cmp.Goals as goal

pub returns : goal.returns
returns c =
    c.cmp.ensures ∙ ap (λ xs. slice_cmp nat_cmp xs c.in_use-2.result.now) c.in_use.ensures.used
    ∙ ap (λ xs. slice_cmp nat_cmp (in_use c.args.self.now) xs) c.in_use-2.ensures.used
    ∙ cmp-used c.args.self.now c.args.other.now (c.in_use.ensures.count ∙ sym c.in_use-2.ensures.count)
