use Rattle.std.proofs.Common.{sym, subst, List, T}
use Rattle.std.specs.Prelude.{ℤ, Option, IfOk}
use Rattle.std.specs.Option.{option_map}
use Rattle.placement.specs.Numbers.{AreNumbers}
use Rattle.placement.proofs.TermLaws.{has-rows, join-made, truth}
use Rattle.placement.proofs.objects.joined.Goals as goal

pub combined-requires : goal.combined-requires
combined-requires c =
    truth _
    (has-rows c.args.rank c.args.j c.args.k c.args.a.now c.args.b.now c.requires.first c.requires.second
    c.join_terms.result.now (subst T (sym c.join_terms.ensures.within) tt))

pub returns : goal.returns
returns c = λ A B e f.
    subst (λ (xs : List (Option ℤ)). IfOk c.combined.result (λ made. AreNumbers xs (option_map (λ v. v.items) made)))
    (join-made c.args.rank c.args.j c.args.k A B c.args.a.now c.args.b.now e f c.join_terms.result.now
    (subst T (sym c.join_terms.ensures.within) tt) c.join_terms.ensures.terms)
    c.combined.ensures
