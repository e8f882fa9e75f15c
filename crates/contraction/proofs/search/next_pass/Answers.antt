use Rattle.std.proofs.Common.{rules}
use Rattle.contraction.specs.Pairs.{IsTerm}
use Rattle.contraction.proofs.CodeTerms.{terms_are, are_all}
use Rattle.contraction.proofs.search.next_pass.Goals as goal

pub first_use-requires : goal.first_use-requires
first_use-requires g c = (
  search rules,
  (
    search rules,
    (
      c.args.poly.now.formed.rank,
      are_all _ _ _ _ _ (IsTerm g.row.D) c.deref.ensures.value c.loop-term.invariant c.in-None.ensures.steps.0
          (terms_are g.row.D c.args.poly.now.tracked c.args.poly.now.formed c.requires.degree),
    ),
  ),
)
