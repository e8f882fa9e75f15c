use Rattle.std.proofs.Common.{List, [], ◌∷◌, ◌++◌, subst, sym}
use Rattle.bracket_poly.specs.declared.section.ObjectLog.{ObjectLog}
use Rattle.bracket_poly.specs.declared.section.Section.{Section}
use Rattle.cayley_run.specs.MetKeys.{AllHaveMet, HaveMet}
use Rattle.cayley_run.proofs.MetSections.{object_met}
use Rattle.cayley_run.proofs.progress.Progress.finish.Goals as goal

pub returns-clause-met : goal.returns-clause-met
returns-clause-met g c = λ starts have all met.
    subst (λ (os : List (ObjectLog g.row.D)). AllHaveMet os (all ++ starts ∷ [])) (sym c.in_ok-push.ensures.items)
    (object_met c.args.self.now.objects.items _ all starts met
    (subst (λ (ss : List (Section g.row.D)). HaveMet ss starts) (sym c.of.ensures) have))
