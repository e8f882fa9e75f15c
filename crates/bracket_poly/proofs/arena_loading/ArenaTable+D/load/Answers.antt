use Rattle.std.proofs.Common.{sym, subst, ◌∙◌}
use mir.Syntax.{w128}
use mir.Val.{SFits}
use Rattle.std.proofs.lemmas.Int.{to_z-of_z}
use Rattle.bracket_poly.specs.Kept.{IsTracked, same_tracked}
use Rattle.bracket_poly.specs.Tracked.{Tracked}
use Rattle.bracket_poly.proofs.ArenaCopies.{one_laid, all_laid, laid_store}
use Rattle.bracket_poly.proofs.arena_loading.ArenaTable+D.load.Goals as goal

pub loop-key-preserved : goal.loop-key-preserved
loop-key-preserved g c =
    let number : SFits w128 c.coefficient.result = record { sfits = c.coefficient.type_inv } in
    one_laid c.args.poly.now.tracked _ _ _ _ _ _ _ _ c.args.poly.now.formed.once c.loop-key.invariant c.in-Some.ensures.steps
    (to_z-of_z w128 _ number ∙ c.coefficient.ensures) c.in_ok-place.ensures.met c.in_ok-place.ensures.store

pub invariant_of-result : goal.invariant_of-result
invariant_of-result g c = (
  subst (λ (p : Tracked). IsTracked g.row.D p)
      (sym (all_laid g.row.D c.args.poly.now.tracked _ _ _ c.args.poly.now.formed c.loop-key.invariant c.in-None.ensures.steps.0))
      c.args.poly.now.formed,
  tt,
)

pub invariant_of-result-2 : goal.invariant_of-result-2
invariant_of-result-2 g c = laid_store c.args.poly.now.tracked _ _ _ c.loop-key.invariant

pub returns : goal.returns
returns g c =
    same_tracked g.row.D _ _
    (all_laid g.row.D c.args.poly.now.tracked _ _ _ c.args.poly.now.formed c.loop-key.invariant c.in-None.ensures.steps.0)
