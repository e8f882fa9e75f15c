use Rattle.std.proofs.Common.{sym, ap, ◌∙◌}
use Rattle.bracket_poly.specs.Kept.{TrackedOf}
use Rattle.bracket_poly.proofs.ArenaOrder.{none_reached, one_reached, all_reached}
use Rattle.bracket_poly.proofs.ArenaSteps.{keys}
use Rattle.bracket_poly.proofs.KeyParts.{same_parts}
use Rattle.bracket_poly.proofs.arena_terms.ArenaTable+D.order.Goals as goal

pub loop-key-init : goal.loop-key-init
loop-key-init g c =
    none_reached _ _ _
    (ap (λ (p : TrackedOf g.row.D). p.tracked.met) (sym c.self.view_is)
    ∙ sym (ap keys (c.into_iter-key-iterator.ensures.into_iter_gives ∙ c.iter-key-items.ensures.rest)))

pub loop-key-preserved : goal.loop-key-preserved
loop-key-preserved g c =
    one_reached _ _ _ _ _ _ _ _ c.loop-key.invariant c.in-Some.ensures.steps c.in_ok-insert.ensures.others
    c.in_ok-insert.ensures.there
    (c.of.ensures ∙ same_parts _ c.in-Some.key.now c.params.ensures c.rows.ensures)

pub returns : goal.returns
returns g c = all_reached _ _ _ c.loop-key.invariant c.in-None.ensures.steps.0
