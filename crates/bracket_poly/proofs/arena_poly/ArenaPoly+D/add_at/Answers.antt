use Rattle.std.proofs.Common.{ap, ◌∙◌, slice_get}
use Rattle.bracket_poly.specs.Kept.{TrackedOf}
use Rattle.bracket_poly.proofs.ArenaOrder.{all_after_at}
use Rattle.bracket_poly.proofs.arena_poly.ArenaPoly+D.add_at.Goals as goal

pub invariant_of-self : goal.invariant_of-self
invariant_of-self g c =
    all_after_at c.add_at.result c.self.inside.table c.add_at.new.self _ _ c.self.inside.order c.self.invariant
    c.add_at.ensures.added c.add_at.ensures.unchanged c.args.place
    (ap (λ (p : TrackedOf g.row.D). slice_get p.tracked.met c.args.place) c.self.view_is ∙ c.requires.there)
