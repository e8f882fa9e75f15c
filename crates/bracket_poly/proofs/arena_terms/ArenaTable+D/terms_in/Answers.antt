use Rattle.std.proofs.Common.{sym, ap, subst, ◌∙◌}
use Rattle.coordinate_model.specs.Sums.{Terms}
use Rattle.bracket_poly.specs.Arena.{HasAll, terms_at}
use Rattle.bracket_poly.specs.Kept.{TrackedOf}
use Rattle.bracket_poly.proofs.ArenaOrder.{terms_are}
use Rattle.bracket_poly.proofs.arena_terms.ArenaTable+D.terms_in.Goals as goal

pub returns : goal.returns
returns g c =
    let entries : Terms _ = c.self.inside.met.entries in
    ap (λ ks. terms_at entries ks) c.walk.ensures.keys
    ∙ terms_are entries c.args.order.now c.self.inside.formed.once c.walk.ensures.ascending
    (subst (λ (p : TrackedOf g.row.D). HasAll c.args.order.now p.tracked.met) (sym c.self.view_is) c.requires)
    ∙ ap (λ (p : TrackedOf g.row.D). p.tracked.sum.terms) c.self.view_is
