use Rattle.std.proofs.Common.{rules, ◌≡◌, sym, ap, refl, ◌∙◌, true≢false}
use Rattle.std.proofs.lemmas.Option.{slice_get_within}
use Rattle.term_arena.specs.Stores.{has_rows}
use Rattle.bracket_poly.specs.Arena.{meets_rows}
use Rattle.bracket_poly.specs.Kept.{TrackedOf}
use Rattle.bracket_poly.proofs.ArenaRows.{has-tableaux}
use Rattle.bracket_poly.proofs.ArenaSteps.{keys}
use Rattle.bracket_poly.proofs.arena_adding.ArenaTable+D.row_view.Goals as goal

pub view-requires : goal.view-requires
view-requires g c =
    (search rules, (search rules, slice_get_within c.self.inside.store c.in-Some.id.0 c.args.rows.now c.in-Some.ensures.there))

pub returns-in-Some-clause-none : goal.returns-in-Some-clause-none
returns-in-Some-clause-none g c =
    let same : has_rows c.self.inside.store c.args.rows.now ≡ meets_rows c.args.self.now.tracked.met c.args.rows.now =
    ap (λ s. has_rows s c.args.rows.now) c.self.invariant ∙ has-tableaux (keys c.self.inside.met.entries) c.args.rows.now
    ∙ ap (λ (p : TrackedOf g.row.D). meets_rows p.tracked.met c.args.rows.now) c.self.view_is in
    (λ e. absurd (true≢false e), λ h. c.in-Some.ensures.absent.1 (same ∙ h))

pub returns-in-None-clause-none : goal.returns-in-None-clause-none
returns-in-None-clause-none g c =
    let same : has_rows c.self.inside.store c.args.rows.now ≡ meets_rows c.args.self.now.tracked.met c.args.rows.now =
    ap (λ s. has_rows s c.args.rows.now) c.self.invariant ∙ has-tableaux (keys c.self.inside.met.entries) c.args.rows.now
    ∙ ap (λ (p : TrackedOf g.row.D). meets_rows p.tracked.met c.args.rows.now) c.self.view_is in
    (λ e. sym same ∙ c.in-None.ensures.absent.0 refl, λ h. refl)
