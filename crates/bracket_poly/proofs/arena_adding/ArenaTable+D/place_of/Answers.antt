use Rattle.std.proofs.Common.{ap, subst, ◌∙◌, slice_get}
use Rattle.std.specs.Prelude.{position, is_some, Some, false, IfSome, IfNone, ◌≡◌}
use Rattle.std.specs.Map.{lookup}
use Rattle.coordinate_model.specs.Sums.{Terms}
use Rattle.coordinate_model.specs.Key.{Key}
use Rattle.bracket_poly.specs.Arena.{key_of}
use Rattle.bracket_poly.specs.Kept.{TrackedOf}
use Rattle.bracket_poly.specs.Tracked.{has_met}
use Rattle.bracket_poly.proofs.ArenaLaws.{same}
use Rattle.bracket_poly.proofs.ArenaOrder.{found_there, found_none}
use Rattle.bracket_poly.proofs.ArenaSteps.{keys}
use Rattle.bracket_poly.proofs.arena_adding.ArenaTable+D.place_of.Goals as goal

pub returns-clause-there : goal.returns-clause-there
returns-clause-there g c =
    let k : Key = key_of c.args.params.now c.args.rows.now in
    let entries : Terms Key = c.self.inside.met.entries in
    subst (λ (p : TrackedOf g.row.D). IfSome c.get_index_of.result (λ place. slice_get p.tracked.met place ≡ Some k)) c.self.view_is
    (found_there c.get_index_of.result (keys entries) k
    (c.get_index_of.ensures.index ∙ ap (λ l. position (same l) (keys entries)) c.of.ensures))

pub returns-clause-none : goal.returns-clause-none
returns-clause-none g c =
    let k : Key = key_of c.args.params.now c.args.rows.now in
    let entries : Terms Key = c.self.inside.met.entries in
    subst (λ (p : TrackedOf g.row.D). IfNone c.get_index_of.result (has_met p.tracked.met k ≡ false)) c.self.view_is
    (found_none c.get_index_of.result entries k
    (c.get_index_of.ensures.found ∙ ap (λ l. is_some (lookup (same l) entries)) c.of.ensures))
