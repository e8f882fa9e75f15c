use Rattle.std.proofs.Common.{pos, ◌∙◌, ap, sym}
use mir.Syntax.{w128}
use Rattle.std.specs.Prelude.{unwrap_or}
use Rattle.std.specs.Map.{lookup}
use Rattle.std.proofs.lemmas.Int.{to_z-of_z}
use Rattle.coordinate_model.specs.Sums.{coefficient}
use Rattle.coordinate_model.specs.Key.{Key}
use Rattle.bracket_poly.specs.Arena.{key_of}
use Rattle.bracket_poly.specs.Kept.{TrackedOf}
use Rattle.bracket_poly.proofs.ArenaLaws.{same, looked_up, count_sum}
use Rattle.bracket_poly.proofs.arena_adding.ArenaTable+D.coefficient.Goals as goal

pub returns : goal.returns
returns g c =
    let k : Key = key_of c.args.params.now c.args.rows.now in
    to_z-of_z w128 _ (record { sfits = c.unwrap_or.type_inv }) ∙ c.unwrap_or.ensures
    ∙ ap (λ o. unwrap_or o (pos 0)) (c.copied.ensures ∙ c.get.ensures.value)
    ∙ ap (λ k. unwrap_or (lookup (same k) c.self.inside.met.entries) (pos 0)) c.of.ensures
    ∙ looked_up k c.self.inside.met.entries c.self.inside.formed.once
    ∙ sym (count_sum k c.self.inside.met.entries)
    ∙ ap (λ (p : TrackedOf g.row.D). coefficient p.tracked.sum k) c.self.view_is
