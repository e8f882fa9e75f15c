use Rattle.std.proofs.Common.{◌∙◌}
use Rattle.bracket_poly.specs.Arena.{key_of}
use Rattle.bracket_poly.proofs.KeyParts.{same_parts}
use Rattle.bracket_poly.proofs.arena_adding.ArenaTable+D.placed.Goals as goal

pub returns : goal.returns
returns g c =
    c.of.ensures ∙ same_parts _ (key_of c.args.params.now c.args.rows.now) c.in_ok-params.ensures c.in_ok-rows.ensures
