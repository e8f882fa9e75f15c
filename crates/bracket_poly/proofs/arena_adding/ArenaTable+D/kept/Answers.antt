use Rattle.std.proofs.Common.{◌∙◌, sym}
use Rattle.bracket_poly.proofs.ArenaSteps.{same_params}
use Rattle.bracket_poly.proofs.arena_adding.ArenaTable+D.kept.Goals as goal

pub returns-then-eq : goal.returns-then-eq
returns-then-eq g c =
    c.params-then-eq.ensures ∙ sym c.params.ensures ∙ same_params c.params.result.now c.args.params.now (sym c.eq.ensures ∙ c.if-eq.true)
