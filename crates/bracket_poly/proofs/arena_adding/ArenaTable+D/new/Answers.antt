use Rattle.std.proofs.Common.{ap, subst, sym, ◌∙◌}
use Rattle.coordinate_model.specs.Sums.{Terms}
use Rattle.coordinate_model.specs.Key.{Key}
use Rattle.bracket_poly.specs.Kept.{IsTracked}
use Rattle.bracket_poly.specs.Arena.{seen}
use Rattle.bracket_poly.proofs.ArenaLaws.{seen_nothing, nothing_formed}
use Rattle.bracket_poly.proofs.arena_adding.ArenaTable+D.new.Goals as goal

pub invariant_of-result : goal.invariant_of-result
invariant_of-result g c =
    (subst (λ (es : Terms Key). IsTracked g.row.D (seen es)) (sym c.new.ensures.empty) (nothing_formed g.row.D c.requires.rank), tt)

pub returns : goal.returns
returns g c = ap seen c.new.ensures.empty ∙ seen_nothing
