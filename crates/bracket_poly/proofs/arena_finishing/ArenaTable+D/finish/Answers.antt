use Rattle.std.proofs.Common.{◌∙◌}
use Rattle.bracket_poly.specs.Arena.{seen}
use Rattle.bracket_poly.specs.Kept.{same_tracked}
use Rattle.bracket_poly.proofs.TrackedLaws.{kept_by, same_lists}
use Rattle.bracket_poly.proofs.arena_finishing.ArenaTable+D.finish.Goals as goal

pub invariant_of-result : goal.invariant_of-result
invariant_of-result g c =
    (kept_by g.row.D (seen c.self.inside.met.entries) _ _ c.self.inside.formed c.in_ok-terms.ensures c.in_ok-met.ensures, tt)

pub returns-clause-poly : goal.returns-clause-poly
returns-clause-poly g c =
    same_tracked g.row.D _ _ (same_lists _ _ c.in_ok-terms.ensures c.in_ok-met.ensures) ∙ c.self.view_is
