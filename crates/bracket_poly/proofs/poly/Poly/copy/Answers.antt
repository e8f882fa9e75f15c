use Rattle.std.proofs.Common.{◌∙◌}
use Rattle.bracket_poly.specs.Kept.{same_tracked}
use Rattle.bracket_poly.proofs.TrackedLaws.{same_lists}
use Rattle.bracket_poly.proofs.poly.Poly.copy.Goals as goal

pub returns : goal.returns
returns g c =
    same_tracked g.row.D _ _ (same_lists _ _ c.in_ok-copied_terms.ensures c.in_ok-copied_keys.ensures) ∙ c.self.view_is
