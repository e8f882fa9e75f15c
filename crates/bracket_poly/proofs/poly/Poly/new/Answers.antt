use Rattle.bracket_poly.specs.Tracked.{nothing}
use Rattle.bracket_poly.proofs.TrackedLaws.{same_lists}
use Rattle.bracket_poly.proofs.poly.Poly.new.Goals as goal

pub returns : goal.returns
returns g c = same_lists _ nothing c.new.ensures.empty c.new-2.ensures.empty
