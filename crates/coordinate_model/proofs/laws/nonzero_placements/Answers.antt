-- A placement within the degrees at which the value is not 0.
use Rattle.coordinate_model.proofs.NonzeroPlacements.{has_nonzero_placement, zero_everywhere}
use Rattle.coordinate_model.proofs.laws.nonzero_placements.Goals as goal

pub returns-clause-placement : goal.returns-clause-placement
returns-clause-placement c = has_nonzero_placement

pub returns-clause-everywhere : goal.returns-clause-everywhere
returns-clause-everywhere c = zero_everywhere
