-- Syzygies and their multiples are homogeneous.
use Rattle.coordinate_model.proofs.Homogeneous.{points_of_syzygy, points_of_multiple}
use Rattle.coordinate_model.proofs.laws.homogeneous_syzygies.Goals as goal

pub returns-clause-collected : goal.returns-clause-collected
returns-clause-collected c = points_of_syzygy

pub returns-clause-multiples : goal.returns-clause-multiples
returns-clause-multiples c = points_of_multiple
