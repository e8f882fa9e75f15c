-- Values at a placement keep the operations.
use Rattle.coordinate_model.proofs.PolynomialRing.{value_at-hom}
use Rattle.coordinate_model.proofs.PlacementLaws.{value_of_zero, value_of_variable}
use Rattle.coordinate_model.proofs.laws.placements.Goals as goal

pub returns-clause-zero : goal.returns-clause-zero
returns-clause-zero c = value_of_zero

pub returns-clause-variables : goal.returns-clause-variables
returns-clause-variables c = value_of_variable

pub returns-clause-operations : goal.returns-clause-operations
returns-clause-operations c = value_at-hom
