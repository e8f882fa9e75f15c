-- Degrees, and products that are not zero.
use Rattle.coordinate_model.proofs.Degrees.{is_degree}
use Rattle.coordinate_model.proofs.Factors.{nonzero_product}
use Rattle.coordinate_model.proofs.NonzeroPlacements.{value_without_variables}
use Rattle.coordinate_model.proofs.laws.degrees.Goals as goal

pub returns-clause-degree : goal.returns-clause-degree
returns-clause-degree c = is_degree

pub returns-clause-product : goal.returns-clause-product
returns-clause-product c = nonzero_product

pub returns-clause-constant : goal.returns-clause-constant
returns-clause-constant c = value_without_variables
