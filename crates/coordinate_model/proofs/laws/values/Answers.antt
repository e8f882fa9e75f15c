-- The value of a bracket polynomial keeps sums and products.
use Rattle.coordinate_model.proofs.BracketPolynomialLaws.{value-hom, value_of_sum, value_of_product}
use Rattle.coordinate_model.proofs.laws.values.Goals as goal

pub returns-clause-sum : goal.returns-clause-sum
returns-clause-sum c = value_of_sum

pub returns-clause-product : goal.returns-clause-product
returns-clause-product c = value_of_product

pub returns-clause-all : goal.returns-clause-all
returns-clause-all c = value-hom
