-- The order of monomials, and the greatest monomial of a standard key.
use Rattle.coordinate_model.proofs.Coefficients.{lexicographic_order, greatest_of_key, one_key}
use Rattle.coordinate_model.proofs.laws.greatest_monomials.Goals as goal

pub returns-clause-order : goal.returns-clause-order
returns-clause-order c = lexicographic_order

pub returns-clause-greatest : goal.returns-clause-greatest
returns-clause-greatest c = greatest_of_key

pub returns-clause-one : goal.returns-clause-one
returns-clause-one c = one_key
