-- Least numbers with which a polynomial is not zero.
use Rattle.coordinate_model.proofs.LeastNumbers.{has_least_number, least_number_bound, has_least_numbers}
use Rattle.coordinate_model.proofs.LeastNumbers.{least_numbers_bound}
use Rattle.coordinate_model.proofs.NonzeroPlacements.{least_numbers_value}
use Rattle.coordinate_model.proofs.laws.least_numbers.Goals as goal

pub returns-clause-number : goal.returns-clause-number
returns-clause-number c = has_least_number

pub returns-clause-bound : goal.returns-clause-bound
returns-clause-bound c = least_number_bound

pub returns-clause-numbers : goal.returns-clause-numbers
returns-clause-numbers c = has_least_numbers

pub returns-clause-bounds : goal.returns-clause-bounds
returns-clause-bounds c = least_numbers_bound

pub returns-clause-value : goal.returns-clause-value
returns-clause-value c = least_numbers_value
