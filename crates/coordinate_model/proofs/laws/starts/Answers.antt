-- The starts of joins, meets and combinations have the coordinates of those objects.
use Rattle.coordinate_model.proofs.BracketPolynomialLaws.{value_of_parameter}
use Rattle.coordinate_model.proofs.StartLaws.{starts_of_join, starts_of_meet, starts_of_on, zero_entries}
use Rattle.coordinate_model.proofs.laws.starts.Goals as goal

pub returns-clause-joins : goal.returns-clause-joins
returns-clause-joins c = starts_of_join

pub returns-clause-meets : goal.returns-clause-meets
returns-clause-meets c = starts_of_meet

pub returns-clause-combinations : goal.returns-clause-combinations
returns-clause-combinations c = starts_of_on

pub returns-clause-parameters : goal.returns-clause-parameters
returns-clause-parameters c = value_of_parameter

pub returns-clause-zeros : goal.returns-clause-zeros
returns-clause-zeros c = zero_entries
