-- Combinations, joins and meets of values have the coordinates of those objects.
use Rattle.coordinate_model.proofs.ValueLaws.{combination_of_values, join_of_values, meet_of_values}
use Rattle.coordinate_model.proofs.laws.objects.Goals as goal

pub returns-clause-combinations : goal.returns-clause-combinations
returns-clause-combinations c = combination_of_values

pub returns-clause-joins : goal.returns-clause-joins
returns-clause-joins c = join_of_values

pub returns-clause-meets : goal.returns-clause-meets
returns-clause-meets c = meet_of_values
