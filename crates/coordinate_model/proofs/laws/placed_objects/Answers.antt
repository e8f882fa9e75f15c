-- Values at a placement keep what is made by the operations.
use Rattle.coordinate_model.proofs.PlacementLaws.{value_of_bracket, keeps_brackets, keeps_extensors, keeps_joins}
use Rattle.coordinate_model.proofs.PlacementLaws.{keeps_meets, keeps_combinations, keeps_six_point}
use Rattle.coordinate_model.proofs.laws.placed_objects.Goals as goal

pub returns-clause-free_brackets : goal.returns-clause-free_brackets
returns-clause-free_brackets c = value_of_bracket

pub returns-clause-brackets : goal.returns-clause-brackets
returns-clause-brackets c = keeps_brackets

pub returns-clause-extensors : goal.returns-clause-extensors
returns-clause-extensors c = keeps_extensors

pub returns-clause-joins : goal.returns-clause-joins
returns-clause-joins c = keeps_joins

pub returns-clause-meets : goal.returns-clause-meets
returns-clause-meets c = keeps_meets

pub returns-clause-combinations : goal.returns-clause-combinations
returns-clause-combinations c = keeps_combinations

pub returns-clause-six_points : goal.returns-clause-six_points
returns-clause-six_points c = keeps_six_point
