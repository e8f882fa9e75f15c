-- Bracket polynomials with numbers put in for some parameters.
use Rattle.coordinate_model.proofs.WeightLaws.{value_of_special, special_is_normal}
use Rattle.coordinate_model.proofs.laws.weights.Goals as goal

pub returns-clause-value : goal.returns-clause-value
returns-clause-value c = value_of_special

pub returns-clause-normal : goal.returns-clause-normal
returns-clause-normal c = special_is_normal
