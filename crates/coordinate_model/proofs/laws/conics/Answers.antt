-- Brackets and six-point polynomials of values have the values of those of their coordinates.
use Rattle.coordinate_model.proofs.ConicLaws.{bracket_of_values_law, conic_of_values_law}
use Rattle.coordinate_model.proofs.laws.conics.Goals as goal

pub returns-clause-brackets : goal.returns-clause-brackets
returns-clause-brackets c = bracket_of_values_law

pub returns-clause-six_points : goal.returns-clause-six_points
returns-clause-six_points c = conic_of_values_law
