-- A bracket by its sorted points, where it is zero, and its value.
use Rattle.coordinate_model.proofs.BracketPolynomialLaws.{sorted_bracket_law, value_of_sorted}
use Rattle.coordinate_model.proofs.ZeroBrackets.{zero_bracket_law, nonzero_bracket_law}
use Rattle.coordinate_model.proofs.laws.sorted_brackets.Goals as goal

pub returns-clause-sorted : goal.returns-clause-sorted
returns-clause-sorted c = sorted_bracket_law

pub returns-clause-zero : goal.returns-clause-zero
returns-clause-zero c = zero_bracket_law

pub returns-clause-value : goal.returns-clause-value
returns-clause-value c = value_of_sorted

pub returns-clause-increasing : goal.returns-clause-increasing
returns-clause-increasing c = nonzero_bracket_law
