-- Bracket polynomials: equality, ring laws, coefficients and closure.
use Rattle.coordinate_model.proofs.KeySumLaws.{key_sum_laws}
use Rattle.coordinate_model.proofs.Closure.{makes_bracket_polynomials}
use Rattle.coordinate_model.proofs.Coefficients.{same_bracket_polynomials, has_coefficients}
use Rattle.coordinate_model.proofs.laws.bracket_polynomials.Goals as goal

pub returns-clause-same : goal.returns-clause-same
returns-clause-same c = same_bracket_polynomials

pub returns-clause-coefficients : goal.returns-clause-coefficients
returns-clause-coefficients c = has_coefficients

pub returns-clause-made : goal.returns-clause-made
returns-clause-made c = makes_bracket_polynomials

pub returns-clause-ring : goal.returns-clause-ring
returns-clause-ring c = key_sum_laws
