-- Coordinate polynomials are a commutative ring, and equal where every coefficient is.
use Rattle.coordinate_model.proofs.PolynomialRing.{polynomial_ring}
use Rattle.coordinate_model.proofs.Coefficients.{same_polynomials}
use Rattle.coordinate_model.proofs.laws.polynomials.Goals as goal

pub returns-clause-ring : goal.returns-clause-ring
returns-clause-ring c = polynomial_ring

pub returns-clause-same : goal.returns-clause-same
returns-clause-same c = same_polynomials
