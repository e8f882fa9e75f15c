-- The join of extensors, and that joins are bilinear.
use Rattle.coordinate_model.specs.Polynomial.{Polynomials}
use Rattle.coordinate_model.proofs.IntegerRing.{integer_ring}
use Rattle.coordinate_model.proofs.PolynomialRing.{polynomial_ring}
use Rattle.coordinate_model.proofs.Agreement.{same-joins}
use Rattle.coordinate_model.proofs.Bilinear.{linear-joins}
use Rattle.coordinate_model.proofs.JoinLaws.{join-law}
use Rattle.coordinate_model.proofs.laws.joins.Goals as goal

pub returns-clause-integers : goal.returns-clause-integers
returns-clause-integers c = join-law integer_ring

pub returns-clause-points : goal.returns-clause-points
returns-clause-points c = join-law polynomial_ring

pub returns-clause-linear : goal.returns-clause-linear
returns-clause-linear c = linear-joins Polynomials polynomial_ring

pub returns-clause-same : goal.returns-clause-same
returns-clause-same c = same-joins Polynomials
