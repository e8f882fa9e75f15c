-- The shuffle product has the coordinates of the meet, and meets are bilinear.
use Rattle.coordinate_model.specs.Polynomial.{Polynomials}
use Rattle.coordinate_model.proofs.IntegerRing.{integer_ring}
use Rattle.coordinate_model.proofs.PolynomialRing.{polynomial_ring}
use Rattle.coordinate_model.proofs.BracketLaws.{shuffle-law}
use Rattle.coordinate_model.proofs.Agreement.{same-meets}
use Rattle.coordinate_model.proofs.Bilinear.{linear-meets}
use Rattle.coordinate_model.proofs.MeetValues.{meet_value_law}
use Rattle.coordinate_model.proofs.laws.meets.Goals as goal

pub returns-clause-integers : goal.returns-clause-integers
returns-clause-integers c = shuffle-law integer_ring

pub returns-clause-points : goal.returns-clause-points
returns-clause-points c = shuffle-law polynomial_ring

pub returns-clause-free_points : goal.returns-clause-free_points
returns-clause-free_points c = meet_value_law

pub returns-clause-linear : goal.returns-clause-linear
returns-clause-linear c = linear-meets Polynomials polynomial_ring

pub returns-clause-same : goal.returns-clause-same
returns-clause-same c = same-meets Polynomials
