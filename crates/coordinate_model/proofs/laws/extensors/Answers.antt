-- Extensors alternate, and that of d points is their bracket.
use Rattle.coordinate_model.specs.Polynomial.{Polynomials, free_point}
use Rattle.coordinate_model.proofs.IntegerRing.{integer_ring}
use Rattle.coordinate_model.proofs.PolynomialRing.{polynomial_ring}
use Rattle.coordinate_model.proofs.Alternating.{extensor-sorted, extensor-repeats}
use Rattle.coordinate_model.proofs.JoinLaws.{full-extensor, join_bracket-points}
use Rattle.coordinate_model.proofs.laws.extensors.Goals as goal

pub returns-clause-sorted : goal.returns-clause-sorted
returns-clause-sorted c = extensor-sorted Polynomials polynomial_ring free_point

pub returns-clause-zero : goal.returns-clause-zero
returns-clause-zero c = extensor-repeats Polynomials polynomial_ring free_point

pub returns-clause-brackets : goal.returns-clause-brackets
returns-clause-brackets c = full-extensor polynomial_ring

pub returns-clause-placed : goal.returns-clause-placed
returns-clause-placed c = join_bracket-points integer_ring

pub returns-clause-objects : goal.returns-clause-objects
returns-clause-objects c = join_bracket-points polynomial_ring
