-- Values in a ring keep the operations, and what keeps them keeps all that is made by them.
use Rattle.coordinate_model.specs.Ring.{Integers}
use Rattle.coordinate_model.specs.Polynomial.{Polynomials}
use Rattle.coordinate_model.proofs.IntegerRing.{integer_ring}
use Rattle.coordinate_model.proofs.PolynomialRing.{polynomial_ring, value_in-operations, evaluates}
use Rattle.coordinate_model.proofs.Hom.{hom_keeps}
use Rattle.coordinate_model.proofs.laws.evaluations.Goals as goal

pub returns-clause-integers : goal.returns-clause-integers
returns-clause-integers c = evaluates Integers integer_ring

pub returns-clause-polynomials : goal.returns-clause-polynomials
returns-clause-polynomials c = evaluates Polynomials polynomial_ring

pub returns-clause-placed : goal.returns-clause-placed
returns-clause-placed c at = hom_keeps Polynomials Integers (value_in-operations Integers integer_ring at)

pub returns-clause-put_in : goal.returns-clause-put_in
returns-clause-put_in c at = hom_keeps Polynomials Polynomials (value_in-operations Polynomials polynomial_ring at)
