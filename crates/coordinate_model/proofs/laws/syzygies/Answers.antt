-- The van der Waerden sum is zero, in each of its forms.
use Rattle.coordinate_model.proofs.IntegerRing.{integer_ring}
use Rattle.coordinate_model.proofs.PolynomialRing.{polynomial_ring}
use Rattle.coordinate_model.proofs.BracketLaws.{syzygy-law}
use Rattle.coordinate_model.proofs.BracketPolynomialLaws.{syzygy_of_free_points, value_of_syzygy, value_of_multiple}
use Rattle.coordinate_model.proofs.laws.syzygies.Goals as goal

pub returns-clause-integers : goal.returns-clause-integers
returns-clause-integers c = syzygy-law integer_ring

pub returns-clause-points : goal.returns-clause-points
returns-clause-points c = syzygy-law polynomial_ring

pub returns-clause-free_points : goal.returns-clause-free_points
returns-clause-free_points c = syzygy_of_free_points

pub returns-clause-collected : goal.returns-clause-collected
returns-clause-collected c = value_of_syzygy

pub returns-clause-multiples : goal.returns-clause-multiples
returns-clause-multiples c = value_of_multiple
