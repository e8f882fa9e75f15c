-- The three-term identity of Grassmann and Pluecker.
use Rattle.coordinate_model.proofs.PolynomialRing.{polynomial_ring}
use Rattle.coordinate_model.proofs.ThreeTerms.{three-terms, three_terms_of_free_points}
use Rattle.coordinate_model.proofs.laws.three_terms.Goals as goal

pub returns-clause-points : goal.returns-clause-points
returns-clause-points c = three-terms polynomial_ring

pub returns-clause-free_points : goal.returns-clause-free_points
returns-clause-free_points c = three_terms_of_free_points
