-- Equal values make equal normal bracket polynomials.
use Rattle.coordinate_model.proofs.Coefficients.{independent}
use Rattle.coordinate_model.proofs.laws.independence.Goals as goal

pub returns : goal.returns
returns c = independent
