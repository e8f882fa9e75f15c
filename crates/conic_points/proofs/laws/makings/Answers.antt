use Rattle.conic_points.proofs.Formed.{conic_formed}
use Rattle.conic_points.proofs.SizeLaws.{made_doubles}
use Rattle.conic_points.proofs.Sums.{bracket_sum, conic_sum}
use Rattle.conic_points.proofs.laws.makings.Goals as goal

pub returns-clause-bracket : goal.returns-clause-bracket
returns-clause-bracket c = bracket_sum

pub returns-clause-conic : goal.returns-clause-conic
returns-clause-conic c = conic_sum

pub returns-clause-formed : goal.returns-clause-formed
returns-clause-formed c = conic_formed

pub returns-clause-sizes : goal.returns-clause-sizes
returns-clause-sizes c = made_doubles
