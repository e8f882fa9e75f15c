use Rattle.prover.proofs.StatusCauses.{status_has_cause}
use Rattle.prover.proofs.laws.causes.Goals as goal

pub returns : goal.returns
returns c = status_has_cause c.runs.ensures.means c.runs.ensures.within c.proofs.ensures.concludes
