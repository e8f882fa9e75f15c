use Rattle.prover.proofs.Outcomes.{puts_none}
use Rattle.prover.proofs.refusals.put_proof_fault.Goals as goal

pub returns-in_err-text-clause-written : goal.returns-in_err-text-clause-written
returns-in_err-text-clause-written g c = puts_none _ _ _ _ c.from_residual.ensures.1
