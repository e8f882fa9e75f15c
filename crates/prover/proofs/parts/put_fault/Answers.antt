use Rattle.proof_text.proofs.Writing.{writes_none}
use Rattle.prover.proofs.parts.put_fault.Goals as goal

pub returns-in_err-text : goal.returns-in_err-text
returns-in_err-text g c = writes_none _ _ _ _ c.from_residual.ensures.1
