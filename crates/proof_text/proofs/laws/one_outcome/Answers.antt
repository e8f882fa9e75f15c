use Rattle.proof_text.proofs.OutcomeLaws as laws
use Rattle.proof_text.proofs.laws.one_outcome.Goals as goal

pub returns-clause-one_proof : goal.returns-clause-one_proof
returns-clause-one_proof c = laws.one_proof

pub returns-clause-one_fault : goal.returns-clause-one_fault
returns-clause-one_fault c = laws.one_fault

pub returns-clause-not_both : goal.returns-clause-not_both
returns-clause-not_both c = laws.not_both

pub returns-clause-either : goal.returns-clause-either
returns-clause-either c = laws.either
