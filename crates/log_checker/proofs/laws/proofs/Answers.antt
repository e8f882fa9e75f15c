use Rattle.log_checker.proofs.ProgramMeaning.{proof_concludes}
use Rattle.log_checker.proofs.ProofDecisions.{proof_not_both, one_refusal, proof_either}
use Rattle.log_checker.proofs.RefusalBounds.{refusal_is_within}
use Rattle.log_checker.proofs.laws.proofs.Goals as goal

pub returns-clause-not_both : goal.returns-clause-not_both
returns-clause-not_both c = proof_not_both

pub returns-clause-one_refusal : goal.returns-clause-one_refusal
returns-clause-one_refusal c = one_refusal

pub returns-clause-either : goal.returns-clause-either
returns-clause-either c = proof_either

pub returns-clause-concludes : goal.returns-clause-concludes
returns-clause-concludes c = proof_concludes c.sections.ensures.value

pub returns-clause-within : goal.returns-clause-within
returns-clause-within c = refusal_is_within c.homogeneous_syzygies.ensures.multiples
