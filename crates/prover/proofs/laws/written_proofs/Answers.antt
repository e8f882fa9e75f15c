use Rattle.prover.proofs.WrittenAnswers.{written_is_accepted, written_is_checked}
use Rattle.prover.proofs.WrittenProofs.{run_is_accepted, run_is_proof}
use Rattle.prover.proofs.laws.written_proofs.Goals as goal

pub returns-clause-run : goal.returns-clause-run
returns-clause-run c = run_is_accepted

pub returns-clause-told : goal.returns-clause-told
returns-clause-told c = run_is_proof c.runs.ensures.means

pub returns-clause-accepted : goal.returns-clause-accepted
returns-clause-accepted c = written_is_accepted c.runs.ensures.means

pub returns-clause-checked : goal.returns-clause-checked
returns-clause-checked c = written_is_checked c.runs.ensures.means
