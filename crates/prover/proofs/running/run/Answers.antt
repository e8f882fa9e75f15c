use Rattle.prover.specs.declared.status.Status.TheVariants.{Proved, Done, Refuted, Usage, TextRefused, Stopped}
use Rattle.prover.specs.declared.status.Status.TheVariants.{ProofRefused, Unlike}
use Rattle.prover.proofs.Calls.{mode_answers, usage_answers}
use Rattle.prover.proofs.StatusCauses.{comes_exactly, is_complete, usage_rose, no_read_fault}
use Rattle.prover.proofs.running.run.Goals as goal

pub returns-in-None-clause-answers : goal.returns-in-None-clause-answers
returns-in-None-clause-answers g c = usage_answers _ _ _ _ _ _ _ c.in-None.ensures c.write_usage.ensures.written

pub returns-in-Some-clause-answers : goal.returns-in-Some-clause-answers
returns-in-Some-clause-answers g c = mode_answers _ _ _ _ _ c.in-Some.mode c.in-Some.ensures c.run_mode.ensures.answers

pub returns-in-None-clause-proved : goal.returns-in-None-clause-proved
returns-in-None-clause-proved g c = comes_exactly _ _ _ _ _ c.causes.ensures Proved tt (returns-in-None-clause-answers g c)

pub returns-in-Some-clause-proved : goal.returns-in-Some-clause-proved
returns-in-Some-clause-proved g c = comes_exactly _ _ _ _ _ c.causes.ensures Proved tt (returns-in-Some-clause-answers g c)

pub returns-in-None-clause-refuted : goal.returns-in-None-clause-refuted
returns-in-None-clause-refuted g c = comes_exactly _ _ _ _ _ c.causes.ensures Refuted tt (returns-in-None-clause-answers g c)

pub returns-in-Some-clause-refuted : goal.returns-in-Some-clause-refuted
returns-in-Some-clause-refuted g c = comes_exactly _ _ _ _ _ c.causes.ensures Refuted tt (returns-in-Some-clause-answers g c)

pub returns-in-None-clause-done : goal.returns-in-None-clause-done
returns-in-None-clause-done g c = comes_exactly _ _ _ _ _ c.causes.ensures Done tt (returns-in-None-clause-answers g c)

pub returns-in-Some-clause-done : goal.returns-in-Some-clause-done
returns-in-Some-clause-done g c = comes_exactly _ _ _ _ _ c.causes.ensures Done tt (returns-in-Some-clause-answers g c)

pub returns-in-None-clause-text_refused : goal.returns-in-None-clause-text_refused
returns-in-None-clause-text_refused g c = comes_exactly _ _ _ _ _ c.causes.ensures TextRefused tt (returns-in-None-clause-answers g c)

pub returns-in-Some-clause-text_refused : goal.returns-in-Some-clause-text_refused
returns-in-Some-clause-text_refused g c = comes_exactly _ _ _ _ _ c.causes.ensures TextRefused tt (returns-in-Some-clause-answers g c)

pub returns-in-None-clause-stopped : goal.returns-in-None-clause-stopped
returns-in-None-clause-stopped g c = comes_exactly _ _ _ _ _ c.causes.ensures Stopped tt (returns-in-None-clause-answers g c)

pub returns-in-Some-clause-stopped : goal.returns-in-Some-clause-stopped
returns-in-Some-clause-stopped g c = comes_exactly _ _ _ _ _ c.causes.ensures Stopped tt (returns-in-Some-clause-answers g c)

pub returns-in-None-clause-proof_refused : goal.returns-in-None-clause-proof_refused
returns-in-None-clause-proof_refused g c = comes_exactly _ _ _ _ _ c.causes.ensures ProofRefused tt (returns-in-None-clause-answers g c)

pub returns-in-Some-clause-proof_refused : goal.returns-in-Some-clause-proof_refused
returns-in-Some-clause-proof_refused g c = comes_exactly _ _ _ _ _ c.causes.ensures ProofRefused tt (returns-in-Some-clause-answers g c)

pub returns-in-None-clause-unlike : goal.returns-in-None-clause-unlike
returns-in-None-clause-unlike g c = comes_exactly _ _ _ _ _ c.causes.ensures Unlike tt (returns-in-None-clause-answers g c)

pub returns-in-Some-clause-unlike : goal.returns-in-Some-clause-unlike
returns-in-Some-clause-unlike g c = comes_exactly _ _ _ _ _ c.causes.ensures Unlike tt (returns-in-Some-clause-answers g c)

pub returns-in-None-clause-usage_alone : goal.returns-in-None-clause-usage_alone
returns-in-None-clause-usage_alone g c = comes_exactly _ _ _ _ _ c.causes.ensures Usage tt (returns-in-None-clause-answers g c)

pub returns-in-Some-clause-usage_alone : goal.returns-in-Some-clause-usage_alone
returns-in-Some-clause-usage_alone g c = comes_exactly _ _ _ _ _ c.causes.ensures Usage tt (returns-in-Some-clause-answers g c)

pub returns-in-None-clause-complete : goal.returns-in-None-clause-complete
returns-in-None-clause-complete g c =
    λ no_read no_write. is_complete _ _ _ _ _ _ _ _ _ (λ e. absurd (no_read_fault _ e c.write_usage.ensures.status))
    (usage_rose _ _ _ _ _ _ tt c.write_usage.ensures.written) no_read no_write (returns-in-None-clause-answers g c)

pub returns-in-Some-clause-complete : goal.returns-in-Some-clause-complete
returns-in-Some-clause-complete g c =
    λ no_read no_write. is_complete _ _ _ _ _ _ _ _ _ (λ e. (c.run_mode.ensures.read_fault e).0)
    c.run_mode.ensures.write_fault no_read no_write (returns-in-Some-clause-answers g c)
