-- The status of an answer is the one that has a cause; so is the status of a call, but for faults and want of memory.
use Rattle.std.proofs.Common.{◌≡◌, ℕ, ◌⊎◌, inl, inr, List, codes, Option, Some, None, refl, sym, ap, subst, ◌∙◌}
use Rattle.cay_base.specs.Bytes.{Gains}
use Rattle.cay_base.specs.Causes.{Rose}
use Rattle.straightening.specs.Runs as turns
use Rattle.proof_text.specs.Lines.{text_of}
use Rattle.cayley_run.specs.Bounds.{RunIsWithin}
use Rattle.cayley_run.specs.RunLaws.{RunMeans}
use Rattle.log_checker.specs.ProofLaws.{AcceptedProofConcludes}
use Rattle.prover.specs.declared.mode.Mode.{Mode}
use Rattle.prover.specs.declared.mode.Mode.TheVariants as mode
use Rattle.prover.specs.declared.status.Status.{Status}
use Rattle.prover.specs.declared.status.Status.TheVariants.{Proved, Done, Refuted, Usage, TextRefused, Stopped}
use Rattle.prover.specs.declared.status.Status.TheVariants.{ReadFault, WriteFault, Memory, ProofRefused, Unlike}
use Rattle.prover.specs.Answer.{Answer, usage, refused}
use Rattle.prover.specs.Modes.{IsAnswer, IsModeAnswer, IsModeCause, IsCause, StatusHasCause}
use Rattle.prover.specs.Modes.Sample.{IsSampleCause, run_status, sample_answer, sample_log}
use Rattle.prover.specs.Outcome.{Answers, ComesExactly, IsBrokenOff, IsComplete, Writes, Written, IsTold}
use Rattle.prover.proofs.AnswerLaws.{one_answer}
use Rattle.prover.proofs.CheckCauses.{check_cause, check_answer}
use Rattle.prover.proofs.Outcomes.{IsAnswered}
use Rattle.prover.proofs.ProveCauses.{prove_cause, prove_answer}
use Rattle.prover.proofs.SameCauses.{same_cause, same_answer}

-- ---- samples

sample_cause : (number budget : ℕ) → IsSampleCause number budget (sample_answer number budget).status
sample_cause number budget = by_stop (sample_log number budget).stop refl
  where
    by_stop : (o : Option turns.Stop) → (sample_log number budget).stop ≡ o
        → IsSampleCause number budget (sample_answer number budget).status
    by_stop (Some stop) e = subst (IsSampleCause number budget) (sym (ap run_status e)) (stop, e)
    by_stop None e = subst (IsSampleCause number budget) (sym (ap run_status e)) e

sample_has : (number budget : ℕ) (s : Status) → IsSampleCause number budget s → (sample_answer number budget).status ≡ s
sample_has number budget Stopped (stop, e) = ap run_status e
sample_has number budget Done e = ap run_status e
sample_has number budget Proved is = absurd is
sample_has number budget Refuted is = absurd is
sample_has number budget Usage is = absurd is
sample_has number budget TextRefused is = absurd is
sample_has number budget ReadFault is = absurd is
sample_has number budget WriteFault is = absurd is
sample_has number budget Memory is = absurd is
sample_has number budget ProofRefused is = absurd is
sample_has number budget Unlike is = absurd is

-- ---- answers

module _ (means : RunMeans) (within : RunIsWithin) (concludes : AcceptedProofConcludes) where
  mode_cause : (m : Mode) (input : List ℕ) (a : Answer) → IsModeAnswer m input a → IsModeCause m input a.status
  mode_cause (mode.Prove options) input a is = prove_cause means options input a is
  mode_cause mode.Check input a is = check_cause concludes input a is
  mode_cause (mode.Same options) input a is = same_cause means within options input a is
  mode_cause (mode.Sample number budget) input a is = rw is (sample_cause number budget)

  mode_answer : (m : Mode) (input : List ℕ) (s : Status) → IsModeCause m input s
      → (a : Answer) × IsModeAnswer m input a × (a.status ≡ s)
  mode_answer (mode.Prove options) input s is = prove_answer means options input s is
  mode_answer mode.Check input s is = check_answer concludes input s is
  mode_answer (mode.Same options) input s is = same_answer means within options input s is
  mode_answer (mode.Sample number budget) input s is =
      (sample_answer number budget, refl, sample_has number budget s is)

  module _ (words : List (List ℕ)) (input : List ℕ) where
    cause_of : (a : Answer) → IsAnswer words input a → IsCause words input a.status
    cause_of a (inl (none, e)) = inl (none, ap (λ (x : Answer). x.status) e)
    cause_of a (inr (m, is, inl (long, e))) = inr (m, is, inl (long, ap (λ (x : Answer). x.status) e))
    cause_of a (inr (m, is, inr (short, answer))) = inr (m, is, inr (short, mode_cause m input a answer))

    answer_of : (s : Status) → IsCause words input s → (a : Answer) × IsAnswer words input a × (a.status ≡ s)
    answer_of s (inl (none, e)) = (usage, inl (none, refl), sym e)
    answer_of s (inr (m, is, inl (long, e))) = (refused (codes "long"), inr (m, is, inl (long, refl)), sym e)
    answer_of s (inr (m, is, inr (short, cause))) =
        let found = mode_answer m input s cause in (found.0, inr (m, is, inr (short, found.1)), found.2)

  pub status_has_cause : StatusHasCause
  status_has_cause words input a status is = (
    λ e. subst (IsCause words input) e (cause_of words input a is),
    λ cause. let found = answer_of words input status cause in
        ap (λ (x : Answer). x.status) (one_answer words input a found.0 is found.1) ∙ found.2,
  )

-- ---- calls

-- a call that is not broken off answers the status of its answer, and writes all of it
told_whole : (a : Answer) (r : Status) (before after : Option (List ℕ)) → Writes a r before after
    → IsBrokenOff r ⊎ ((a.status ≡ r) × Gains before after (text_of a.lines))
told_whole a ReadFault before after writes = inl (inl refl)
told_whole a WriteFault before after writes = inl (inr (inl refl))
told_whole a Memory before after writes = inl (inr (inr refl))
told_whole a Proved before after writes = inr writes
told_whole a Done before after writes = inr writes
told_whole a Refuted before after writes = inr writes
told_whole a Usage before after writes = inr writes
told_whole a TextRefused before after writes = inr writes
told_whole a Stopped before after writes = inr writes
told_whole a ProofRefused before after writes = inr writes
told_whole a Unlike before after writes = inr writes

not_broken : (s : Status) → IsAnswered s → IsBrokenOff s → ⊥
not_broken s is (inl e) = subst IsAnswered e is
not_broken s is (inr (inl e)) = subst IsAnswered e is
not_broken s is (inr (inr e)) = subst IsAnswered e is

module _ (words : List (List ℕ)) (left before after : Option (List ℕ)) (result : Status) where
  abbrev IsWhole : Answer → Type 0
  IsWhole a = IsBrokenOff result ⊎ ((a.status ≡ result) × Gains before after (text_of a.lines))

  pub comes_exactly : StatusHasCause → (s : Status) → IsAnswered s → Answers words left before after result
      → ComesExactly words left result s
  comes_exactly law s is call = record {
    input = call.input;
    is_input = call.is_input;
    only = λ e. (law words call.input call.answer s call.is_answer).0 (whole (told_whole call.answer result before after call.writes) e);
    wherever = λ cause. or_broken (told_whole call.answer result before after call.writes)
        ((law words call.input call.answer s call.is_answer).1 cause);
  }
    where
      whole : IsWhole call.answer → result ≡ s → call.answer.status ≡ s
      whole (inl broken) e = absurd (not_broken s is (subst IsBrokenOff e broken))
      whole (inr all) e = all.0 ∙ e

      or_broken : IsWhole call.answer → call.answer.status ≡ s → (result ≡ s) ⊎ IsBrokenOff result
      or_broken (inl broken) e = inr broken
      or_broken (inr all) e = inl (sym all.0 ∙ e)

  -- where no count of faults rose
  pub is_complete : (i j k l : ℕ) → (result ≡ ReadFault → Rose i j) → (result ≡ WriteFault → Rose k l) → (Rose i j → ⊥)
      → (Rose k l → ⊥) → Answers words left before after result → IsComplete words left before after result
  is_complete i j k l read write no_read no_write call = record {
    input = call.input;
    is_input = call.is_input;
    answer = call.answer;
    is_answer = call.is_answer;
    whole = go (told_whole call.answer result before after call.writes);
  }
    where
      go : IsWhole call.answer → (result ≡ Memory) ⊎ ((result ≡ call.answer.status) × Gains before after (text_of call.answer.lines))
      go (inl (inl e)) = absurd (no_read (read e))
      go (inl (inr (inl e))) = absurd (no_write (write e))
      go (inl (inr (inr e))) = inl e
      go (inr all) = inr (sym all.0, all.1)

-- the usage line is not put only where the count of the sink rose
pub usage_rose : (a : Answer) (result : Status) (before after : Option (List ℕ)) (i j : ℕ) → IsAnswered a.status
    → Written a result before after i j → result ≡ WriteFault → Rose i j
usage_rose a result before after i j is written e = go written.told
  where
    go : IsTold a result before after i j → Rose i j
    go (inl put) = absurd (subst IsAnswered (sym put.0 ∙ e) is)
    go (inr (inl put)) = put.2
    go (inr (inr put)) = absurd (other (sym put.0 ∙ e))
      where
        other : Memory ≡ WriteFault → ⊥
        other e = cc

-- nor is it read for
pub no_read_fault : (r : Status) → r ≡ ReadFault → (r ≡ Usage) ⊎ (r ≡ WriteFault) → ⊥
no_read_fault r e (inl is) = absurd (other (sym e ∙ is))
  where
    other : ReadFault ≡ Usage → ⊥
    other e = cc
no_read_fault r e (inr is) = absurd (other (sym e ∙ is))
  where
    other : ReadFault ≡ WriteFault → ⊥
    other e = cc
