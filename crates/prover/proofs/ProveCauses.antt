-- Why the mode that proves has its status.
use Rattle.std.proofs.Common.{◌≡◌, ◌≢◌, ℕ, Bool, inl, inr, List, [], Option, Some, None, refl, sym, ap, subst, ◌∙◌}
use Rattle.coordinate_model.specs.Polynomial.{Polynomials}
use Rattle.construction_reader.specs.Said.{Account}
use Rattle.construction_reader.proofs.TextAgain.{text_of-unique}
use Rattle.cayley_terms.specs.Meaning.{conclusion_polynomial}
use Rattle.straightening.specs.Runs as turns
use Rattle.cayley_run.specs.RunLaws.{RunMeans}
use Rattle.cayley_run.specs.declared.answer.Options.{Options}
use Rattle.prover.specs.declared.status.Status.{Status}
use Rattle.prover.specs.declared.status.Status.TheVariants.{Proved, Done, Refuted, Usage, TextRefused, Stopped}
use Rattle.prover.specs.declared.status.Status.TheVariants.{ReadFault, WriteFault, Memory, ProofRefused, Unlike}
use Rattle.prover.specs.Answer.{Answer}
use Rattle.prover.specs.Modes.Prove.{IsProveAnswer, IsProveCause, ProveDecides, proof_answer, last_status, verdict}
use Rattle.prover.specs.Parts.{Gives, refused_at}
use Rattle.prover.specs.Runs.{log_of, ends_in_zero, ComesToEnd}
use Rattle.prover.proofs.ConstructionRuns.{answer_decides}
use Rattle.prover.proofs.VerdictCauses.{by_verdict, is_proved, is_refuted, not_proved, not_refuted}

module _ (means : RunMeans) (options : Options) (text : List ℕ) where
  abbrev zero : Account → Bool
  zero c = ends_in_zero (log_of options c).objects

  at_end : (c : Account) → ComesToEnd options c → (proof_answer options c).status ≡ verdict (zero c)
  at_end c e = ap (last_status (log_of options c).objects) e

  decides : (c : Account) → Gives text c → ComesToEnd options c → ProveDecides text (proof_answer options c)
  decides c gives e = answer_decides c gives.good gives.gives.good options means e text gives.gives

  proved_so : (c : Account) → Gives text c → ComesToEnd options c → (proof_answer options c).status ≡ Proved
      → conclusion_polynomial c ≡ Polynomials.𝟘
  proved_so c gives e is =
      let d = decides c gives e in
      ap conclusion_polynomial (text_of-unique text c d.account gives.gives d.gives.gives) ∙ d.proved is

  refuted_so : (c : Account) → Gives text c → ComesToEnd options c → (proof_answer options c).status ≡ Refuted
      → conclusion_polynomial c ≢ Polynomials.𝟘
  refuted_so c gives e is zero =
      let d = decides c gives e in
      d.refuted is (sym (ap conclusion_polynomial (text_of-unique text c d.account gives.gives d.gives.gives)) ∙ zero)

  good_cause : (c : Account) → Gives text c → IsProveCause options text (proof_answer options c).status
  good_cause c gives = by_stop (log_of options c).stop refl
    where
      by_stop : (o : Option turns.Stop) → (log_of options c).stop ≡ o
          → IsProveCause options text (proof_answer options c).status
      by_stop (Some stop) e =
          subst (IsProveCause options text) (sym (ap (last_status (log_of options c).objects) e)) (c, gives, (stop, e))
      by_stop None e =
          let status = (proof_answer options c).status in
          by_verdict status (zero c) (at_end c e) (IsProveCause options text)
          (λ z. (c, gives, e, proved_so c gives e (is_proved status (zero c) (at_end c e) z)))
          (λ n. (c, gives, e, refuted_so c gives e (is_refuted status (zero c) (at_end c e) n)))

  pub prove_cause : (a : Answer) → IsProveAnswer options text a → IsProveCause options text a.status
  prove_cause a (inl (f, is, e)) = rw e (f, is)
  prove_cause a (inr (c, gives, e)) = rw e (good_cause c gives)

  pub prove_answer : (s : Status) → IsProveCause options text s
      → (a : Answer) × IsProveAnswer options text a × (a.status ≡ s)
  prove_answer TextRefused (f, is) = (refused_at [] f, inl (f, is, refl), refl)
  prove_answer Stopped (c, gives, (stop, e)) =
      (proof_answer options c, inr (c, gives, refl), ap (last_status (log_of options c).objects) e)
  prove_answer Proved (c, gives, e, none) =
      let status = (proof_answer options c).status in (
        proof_answer options c,
        inr (c, gives, refl),
        not_refuted status (zero c) (at_end c e)
            (λ n. refuted_so c gives e (is_refuted status (zero c) (at_end c e) n) none),
      )
  prove_answer Refuted (c, gives, e, some) =
      let status = (proof_answer options c).status in (
        proof_answer options c,
        inr (c, gives, refl),
        not_proved status (zero c) (at_end c e)
            (λ z. some (proved_so c gives e (is_proved status (zero c) (at_end c e) z))),
      )
  prove_answer Done is = absurd is
  prove_answer Usage is = absurd is
  prove_answer ReadFault is = absurd is
  prove_answer WriteFault is = absurd is
  prove_answer Memory is = absurd is
  prove_answer ProofRefused is = absurd is
  prove_answer Unlike is = absurd is
