-- Why the mode that checks has its status.
use Rattle.std.proofs.Common.{◌≡◌, ℕ, ◌+◌, inl, inr, List, [], ◌∷◌, map, length, codes, refl, ap}
use Rattle.std.specs.List.{AllByRecursion}
use Rattle.std.proofs.lemmas.Bool.{cases_lt}
use Rattle.coordinate_model.specs.Syzygy.{Use, IsUse}
use Rattle.construction_reader.specs.Said.{Account}
use Rattle.step_types.specs.Checks.{names_of}
use Rattle.step_types.specs.declared.names.Names.{Names}
use Rattle.bracket_poly.specs.Sections.{Rewritten, Worked}
use Rattle.proof_text.specs.Told.{Told, IsUseTold, IsSectionTold, AreObjectsTold}
use Rattle.log_checker.specs.ProofLaws.{AcceptedProofConcludes, HaveUses, AllHaveUses}
use Rattle.prover.specs.declared.status.Status.{Status}
use Rattle.prover.specs.declared.status.Status.TheVariants.{Proved, Done, Refuted, Usage, TextRefused, Stopped}
use Rattle.prover.specs.declared.status.Status.TheVariants.{ReadFault, WriteFault, Memory, ProofRefused, Unlike}
use Rattle.prover.specs.Answer.{Answer, refused}
use Rattle.prover.specs.Checked.{claim_read, claims_read, steps_of, IsProofText, IsAcceptedFor}
use Rattle.prover.specs.Modes.Check.{IsTextAnswer, IsCheckAnswer, IsTextCause, IsCheckCause, BytesDecide}
use Rattle.prover.specs.Modes.Check.{accepted, proof_refused}
use Rattle.prover.specs.Modes.Prove.{verdict}
use Rattle.prover.specs.Parts.{Gives, refused_at}
use Rattle.prover.specs.Refusals.{fault_line, refusal_line}
use Rattle.prover.proofs.CheckDecisions.{bytes_decide}
use Rattle.prover.proofs.ConstructionRuns.{program, is_straight, concludes}
use Rattle.prover.proofs.VerdictCauses.{by_verdict, is_proved, is_refuted, not_proved, not_refuted}

-- ---- the uses of a proof that was read

module _ (names : Names) where
  have_uses : (us : List Use) → AllByRecursion (IsUseTold names) us → AllByRecursion (IsUse names.rank) us
  have_uses [] told = tt
  have_uses (u ∷ us) told = (told.0.formed.formed, have_uses us told.1)

  sections_have : (step : ℕ) (ss : List Rewritten) → AllByRecursion (IsSectionTold names step) ss
      → HaveUses names.rank (map claim_read ss)
  sections_have step [] told = tt
  sections_have step (s ∷ ss) told = (have_uses s.uses told.0.uses, sections_have step ss told.1)

  objects_have : (number : ℕ) (steps : List ℕ) (os : List Worked) → AreObjectsTold names number steps os
      → AllHaveUses names.rank (map (λ o. map claim_read o.sections) os)
  objects_have number [] [] told = tt
  objects_have number [] (o ∷ os) told = absurd told
  objects_have number (step ∷ steps) [] told = absurd told
  objects_have number (step ∷ steps) (o ∷ os) told =
      (sections_have step o.sections told.0.sections, objects_have (number + 1) steps os told.1)

-- ---- the verdict on an accepted proof

module _ (law : AcceptedProofConcludes) (text bytes : List ℕ) where
  decides : (c : Account) (p : Told) → Gives text c → IsProofText c bytes p → IsAcceptedFor c p
      → BytesDecide bytes c (accepted p.proved)
  decides c p gives is good =
      let program = program c gives.good gives.gives.good in
      let uses = objects_have (names_of c) 1 (steps_of c) p.objects is.good.objects in
      bytes_decide c program (is_straight c gives.good gives.gives.good) refl p bytes (accepted p.proved)
      (concludes c gives.good gives.gives.good) is
      (record { accepted = good; concludes = law program (claims_read p) uses good; verdict_is = refl })

  text_cause : (a : Answer) → IsTextAnswer text bytes a → IsTextCause text bytes a.status
  text_cause a (inl (long, e)) = rw e (inl long)
  text_cause a (inr (short, inl (f, is, e))) = rw e (inr (f, is))
  text_cause a (inr (short, inr (c, gives, inl (fault, is, e)))) = rw e (short, c, gives, inl (fault, is))
  text_cause a (inr (short, inr (c, gives, inr (p, is, inr (r, bad, e))))) = rw e (short, c, gives, inr (p, is, r, bad))
  text_cause a (inr (short, inr (c, gives, inr (p, is, inl (good, e))))) =
      let status = (accepted p.proved).status in
      rw e (by_verdict status p.proved refl (IsTextCause text bytes)
      (λ z. (short, c, gives, (p, is, good), (decides c p gives is good).proved (is_proved status p.proved refl z)))
      (λ n. (short, c, gives, (p, is, good), (decides c p gives is good).refuted (is_refuted status p.proved refl n))))

  text_answer : (s : Status) → IsTextCause text bytes s → (a : Answer) × IsTextAnswer text bytes a × (a.status ≡ s)
  text_answer TextRefused (inl long) = (refused (codes "long"), inl (long, refl), refl)
  text_answer TextRefused (inr (f, is)) = elim (cases_lt 1048576 (length text)) [
    | inl long ↦ (refused (codes "long"), inl (long, refl), refl)
    | inr short ↦ (refused_at [] f, inr (short, inl (f, is, refl)), refl)
  ]
  text_answer ProofRefused (short, c, gives, inl (fault, is)) =
      (proof_refused (fault_line fault), inr (short, inr (c, gives, inl (fault, is, refl))), refl)
  text_answer ProofRefused (short, c, gives, inr (p, is, r, bad)) = (
    proof_refused (refusal_line (names_of c) r),
    inr (short, inr (c, gives, inr (p, is, inr (r, bad, refl)))),
    refl,
  )
  text_answer Proved (short, c, gives, (p, is, good), none) =
      let status = (accepted p.proved).status in (
        accepted p.proved,
        inr (short, inr (c, gives, inr (p, is, inl (good, refl)))),
        not_refuted status p.proved refl
            (λ n. (decides c p gives is good).refuted (is_refuted status p.proved refl n) none),
      )
  text_answer Refuted (short, c, gives, (p, is, good), some) =
      let status = (accepted p.proved).status in (
        accepted p.proved,
        inr (short, inr (c, gives, inr (p, is, inl (good, refl)))),
        not_proved status p.proved refl
            (λ z. some ((decides c p gives is good).proved (is_proved status p.proved refl z))),
      )
  text_answer Done is = absurd is
  text_answer Usage is = absurd is
  text_answer Stopped is = absurd is
  text_answer ReadFault is = absurd is
  text_answer WriteFault is = absurd is
  text_answer Memory is = absurd is
  text_answer Unlike is = absurd is

-- ---- inputs

module _ (law : AcceptedProofConcludes) (input : List ℕ) where
  pub check_cause : (a : Answer) → IsCheckAnswer input a → IsCheckCause input a.status
  check_cause a is = record {
    text = is.text;
    bytes = is.bytes;
    cut = is.cut;
    cause = text_cause law is.text is.bytes a is.answers;
  }

  pub check_answer : (s : Status) → IsCheckCause input s → (a : Answer) × IsCheckAnswer input a × (a.status ≡ s)
  check_answer s is =
      let found = text_answer law is.text is.bytes s is.cause in
      (found.0, record { text = is.text; bytes = is.bytes; cut = is.cut; answers = found.1 }, found.2)
