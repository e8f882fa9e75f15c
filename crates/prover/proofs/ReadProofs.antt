-- Proofs that were read for a construction: what they claim, and with what they end.
use Rattle.std.proofs.Common.{◌≡◌, ℕ, suc, ◌+◌, ◌==◌, ◌⊎◌, inl, inr, Bool, true, false, List, [], ◌∷◌, ◌++◌, map, length}
use Rattle.std.proofs.Common.{Option, Some, None, refl, sym, ap, subst, ◌∙◌, arith}
use Rattle.std.specs.List.{AllByRecursion}
use Rattle.std.specs.Option.{option_map}
use Rattle.std.proofs.lemmas.List.{map-append}
use Rattle.coordinate_model.specs.BracketPolynomial.{BracketPolynomial, IsBracketPolynomial, AllKeys}
use Rattle.coordinate_model.specs.Key.{Key, IsKey}
use Rattle.coordinate_model.specs.Sums.{Terms}
use Rattle.bracket_terms.specs.Joins.{points_of}
use Rattle.bracket_terms.specs.LogUses.{use_of}
use Rattle.bracket_poly.specs.Sections.{Rewritten, Worked, rewritten_of, worked_of}
use Rattle.bracket_poly.specs.declared.section.Section.{Section}
use Rattle.bracket_poly.specs.declared.section.ObjectLog.{ObjectLog}
use Rattle.step_types.specs.declared.names.Names.{Names}
use Rattle.cayley_terms.specs.declared.program.Program.{Program}
use Rattle.proof_text.specs.declared.proof.Proof.{Proof}
use Rattle.proof_text.specs.Outcome.{told_of, MetInSection, HaveMetTerms}
use Rattle.proof_text.specs.Told.{Told, IsProof, IsSectionTold, IsSumTold, IsObjectTold, AreObjectsTold, IsEndTold}
use Rattle.proof_text.specs.Told.{IsKeyTold, IsDecided, IsLastDecided, is_zero_end}
use Rattle.log_checker.specs.Claims.{Claim, claim_of, claims_of, object_claims, end_or_zero}
use Rattle.log_checker.specs.Objects.{program_steps}
use Rattle.log_checker.specs.ProofLaws.{HaveEnds}
use Rattle.log_checker.specs.ProofRefused.{IsProofRefused}
use Rattle.log_checker.specs.Accepted.{IsProofAccepted}
use Rattle.log_checker.specs.declared.refusal.ProofRefusal.{ProofRefusal}
use Rattle.log_checker.proofs.ProofDecisions.{proof_either}
use Rattle.prover.specs.Answer.{Answer}
use Rattle.prover.specs.Checked.{as_read, claim_read, claims_read}
use Rattle.prover.specs.Modes.Check.{IsProgramAnswer, accepted, proof_refused}
use Rattle.prover.specs.Refusals.{refusal_line}
use Rattle.prover.specs.Runs.{last_of, end_in, last_end}
use Rattle.prover.proofs.Verdicts.{last_of-push}

-- ---- what proofs of the code claim

section_read : {d : ℕ} (s : Section d) → MetInSection s → claim_of s ≡ claim_read (rewritten_of s)
section_read s met =
    ap (λ (keys : List Key). record {
      scalar = points_of s.scalar;
      start = record { sum = s.start.tracked.sum; met = keys };
      uses = map use_of s.uses;
      end = end_or_zero (option_map (λ p. p.tracked.sum) s.end);
    }) met.0

sections_read : {d : ℕ} (ss : List (Section d)) → AllByRecursion MetInSection ss
    → claims_of ss ≡ map claim_read (map rewritten_of ss)
sections_read [] met = refl
sections_read (s ∷ ss) met =
    ap (λ c. c ∷ claims_of ss) (section_read s met.0)
    ∙ ap (λ cs. claim_read (rewritten_of s) ∷ cs) (sections_read ss met.1)

objects_read : {d : ℕ} (os : List (ObjectLog d)) → AllByRecursion (λ o. AllByRecursion MetInSection o.sections) os
    → object_claims os ≡ map (λ o. map claim_read o.sections) (map worked_of os)
objects_read [] met = refl
objects_read (o ∷ os) met =
    ap (λ cs. cs ∷ object_claims os) (sections_read o.sections met.0)
    ∙ ap (λ cs. map claim_read (map rewritten_of o.sections) ∷ cs) (objects_read os met.1)

pub proof_read : {d : ℕ} (proof : Proof d) → HaveMetTerms proof → object_claims proof.objects ≡ claims_read (told_of proof)
proof_read proof met = objects_read proof.objects met

-- ---- the objects of a proof that was read

module _ (names : Names) where
  end_formed : (end : Option BracketPolynomial) → IsEndTold names end → IsBracketPolynomial names.rank 64 (end_or_zero end)
  end_formed None told = absurd told
  end_formed (Some f) told = keys f.terms told.keys
    where
      keys : (ts : Terms Key) → AllByRecursion (λ t. IsKeyTold names 64 t.0) ts
          → AllByRecursion (λ t. IsKey names.rank 64 t.0) ts
      keys [] all = tt
      keys (t ∷ ts) all = (all.0.formed, keys ts all.1)

  sections_formed : (step : ℕ) (ss : List Rewritten) → AllByRecursion (IsSectionTold names step) ss
      → AllByRecursion (λ c. IsBracketPolynomial names.rank 64 c.end) (map claim_read ss)
  sections_formed step [] told = tt
  sections_formed step (s ∷ ss) told = (end_formed s.end told.0.end, sections_formed step ss told.1)

  objects_formed : (number : ℕ) (steps : List ℕ) (os : List Worked) → AreObjectsTold names number steps os
      → HaveEnds names.rank (map (λ o. map claim_read o.sections) os)
  objects_formed number [] [] told = tt
  objects_formed number [] (o ∷ os) told = absurd told
  objects_formed number (step ∷ steps) [] told = absurd told
  objects_formed number (step ∷ steps) (o ∷ os) told =
      (sections_formed step o.sections told.0.sections, objects_formed (number + 1) steps os told.1)

  objects_counted : (number : ℕ) (steps : List ℕ) (os : List Worked) → AreObjectsTold names number steps os
      → length (map (λ o. map claim_read o.sections) os) ≡ length steps
  objects_counted number [] [] told = refl
  objects_counted number [] (o ∷ os) told = absurd told
  objects_counted number (step ∷ steps) [] told = absurd told
  objects_counted number (step ∷ steps) (o ∷ os) told = ap suc (objects_counted (number + 1) steps os told.1)

  -- ---- the last section

  -- the last object has one section, which has an end
  pub record Ends (os : List Worked) (proved : Bool) : Type 0 where
    pub front : List Worked
    pub last : Worked
    pub section : Rewritten
    pub end : BracketPolynomial
    pub split : os ≡ front ++ last ∷ []
    pub one : last.sections ≡ section ∷ []
    pub is_end : section.end ≡ Some end
    pub zero : (length end.terms == 0) ≡ proved

  some_end : (s : Rewritten) (proved : Bool) → IsEndTold names s.end → is_zero_end s.end ≡ proved
      → (end : BracketPolynomial) × (s.end ≡ Some end) × ((length end.terms == 0) ≡ proved)
  some_end s proved told zero = go s.end refl told zero
    where
      go : (end : Option BracketPolynomial) → s.end ≡ end → IsEndTold names end → is_zero_end end ≡ proved
          → (f : BracketPolynomial) × (s.end ≡ Some f) × ((length f.terms == 0) ≡ proved)
      go None e told zero = absurd told
      go (Some f) e told zero = (f, e, zero)

  one_section : (step : ℕ) (o : Worked) (proved : Bool) (ss : List Rewritten) → o.sections ≡ ss
      → AllByRecursion (IsSectionTold names step) ss → IsDecided proved ss → Ends (o ∷ []) proved
  one_section step o proved [] e told decided = absurd decided
  one_section step o proved (s ∷ []) e told decided =
      let end = some_end s proved told.0.end decided in
      record {
        front = [];
        last = o;
        section = s;
        end = end.0;
        split = refl;
        one = e;
        is_end = end.1;
        zero = end.2;
      }
  one_section step o proved (s ∷ t ∷ ss) e told decided = absurd decided

  pub ends_so : (number : ℕ) (steps : List ℕ) (os : List Worked) (proved : Bool) → AreObjectsTold names number steps os
      → IsLastDecided proved os → Ends os proved
  ends_so number steps [] proved told decided = absurd decided
  ends_so number [] (o ∷ os) proved told decided = absurd told
  ends_so number (step ∷ steps) (o ∷ []) proved told decided =
      one_section step o proved o.sections refl told.0.sections decided
  ends_so number (step ∷ steps) (o ∷ p ∷ os) proved told decided =
      let more = ends_so (number + 1) steps (p ∷ os) proved told.1 decided in
      record {
        front = o ∷ more.front;
        last = more.last;
        section = more.section;
        end = more.end;
        split = ap (λ ws. o ∷ ws) more.split;
        one = more.one;
        is_end = more.is_end;
        zero = more.zero;
      }

abbrev in_last : Option Worked → Option BracketPolynomial
in_last o = elim o [ None ↦ None | Some object ↦ end_in object.sections ]

-- so that is what the objects end with
pub last_is : (names : Names) (os : List Worked) (proved : Bool) (e : Ends names os proved) → last_end os ≡ Some e.end
last_is names os proved e =
    ap last_end e.split ∙ ap in_last (last_of-push e.front e.last) ∙ ap end_in e.one ∙ e.is_end

same_last : {A : Type 0} (xs ys : List A) (x y : A) → xs ++ x ∷ [] ≡ ys ++ y ∷ [] → x ≡ y
same_last xs ys x y e =
    let both : Some x ≡ Some y = sym (last_of-push xs x) ∙ ap last_of e ∙ last_of-push ys y in cc

-- and what the last claim ends with
pub claimed_end : (names : Names) (os : List Worked) (proved : Bool) (e : Ends names os proved) (front : List (List Claim))
    (last : Claim) → map (λ o. map claim_read o.sections) os ≡ front ++ (last ∷ []) ∷ [] → last.end ≡ e.end
claimed_end names os proved e front last is =
    let claims = λ (o : Worked). map claim_read o.sections in
    let whole : map claims e.front ++ (map claim_read e.last.sections) ∷ [] ≡ front ++ (last ∷ []) ∷ [] =
    sym (ap (map claims) e.split ∙ map-append claims e.front (e.last ∷ [])) ∙ is in
    let one : map claim_read e.last.sections ≡ last ∷ [] =
    same_last (map claims e.front) front (map claim_read e.last.sections) (last ∷ []) whole in
    let section : claim_read e.section ∷ [] ≡ last ∷ [] = ap (map claim_read) (sym e.one) ∙ one in
    let claim : claim_read e.section ≡ last = cc in
    ap (λ (c : Claim). c.end) (sym claim) ∙ ap end_or_zero e.is_end

-- ---- there is an answer to a proof that was read

pub some_program_answer : (d : ℕ) (names : Names) (p : Program) (told : Told) → p.rank ≡ d → names.rank ≡ d
    → IsProof names (program_steps p) told → (a : Answer) × IsProgramAnswer d names p told a
some_program_answer d names p told rank same is = go (proof_either d p (claims_read told) rank
    (objects_counted names 1 (program_steps p) told.objects is.objects)
    (subst (λ n. HaveEnds n (claims_read told)) same (objects_formed names 1 (program_steps p) told.objects is.objects)))
  where
    go : IsProofAccepted p (claims_read told) ⊎ ((r : ProofRefusal d) × IsProofRefused p (claims_read told) r)
        → (a : Answer) × IsProgramAnswer d names p told a
    go (inl good) = (accepted told.proved, inl (good, refl))
    go (inr bad) = (proof_refused (refusal_line names bad.0), inr (bad.0, bad.1, refl))
