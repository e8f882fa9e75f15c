-- What the mode that checks puts, and what its verdict decides.
use Rattle.std.proofs.Common.{◌≡◌, ℕ, ◌==◌, ◌⊎◌, inl, inr, List, [], ◌∷◌, ◌++◌, zip, length, Option}
use Rattle.std.proofs.Common.{Result, Ok, Err, IfOk}
use Rattle.std.proofs.Common.{refl, sym, ap, subst, ◌∙◌}
use Rattle.std.specs.List.{AllByRecursion}
use Rattle.coordinate_model.specs.BracketPolynomial.{BracketPolynomial, IsNormal, value}
use Rattle.coordinate_model.specs.Placement.{value_at}
use Rattle.coordinate_model.specs.Polynomial.{Polynomials}
use Rattle.coordinate_model.specs.Sequences.{IsRank}
use Rattle.coordinate_model.proofs.PolynomialRing.{value_at-hom}
use Rattle.construction_reader.specs.Said.{Account}
use Rattle.step_types.specs.Checks.{names_of}
use Rattle.step_types.specs.declared.names.Names.{Names}
use Rattle.cayley_terms.specs.declared.instr.Instr.{Instr}
use Rattle.cayley_terms.specs.declared.instr.Instr.TheVariants as instr
use Rattle.cayley_terms.specs.declared.program.Program.{Program}
use Rattle.cayley_terms.specs.Kept.{IsNamed, IsStraight, polynomial_of}
use Rattle.cayley_terms.specs.Meaning.{conclusion_polynomial}
use Rattle.proof_text.specs.Told.{Told}
use Rattle.proof_text.specs.Writes.{Writes}
use Rattle.proof_text.specs.declared.error.WriteError.{WriteError}
use Rattle.log_checker.specs.Accepted.{AreAccepted, IsProofAccepted}
use Rattle.log_checker.specs.Bounds.{HasNumbers}
use Rattle.log_checker.specs.Checked.{UnlessMemory}
use Rattle.log_checker.specs.Claims.{Claim}
use Rattle.log_checker.specs.Objects.{object_steps, program_steps}
use Rattle.log_checker.specs.ProofLaws.{Concludes}
use Rattle.log_checker.specs.ProofRefused.{AreRefused, IsProofRefused}
use Rattle.log_checker.specs.declared.refusal.ProofRefusal.{ProofRefusal}
use Rattle.log_checker.specs.declared.refusal.ProofRefusal.TheVariants as refusal
use Rattle.prover.specs.declared.status.Status.{Status}
use Rattle.prover.specs.declared.status.Status.TheVariants.{Proved, ProofRefused}
use Rattle.prover.specs.Answer.{Answer, IsVerdict}
use Rattle.prover.specs.Checked.{claims_read, steps_of, IsProofText, IsAcceptedFor}
use Rattle.prover.specs.Modes.Check.{IsToldAnswer, IsBytesAnswer, IsProgramAnswer, BytesDecide, ProgramDecides}
use Rattle.prover.specs.Modes.Check.{accepted, accepted_line, proof_refused}
use Rattle.prover.specs.Modes.Prove.{verdict}
use Rattle.prover.specs.Outcome.{PutsAnswer}
use Rattle.prover.specs.Refusals.{refusal_line}
use Rattle.prover.specs.Runs.{instructions}
use Rattle.prover.proofs.Outcomes.{puts_as, puts_undecided}
use Rattle.prover.proofs.Programs.{same_instructions}
use Rattle.prover.proofs.ReadProofs.{ends_so, last_is, claimed_end}
use Rattle.prover.proofs.Verdicts.{is_proved, not_refuted, zero_value, no_terms}

-- ---- the program of a construction

-- what is so for names and steps of the code is so for those of the construction
pub for_construction : (c : Account) (p : Program) → IsStraight c p → p.rank ≡ c.rank
    → (P : Names → List ℕ → Type 0) (names : Names) (steps : List ℕ) → names ≡ names_of c → steps ≡ program_steps p
    → P names steps → P (names_of c) (steps_of c)
for_construction c p straight rank P names steps named stepped is =
    subst (P (names_of c)) (stepped ∙ ap object_steps (same_instructions c p straight rank))
    (subst (λ (n : Names). P n steps) named is)

module _ (c : Account) (p : Program) (straight : IsStraight c p) (rank : p.rank ≡ c.rank) (told : Told) where
  accepted_for : IsProofAccepted p (claims_read told) → IsAcceptedFor c told
  accepted_for good =
      subst (λ d. AreAccepted d [] (instructions c) (claims_read told)) rank
      (subst (λ (xs : List (Instr × ℕ)). AreAccepted p.rank [] xs (claims_read told)) (same_instructions c p straight rank)
      good)

  -- a refusal, whatever the rank is called
  refused_for : (d : ℕ) → c.rank ≡ d → (r : ProofRefusal d) (a : Answer) → IsProofRefused p (claims_read told) r
      → a ≡ proof_refused (refusal_line (names_of c) r) → IsToldAnswer c told a
  refused_for d same r a bad e =
      (subst (λ n. (r : ProofRefusal n) → AreRefused [] (instructions c) (claims_read told) 1 1 r
      → a ≡ proof_refused (refusal_line (names_of c) r) → IsToldAnswer c told a) same
      (λ (q : ProofRefusal c.rank) bad e. inr (q, bad, e))) r
      (subst (λ (xs : List (Instr × ℕ)). AreRefused [] xs (claims_read told) 1 1 r) (same_instructions c p straight rank)
      bad)
      e

  told_answer : (d : ℕ) (names : Names) (a : Answer) → c.rank ≡ d → names ≡ names_of c
      → IsProgramAnswer d names p told a → IsToldAnswer c told a
  told_answer d names a same named (inl (good, e)) = inl (accepted_for good, e)
  told_answer d names a same named (inr (r, bad, e)) =
      refused_for d same r a bad (e ∙ ap (λ (n : Names). proof_refused (refusal_line n r)) named)

  -- the verdict of an accepted proof is that on the conclusion
  pub bytes_decide : (bytes : List ℕ) (a : Answer) → polynomial_of p ≡ conclusion_polynomial c → IsProofText c bytes told
      → ProgramDecides p told a → BytesDecide bytes c a
  bytes_decide bytes a concludes text decides =
      let names = names_of c in
      let e = ends_so names 1 _ told.objects told.proved text.good.objects text.good.verdict in
      let last = decides.concludes.last in
      let same_end : last.end ≡ e.end =
      claimed_end names told.objects told.proved e decides.concludes.front last decides.concludes.is_last in
      let normal : IsNormal c.rank 64 e.end =
      subst (IsNormal c.rank 64) same_end (subst (λ d. IsNormal d 64 last.end) rank decides.concludes.accepted.normal) in
      let same : value e.end ≡ conclusion_polynomial c = ap value (sym same_end) ∙ decides.concludes.same ∙ concludes in
      let test : verdict (length e.end.terms == 0) ≡ a.status = ap verdict e.zero ∙ sym decides.verdict_is in
      let zero : a.status ≡ Proved → conclusion_polynomial c ≡ Polynomials.𝟘 =
      λ (is : a.status ≡ Proved). sym same ∙ zero_value e.end (is_proved e.end.terms (test ∙ is)) in
      record {
        told = told;
        is_text = text;
        accepted = accepted_for decides.accepted;
        polynomial = e.end;
        ends = last_is names told.objects told.proved e;
        normal = normal;
        same_value = same;
        proved = zero;
        everywhere = λ is at. ap (value_at at) (zero is) ∙ (value_at-hom at).to_zero;
        refuted = λ is none. not_refuted e.end.terms (test ∙ is)
            (no_terms c.rank e.end (subst IsRank rank p.formed.rank) normal (same ∙ none));
      }

  -- what is put for the program is put for the construction
  pub puts_for : (bytes : List ℕ) (d : ℕ) (names : Names) (r : Result Status WriteError) (before after : Option (List ℕ))
      (i j : ℕ) → c.rank ≡ d → names ≡ names_of c → polynomial_of p ≡ conclusion_polynomial c → IsProofText c bytes told
      → PutsAnswer (IsProgramAnswer d names p told) IsVerdict (ProgramDecides p told) r before after i j
      → PutsAnswer (IsBytesAnswer bytes c) IsVerdict (BytesDecide bytes c) r before after i j
  puts_for bytes d names r before after i j same named concludes text put =
      puts_as (IsProgramAnswer d names p told) (IsBytesAnswer bytes c) (ProgramDecides p told) (BytesDecide bytes c)
      IsVerdict r before after i j (λ a right. inr (told, text, told_answer d names a same named right))
      (λ a decides. bytes_decide bytes a concludes text decides) put

-- ---- what is put of a proof

-- a refusal of a proof is no verdict
pub no_verdict : IsVerdict ProofRefused → ⊥
no_verdict (inl e) = cc
no_verdict (inr e) = cc

module _ (d : ℕ) (names : Names) (p : Program) (told : Told) (claims : List (List Claim))
    (same : claims ≡ claims_read told) where
  -- its verdict
  pub verdict_put : (r : Result Status WriteError) (before after : Option (List ℕ)) (i j : ℕ) → IsProofAccepted p claims
      → Concludes p claims → IfOk r (λ s. s ≡ verdict told.proved)
      → Writes before after i j r (accepted_line told.proved ∷ [])
      → PutsAnswer (IsProgramAnswer d names p told) IsVerdict (ProgramDecides p told) r before after i j
  verdict_put r before after i j good concludes status put =
      let is : IsProofAccepted p (claims_read told) = subst (IsProofAccepted p) same good in
      record {
        answer = accepted told.proved;
        right = inl (is, refl);
        status = status;
        means = means_so r (record { accepted = is; concludes = subst (Concludes p) same concludes; verdict_is = refl });
        writes = put;
      }
    where
      means_so : (r : Result Status WriteError) → ProgramDecides p told (accepted told.proved)
          → IfOk r (λ s. IsVerdict s → ProgramDecides p told (accepted told.proved))
      means_so (Ok s) decides = λ v. decides
      means_so (Err e) decides = tt

  -- and why it is refused
  pub refusal_put : (q : ProofRefusal d) (r : Result Status WriteError) (before after : Option (List ℕ)) (i j : ℕ)
      → (q ≡ refusal.Memory → ⊥) → UnlessMemory (IsProofRefused p claims) q → IfOk r (λ s. s ≡ ProofRefused)
      → Writes before after i j r (refusal_line names q ∷ [])
      → PutsAnswer (IsProgramAnswer d names p told) IsVerdict (ProgramDecides p told) r before after i j
  refusal_put q r before after i j other bad status put =
      puts_undecided (IsProgramAnswer d names p told) (ProgramDecides p told) IsVerdict
      (proof_refused (refusal_line names q)) r before after i j
      (inr (q, subst (λ (cs : List (List Claim)). IsProofRefused p cs q) same (told_so q other bad), refl)) no_verdict
      status put
    where
      told_so : (q : ProofRefusal d) → (q ≡ refusal.Memory → ⊥) → UnlessMemory (IsProofRefused p claims) q
          → IsProofRefused p claims q
      told_so (refusal.Scalars object) other bad = bad
      told_so (refusal.ObjectCoefficient object) other bad = bad
      told_so (refusal.ObjectKeys object) other bad = bad
      told_so (refusal.Start section k computed written) other bad = bad
      told_so (refusal.Section section fault) other bad = bad
      told_so refusal.Memory other bad = absurd (other refl)

-- points and parameters of instructions are numbers of names
pub has_numbers : (names : Names) (instrs : List Instr) → AllByRecursion (IsNamed names) instrs
    → AllByRecursion (HasNumbers (length names.free) (length names.params)) instrs
has_numbers names [] named = tt
has_numbers names (i ∷ instrs) named = (one i named.0, has_numbers names instrs named.1)
  where
    one : (i : Instr) → IsNamed names i → HasNumbers (length names.free) (length names.params) i
    one (instr.Free k) below = below
    one (instr.Join a b) below = tt
    one (instr.Meet a b) below = tt
    one (instr.On a b s t) below = below
    one (instr.Conic p1 p2 p3 p4 p5 p6) below = tt
