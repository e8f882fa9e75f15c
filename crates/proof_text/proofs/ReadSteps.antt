-- Reading a text line by line, as a loop does, and what follows of the text.
use Rattle.std.proofs.Common.{◌≡◌, ℕ, ◌+◌, List, [], ◌∷◌, length, Result, Ok, Err, IfOk, IfErr, MatchResult, refl}
use Rattle.std.proofs.Common.{sym, ap, subst, ◌∙◌, arith}
use Rattle.coordinate_model.specs.Sequences.{IsRank}
use Rattle.step_types.specs.declared.names.Names.{Names}
use Rattle.proof_text.specs.declared.fault.ProofFault.{ProofFault}
use Rattle.proof_text.specs.declared.fault.ProofKind.{ProofKind}
use Rattle.proof_text.specs.declared.fault.LineError.{LineError}
use Rattle.proof_text.specs.declared.fault.LineError.TheVariants as errors
use Rattle.proof_text.specs.declared.fault.ProofError.{ProofError}
use Rattle.proof_text.specs.declared.fault.ProofError.TheVariants as text
use Rattle.proof_text.specs.declared.proof.Proof.{Proof}
use Rattle.proof_text.specs.Cut.{Line, cut}
use Rattle.proof_text.specs.Told.{Told, TextOf}
use Rattle.proof_text.specs.State.{State, at_first}
use Rattle.proof_text.specs.Faults.{IsCause}
use Rattle.proof_text.specs.Readings.{ends, takes_line, reads, read_of}
use Rattle.proof_text.specs.Outcome.{AreNames, AreSteps, AreOfText, told_of}
use Rattle.proof_text.specs.Taken.{Refuses, RefusesText, Reads, at_number}
use Rattle.proof_text.proofs.LineSteps.{no_lines}
use Rattle.proof_text.proofs.OutcomeLaws.{knows}
use Rattle.proof_text.proofs.ReadLaws.{read_refused}
use Rattle.proof_text.proofs.FoundTexts.{read_text}
use Rattle.proof_text.proofs.TextAgain.{read_again}

module _ (names : Names) (steps : List ℕ) where
  pub begins : (bytes : List ℕ) → reads names steps 1 (cut bytes) at_first ≡ read_of names steps bytes
  unfolding read_of
  begins bytes = refl

  taken : (n : ℕ) (line : Line) (lines : List Line) (s q : State) → takes_line names steps line s ≡ Ok q
      → reads names steps n (line ∷ lines) s ≡ reads names steps (n + 1) lines q
  unfolding reads
  taken n line lines s q e = rw (e, reads) refl

  refused : (n : ℕ) (line : Line) (lines : List Line) (s : State) (found : ProofKind)
      → takes_line names steps line s ≡ Err found
      → reads names steps n (line ∷ lines) s ≡ Err (record { line = n; kind = found })
  unfolding reads
  refused n line lines s found e = rw (e, reads) refl

  pub goes_on : (n : ℕ) (rest after : List ℕ) (line : Line) (s q : State) (total : Result Told ProofFault)
      → cut rest ≡ line ∷ cut after → takes_line names steps line s ≡ Ok q → reads names steps n (cut rest) s ≡ total
      → reads names steps (n + 1) (cut after) q ≡ total
  goes_on n rest after line s q total e took so_far =
      sym (taken n line (cut after) s q took) ∙ ap (λ ls. reads names steps n ls s) (sym e) ∙ so_far

  pub fails : (error : LineError) (n : ℕ) (rest after : List ℕ) (line : Line) (s : State)
      (total : Result Told ProofFault)
      → cut rest ≡ line ∷ cut after → Refuses error (takes_line names steps line s) → reads names steps n
      (cut rest) s ≡ total
      → RefusesText (at_number n error) total
  fails errors.Memory n rest after line s total e wrong so_far = tt
  fails (errors.Fault found) n rest after line s total e wrong so_far =
      sym so_far ∙ ap (λ ls. reads names steps n ls s) e ∙ refused n line (cut after) s found wrong

  pub is_done : (n : ℕ) (rest : List ℕ) (s : State) (total : Result Told ProofFault) → length rest ≡ 0
      → reads names steps n (cut rest) s ≡ total → ends n s ≡ total
  unfolding reads
  is_done n [] s total h so_far = sym (ap (λ ls. reads names steps n ls s) no_lines) ∙ so_far
  is_done n (b ∷ rest) s total h so_far = absurd (omega arith)

-- ---- what is read

pub of_text : (d : ℕ) (names : Names) (steps : List ℕ) → IsRank d → AreNames d names → AreSteps d steps
    → AreOfText names steps
of_text d names steps rank good good_steps = record {
  rank = subst IsRank (sym good.rank) rank;
  names_good = subst (λ n. AreNames n names) (sym good.rank) good;
  steps_good = subst (λ n. AreSteps n steps) (sym good.rank) good_steps;
}

module _ (names : Names) (steps bytes : List ℕ) (given : AreOfText names steps) where
  pub is_found : {d : ℕ} (r : Result (Proof d) ProofError) → Reads told_of r (read_of names steps bytes)
      → IfOk r (λ p. TextOf names steps bytes (told_of p))
  is_found (Ok p) read = read_text names steps bytes (told_of p) (knows names steps given) read
  is_found (Err e) read = tt

  pub is_only : {d : ℕ} (r : Result (Proof d) ProofError) → Reads told_of r (read_of names steps bytes) → (p : Told)
      → TextOf names steps bytes p → MatchResult r (λ found. told_of found ≡ p) (λ e. e ≡ text.Memory)
  is_only (Ok found) read p given_text =
      let again : ◌≡◌ {A = Result Told ProofFault} (Ok (told_of found)) (Ok p) =
      sym read ∙ read_again names steps (knows names steps given) bytes p given_text in
      cc
  is_only (Err text.Memory) read p given_text = refl
  is_only (Err (text.Fault fault)) read p given_text =
      let again : ◌≡◌ {A = Result Told ProofFault} (Err fault) (Ok p) =
      sym read ∙ read_again names steps (knows names steps given) bytes p given_text in
      absurd cc

  pub is_cause : {d : ℕ} (r : Result (Proof d) ProofError) → Reads told_of r (read_of names steps bytes)
      → IfErr r (IsCause names steps bytes)
  is_cause (Ok found) read = tt
  is_cause (Err text.Memory) read = tt
  is_cause (Err (text.Fault fault)) read = read_refused names steps bytes fault given.rank.0 read
