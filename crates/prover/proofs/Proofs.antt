-- The answers of the mode that proves.
use Rattle.std.proofs.Common.{◌≡◌, ℕ, ◌⊎◌, inl, inr, Bool, List, [], ◌∷◌, ◌++◌, Option, Some, None, Result, Ok, Err}
use Rattle.std.proofs.Common.{IfOk, refl, sym, ap, subst, zip, map, ◌∙◌}
use Rattle.std.specs.Prelude.{⊤}
use Rattle.std.specs.Result.{IsErrAnd}
use Rattle.coordinate_model.specs.Sequences.{IsRank}
use Rattle.construction_reader.specs.Said.{Account}
use Rattle.construction_reader.specs.TextOf.{TextOf}
use Rattle.step_types.specs.Checks.{names_of, IsGood}
use Rattle.cayley_terms.specs.declared.instr.Instr.{Instr}
use Rattle.cayley_terms.specs.declared.program.Program.{Program}
use Rattle.cayley_terms.specs.Instrs.{measures}
use Rattle.cayley_terms.specs.Straight.{lowered}
use Rattle.cayley_terms.specs.Kept.{IsStraight, KeepsNames, polynomial_of}
use Rattle.cayley_terms.specs.Meaning.{conclusion_polynomial}
use Rattle.straightening.specs.Runs.{Stop}
use Rattle.cayley_run.specs.declared.answer.Options.{Options}
use Rattle.cayley_run.specs.Runs.{Log, at_start, run_on, run_of}
use Rattle.cayley_run.specs.RunLaws.{AllEndWell, MeansProgram, LastEnds}
use Rattle.prover.specs.declared.status.Status.{Status}
use Rattle.prover.specs.declared.status.Status.TheVariants.{TextRefused, Stopped}
use Rattle.prover.specs.Answer.{Answer, IsVerdict}
use Rattle.cayley_run.specs.Written.{run_lines}
use Rattle.coordinate_model.specs.BracketPolynomial.{BracketPolynomial}
use Rattle.prover.specs.Runs.{log_of, is_zero, ends_in_zero, stop_kind}
use Rattle.prover.specs.Outcome.{PutsAnswer}
use Rattle.prover.specs.Modes.Prove.{IsProveAnswer, ProveDecides, IsProofOf, ProofDecides, proof, proof_answer}
use Rattle.prover.specs.Modes.Prove.{last_line, last_status, verdict}
use Rattle.prover.proofs.Verdicts.{decided, zero_end}
use Rattle.prover.proofs.Outcomes.{puts_more, puts_less, puts_none, puts_error, puts_ok, at_error}
use Rattle.prover.proofs.AnswerLaws.{some_mode_answer}
use Rattle.prover.specs.declared.mode.Mode.TheVariants as mode
use Rattle.prover.specs.declared.parts.Fault.{Fault}
use Rattle.prover.specs.Parts.{IsFault, refused_at}
use Rattle.proof_text.specs.Forms.{verdict_word, stop_line}
use Rattle.proof_text.specs.Proofs.{head_lines}
use Rattle.proof_text.specs.Writes.{Writes}
use Rattle.proof_text.specs.declared.error.WriteError.{WriteError}
use Rattle.proof_text.specs.declared.error.WriteError.TheVariants.{Memory}

-- ---- texts

-- a refusal is no verdict
pub refused_is_none : (status : Status) → status ≡ TextRefused → IsVerdict status → ⊥
refused_is_none s e (inl h) = cc
refused_is_none s e (inr h) = cc

-- the answer to a good text is that to its construction
pub good_is : (options : Options) (text : List ℕ) (c : Account) (a : Answer) → TextOf text c → IsProofOf options c a
    → IsProveAnswer options text a
good_is options text c a gives is = inr (c, record { gives = gives; good = is.good }, is.is)

-- ---- calls that put the answer to a text

module _ (options : Options) (text : List ℕ) where
  -- there is no memory to read it
  pub no_answer : (held : Option (List ℕ)) (m : ℕ) (r : Result Status WriteError) → IsErrAnd r (λ e. e ≡ Memory)
      → PutsAnswer (IsProveAnswer options text) IsVerdict (ProveDecides text) r held held m m
  no_answer held m r is =
      let found = some_mode_answer (mode.Prove options) text in
      record {
        answer = found.0;
        right = found.1;
        status = at_error (λ (s : Status). s ≡ found.0.status) (λ (e : WriteError). e ≡ Memory) r is;
        means = at_error (λ (s : Status). IsVerdict s → ProveDecides text found.0) (λ (e : WriteError). e ≡ Memory) r is;
        writes = puts_none held m r found.0.lines is;
      }

  -- it is faulty, and that is put or not
  pub fault_failed : (f : Fault) (a b : Option (List ℕ)) (m n : ℕ) (r : Result Status WriteError) (e : WriteError) → IsFault text f
      → IsErrAnd r (λ x. x ≡ e) → Writes {T = ⊤} a b m n (Err e) (refused_at [] f).lines
      → PutsAnswer (IsProveAnswer options text) IsVerdict (ProveDecides text) r a b m n
  fault_failed f a b m n r e fault is put =
      let answer = refused_at [] f in
      record {
        answer = answer;
        right = inl (f, fault, refl);
        status = at_error (λ (s : Status). s ≡ answer.status) (λ (x : WriteError). x ≡ e) r is;
        means = at_error (λ (s : Status). IsVerdict s → ProveDecides text answer) (λ (x : WriteError). x ≡ e) r is;
        writes = puts_error a b m n e r answer.lines is put;
      }

  pub fault_put : (f : Fault) (a b : Option (List ℕ)) (m n : ℕ) → IsFault text f
      → Writes {T = ⊤} a b m n (Ok tt) (refused_at [] f).lines
      → PutsAnswer (IsProveAnswer options text) IsVerdict (ProveDecides text) (Ok TextRefused) a b m n
  fault_put f a b m n fault put = record {
    answer = refused_at [] f;
    right = inl (f, fault, refl);
    status = refl;
    means = λ verdict. absurd (refused_is_none TextRefused refl verdict);
    writes = puts_ok a b m n TextRefused (refused_at [] f).lines put;
  }

  -- it is good, and the answer to its construction is put
  pub good_put : (c : Account) (a b : Option (List ℕ)) (m n : ℕ) (r : Result Status WriteError) → TextOf text c
      → PutsAnswer (IsProofOf options c) IsVerdict (ProofDecides c) r a b m n
      → PutsAnswer (IsProveAnswer options text) IsVerdict (ProveDecides text) r a b m n
  good_put c a b m n r gives put = record {
    answer = put.answer;
    right = good_is options text c put.answer gives put.right;
    status = put.status;
    means = of_text r put.means;
    writes = put.writes;
  }
    where
      of_text : (r : Result Status WriteError) → IfOk r (λ s. IsVerdict s → ProofDecides c put.answer)
          → IfOk r (λ s. IsVerdict s → ProveDecides text put.answer)
      of_text (Ok s) means = λ verdict. means verdict text gives
      of_text (Err e) means = tt

-- ---- runs

-- the run of the program is that of the construction
pub runs_alike : (options : Options) (c : Account) (p : Program) → IsStraight c p → p.rank ≡ c.rank
    → run_of options p ≡ log_of options c
unfolding run_of
runs_alike options c p straight rank =
    let start = at_start options in
    let alike : p.steps ≡ map (λ m. m.step) (measures c.rank (lowered c).instrs) =
    p.formed.stepped ∙ ap (λ (instrs : List Instr). map (λ m. m.step) (measures p.rank instrs)) straight.instrs
    ∙ ap (λ d. map (λ m. m.step) (measures d (lowered c).instrs)) rank in
    ap (λ d. run_on d start (zip p.instrs p.steps)) rank
    ∙ ap (λ (instrs : List Instr). run_on c.rank start (zip instrs p.steps)) straight.instrs
    ∙ ap (λ (ss : List ℕ). run_on c.rank start (zip (lowered c).instrs ss)) alike

-- where the run was not stopped, it decides
pub run_decides : (c : Account) (p : Program) (log : Log) → IsGood c → p.rank ≡ c.rank
    → polynomial_of p ≡ conclusion_polynomial c → MeansProgram p log → log.stop ≡ None
    → ProofDecides c (proof (names_of c) log.objects log.stop)
run_decides c p log good rank concludes means ended text gives =
    let found = means.conclusion ended in
    subst (λ (s : Option Stop). ProveDecides text (proof (names_of c) log.objects s)) (sym ended)
    (decided c log found.0 good (subst IsRank rank p.formed.rank)
    (subst (λ (d : ℕ). AllEndWell d log.objects) rank means.sections) found.1 (found.2 ∙ concludes) text gives)

-- the proof by the run of the program
pub is_proof : (options : Options) (c : Account) (p : Program) → IsGood c → IsStraight c p → KeepsNames c p
    → IsProofOf options c (proof (names_of c) (run_of options p).objects (run_of options p).stop)
is_proof options c p good straight keeps = record {
  good = good;
  is = ap (λ (l : Log). proof (names_of c) l.objects l.stop) (runs_alike options c p straight keeps.0);
}

-- ---- calls that put a proof

module _ (options : Options) (c : Account) where
  -- there is no memory to lower the construction
  pub no_proof : (held : Option (List ℕ)) (m : ℕ) (r : Result Status WriteError) → IsGood c → IsErrAnd r (λ e. e ≡ Memory)
      → PutsAnswer (IsProofOf options c) IsVerdict (ProofDecides c) r held held m m
  no_proof held m r good is =
      let answer = proof_answer options c in
      record {
        answer = answer;
        right = record { good = good; is = refl };
        status = at_error (λ (s : Status). s ≡ answer.status) (λ (e : WriteError). e ≡ Memory) r is;
        means = at_error (λ (s : Status). IsVerdict s → ProofDecides c answer) (λ (e : WriteError). e ≡ Memory) r is;
        writes = puts_none held m r answer.lines is;
      }

  module _ (p : Program) (good : IsGood c) (straight : IsStraight c p) (keeps : KeepsNames c p) where
    abbrev log : Log
    log = run_of options p

    abbrev head : List (List ℕ)
    head = head_lines (names_of c)

    abbrev body : List (List ℕ)
    body = run_lines (names_of c) log

    abbrev answer : Answer
    answer = proof (names_of c) log.objects log.stop

    -- a call fails behind a part of the lines
    pub put_failed : (a b : Option (List ℕ)) (m n : ℕ) (r : Result Status WriteError) (e : WriteError)
        → IsErrAnd r (λ x. x ≡ e) → Writes a b m n r answer.lines
        → PutsAnswer (IsProofOf options c) IsVerdict (ProofDecides c) r a b m n
    put_failed a b m n r e is put = record {
      answer = answer;
      right = is_proof options c p good straight keeps;
      status = at_error (λ (s : Status). s ≡ answer.status) (λ (x : WriteError). x ≡ e) r is;
      means = at_error (λ (s : Status). IsVerdict s → ProofDecides c answer) (λ (x : WriteError). x ≡ e) r is;
      writes = put;
    }

    -- the head is not put
    pub head_failed : (a b : Option (List ℕ)) (m n : ℕ) (r : Result Status WriteError) (e : WriteError)
        → IsErrAnd r (λ x. x ≡ e) → Writes {T = ⊤} a b m n (Err e) head
        → PutsAnswer (IsProofOf options c) IsVerdict (ProofDecides c) r a b m n
    head_failed a b m n r e is put =
        put_failed a b m n r e is
        (puts_less a b m n e r head (body ++ last_line log.objects log.stop ∷ []) is put)

    -- the objects are not put
    pub body_failed : (a b d : Option (List ℕ)) (m n k : ℕ) (e : WriteError) → Writes {T = ⊤} a b m n (Ok tt) head
        → Writes {T = ⊤} b d n k (Err e) body
        → PutsAnswer (IsProofOf options c) IsVerdict (ProofDecides c) (Err e) a d m k
    body_failed a b d m n k e first put =
        put_failed a d m k (Err e) e refl
        (puts_more a b d m n k (Err e) head (body ++ last_line log.objects log.stop ∷ []) first
        (puts_less b d n k e (Err e) body (last_line log.objects log.stop ∷ []) refl put))

    -- all is put but the last line, and then that
    all_put : (a b d e : Option (List ℕ)) (m n k l : ℕ) (r : Result Status WriteError) → Writes {T = ⊤} a b m n (Ok tt) head
        → Writes {T = ⊤} b d n k (Ok tt) body → Writes d e k l r (last_line log.objects log.stop ∷ [])
        → Writes a e m l r answer.lines
    all_put a b d e m n k l r first second third =
        puts_more a b e m n l r head (body ++ last_line log.objects log.stop ∷ []) first
        (puts_more b d e n k l r body (last_line log.objects log.stop ∷ []) second third)

    -- the run stopped
    pub put_stopped : (a b d e : Option (List ℕ)) (m n k l : ℕ) (r : Result Status WriteError) (stop : Stop) → log.stop ≡ Some stop
        → Writes {T = ⊤} a b m n (Ok tt) head → Writes {T = ⊤} b d n k (Ok tt) body
        → Writes d e k l r (stop_line (stop_kind stop) ∷ []) → IfOk r (λ s. s ≡ Stopped)
        → PutsAnswer (IsProofOf options c) IsVerdict (ProofDecides c) r a e m l
    put_stopped a b d e m n k l r stop is first second third status =
        let line : last_line log.objects log.stop ≡ stop_line (stop_kind stop) = ap (last_line log.objects) is in
        let ends : last_status log.objects log.stop ≡ Stopped = ap (last_status log.objects) is in
        record {
          answer = answer;
          right = is_proof options c p good straight keeps;
          status = subst (λ (x : Status). IfOk r (λ s. s ≡ x)) (sym ends) status;
          means = no_verdict r status;
          writes = all_put a b d e m n k l r first second
              (subst (λ (x : List ℕ). Writes d e k l r (x ∷ [])) (sym line) third);
        }
      where
        is_none : (s : Status) → s ≡ Stopped → IsVerdict s → ⊥
        is_none s e (inl h) = cc
        is_none s e (inr h) = cc

        no_verdict : (r : Result Status WriteError) → IfOk r (λ s. s ≡ Stopped)
            → IfOk r (λ s. IsVerdict s → ProofDecides c answer)
        no_verdict (Ok s) is = λ verdict. absurd (is_none s is verdict)
        no_verdict (Err e) is = tt

    -- the run ended
    pub put_ended : (a b d e : Option (List ℕ)) (m n k l : ℕ) (r : Result Status WriteError) (end : BracketPolynomial) (zero : Bool)
        → polynomial_of p ≡ conclusion_polynomial c → MeansProgram p log → log.stop ≡ None → LastEnds log end → zero ≡ is_zero end
        → Writes {T = ⊤} a b m n (Ok tt) head → Writes {T = ⊤} b d n k (Ok tt) body
        → Writes d e k l r (verdict_word zero ∷ []) → IfOk r (λ s. s ≡ verdict zero)
        → PutsAnswer (IsProofOf options c) IsVerdict (ProofDecides c) r a e m l
    put_ended a b d e m n k l r end zero concludes means no_stop last is first second third status =
        let test : ends_in_zero log.objects ≡ zero =
        zero_end log end last ∙ sym is in
        let line : last_line log.objects log.stop ≡ verdict_word zero =
        ap (last_line log.objects) no_stop ∙ ap verdict_word test in
        let same : last_status log.objects log.stop ≡ verdict zero =
        ap (last_status log.objects) no_stop ∙ ap verdict test in
        record {
          answer = answer;
          right = is_proof options c p good straight keeps;
          status = subst (λ (x : Status). IfOk r (λ s. s ≡ x)) (sym same) status;
          means = whenever r (run_decides c p log good keeps.0 concludes means no_stop);
          writes = all_put a b d e m n k l r first second
              (subst (λ (x : List ℕ). Writes d e k l r (x ∷ [])) (sym line) third);
        }
      where
        whenever : (r : Result Status WriteError) → ProofDecides c answer → IfOk r (λ s. IsVerdict s → ProofDecides c answer)
        whenever (Ok s) decides = λ verdict. decides
        whenever (Err e) decides = tt
