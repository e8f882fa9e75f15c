-- What `prove` answers at a verdict is accepted behind its text.
use Rattle.std.proofs.Common.{◌≡◌, ℕ, inl, inr, List, [], ◌∷◌, ◌++◌, map, flat_map, Option, Some, None, refl, sym, ap}
use Rattle.std.proofs.Common.{subst, ◌∙◌}
use Rattle.std.specs.Prelude.{sum_by}
use Rattle.construction_reader.specs.Grammar.{IsAccount, conclusions}
use Rattle.construction_reader.specs.Lines.{lines_of}
use Rattle.construction_reader.specs.Said.{Account, sentences_of}
use Rattle.construction_reader.proofs.ConclusionLaws.{one_conclusion}
use Rattle.step_types.specs.Checks.{IsGood, names_of}
use Rattle.bracket_poly.specs.Sections.{Worked}
use Rattle.cayley_terms.specs.declared.program.Program.{Program}
use Rattle.cayley_terms.specs.Meaning.{Variables}
use Rattle.cayley_terms.proofs.ProgramLaws.{names_kept}
use Rattle.straightening.specs.Runs.{Stop}
use Rattle.cayley_run.specs.RunLaws.{RunMeans}
use Rattle.cayley_run.specs.Runs.{Log, run_of}
use Rattle.cayley_run.specs.declared.answer.Options.{Options}
use Rattle.log_checker.specs.Accepted.{AreAccepted}
use Rattle.proof_text.specs.Lines.{text_of}
use Rattle.proof_text.specs.Proofs.{head_lines, object_lines}
use Rattle.proof_text.specs.Told.{IsProof, proof_lines}
use Rattle.prover.specs.declared.status.Status.TheVariants.{Stopped}
use Rattle.prover.specs.Answer.{Answer, IsVerdict}
use Rattle.prover.specs.Checked.{IsAcceptedFor, claims_read, steps_of}
use Rattle.prover.specs.Modes.Prove.{proof_answer, last_line, last_status}
use Rattle.prover.specs.Parts.{Gives}
use Rattle.prover.specs.Runs.{instructions, log_of}
use Rattle.prover.specs.WrittenLaws.{told_by, with_feed, IsAcceptedBehind, WrittenIsAccepted, WrittenIsChecked}
use Rattle.prover.proofs.Programs.{program_of}
use Rattle.prover.proofs.Proofs.{refused_is_none, runs_alike}
use Rattle.prover.proofs.WrittenLines.{IsWhole, is_whole, some_text, same_construction, no_separator}
use Rattle.prover.proofs.WrittenProofs.{run_is_accepted, run_is_proof}

-- ---- a construction

module _ (c : Account) (good : IsGood c) (given : IsAccount c.rank (sentences_of c.rows)) where
  one : sum_by conclusions (sentences_of c.rows) ≡ 1
  one = one_conclusion (sentences_of c.rows) given.ends

  module _ (options : Options) (ended : (log_of options c).stop ≡ None) where
    abbrev program : Program
    program = program_of c good given

    same_run : run_of options (program_of c good given) ≡ log_of options c
    same_run = runs_alike options c program (record { instrs = refl; lines = refl; defined = refl }) refl

    no_stop : (run_of options (program_of c good given)).stop ≡ None
    no_stop = ap (λ (l : Log). l.stop) same_run ∙ ended

    -- what its run wrote is accepted
    accepted_for : IsAcceptedFor c (told_by (log_of options c))
    accepted_for =
        subst (λ (l : Log). AreAccepted c.rank [] (instructions c) (claims_read (told_by l))) same_run
        (run_is_accepted options program no_stop)

    -- and a proof within the limits of its text
    proof_for : RunMeans → IsProof (names_of c) (steps_of c) (told_by (log_of options c))
    proof_for means =
        subst (λ (l : Log). IsProof (names_of c) (steps_of c) (told_by l)) same_run
        (run_is_proof means options program (names_of c) refl (names_kept Variables c good given one) no_stop)

-- ---- an answer

-- where the run was stopped there is no verdict
stopped_none : (objects : List Worked) (o : Option Stop) (stop : Stop) → o ≡ Some stop
    → IsVerdict (last_status objects o) → ⊥
stopped_none objects o stop e verdict =
    none (subst IsVerdict (ap (last_status objects) e) verdict)
  where
    none : IsVerdict Stopped → ⊥
    none (inl h) = cc
    none (inr h) = cc

module _ (means : RunMeans) (options : Options) (text : List ℕ) (c : Account) (gives : Gives text c) where
  abbrev log : Log
  log = log_of options c

  answer_accepted : (log_of options c).stop ≡ None → IsAcceptedBehind (with_feed text) (proof_answer options c)
  answer_accepted e =
      let head = head_lines (names_of c) in
      let body = flat_map (object_lines (names_of c)) log.objects in
      let whole : IsWhole text = is_whole text (some_text text c gives.gives) in
      let lines : (proof_answer options c).lines ≡ proof_lines (names_of c) (told_by log) =
      ap (λ (last : List ℕ). head ++ (body ++ last ∷ [])) (ap (last_line log.objects) e) in
      record {
        account = c;
        gives = record { gives = same_construction text c gives.gives; good = gives.good };
        cut = record {
          whole = refl;
          cut = inl (record {
            lines = lines_of text;
            others = no_separator text c gives.gives;
            first_is = sym whole.whole;
            begins = inr (text_of (behind_first (proof_answer options c).lines), refl);
          });
        };
        told = told_by log;
        is_text = record { text = ap text_of lines; good = proof_for c gives.good gives.gives.good options e means };
        accepted = accepted_for c gives.good gives.gives.good options e;
        same_verdict = ap (last_status log.objects) e;
      }
    where
      behind_first : List (List ℕ) → List (List ℕ)
      behind_first [] = []
      behind_first (line ∷ lines) = lines

  verdict_accepted : IsVerdict (proof_answer options c).status
      → IsAcceptedBehind (with_feed text) (proof_answer options c)
  verdict_accepted verdict = by_stop (log_of options c).stop refl
    where
      by_stop : (o : Option Stop) → (log_of options c).stop ≡ o
          → IsAcceptedBehind (with_feed text) (proof_answer options c)
      by_stop (Some stop) e = absurd (stopped_none log.objects (log_of options c).stop stop e verdict)
      by_stop None e = answer_accepted e

pub written_is_accepted : RunMeans → WrittenIsAccepted
written_is_accepted means options text answer (inl fault) verdict =
    absurd (refused_is_none answer.status (ap (λ (a : Answer). a.status) fault.2) verdict)
written_is_accepted means options text answer (inr good) verdict =
    subst (IsAcceptedBehind (with_feed text)) (sym good.2)
    (verdict_accepted means options text good.0 good.1 (subst (λ (a : Answer). IsVerdict a.status) good.2 verdict))

-- so `check` accepts it
pub written_is_checked : RunMeans → WrittenIsChecked
written_is_checked means options text answer is verdict short whole =
    let w : IsAcceptedBehind (with_feed text) answer = written_is_accepted means options text answer is verdict in (
      w.told.proved,
      w.same_verdict,
      inr (
        whole,
        record {
          text = with_feed text;
          bytes = text_of answer.lines;
          cut = w.cut;
          answers = inr (short, inr (w.account, w.gives, inr (w.told, w.is_text, inl (w.accepted, refl))));
        },
      ),
    )
