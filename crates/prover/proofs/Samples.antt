-- The answers of the mode that runs samples.
use Rattle.std.proofs.Common.{◌≡◌, ℕ, ◌==◌, Bool, List, [], ◌∷◌, ◌++◌, length, codes, Option, Some, None, Result}
use Rattle.std.proofs.Common.{Ok, Err, IfOk, refl, sym, ap, subst, ◌∙◌}
use Rattle.std.specs.Prelude.{⊤}
use Rattle.std.specs.Result.{IsErrAnd}
use Rattle.coordinate_model.specs.BracketPolynomial.{BracketPolynomial, IsNormal, value}
use Rattle.construction_reader.specs.Said.{Account}
use Rattle.sample_maker.specs.Sample.{sample_of}
use Rattle.cayley_terms.specs.declared.program.Program.{Program}
use Rattle.cayley_terms.specs.Kept.{IsStraight, KeepsNames, polynomial_of}
use Rattle.cayley_terms.specs.Meaning.{conclusion_polynomial}
use Rattle.straightening.specs.Runs.{Stop}
use Rattle.cayley_run.specs.Runs.{Log, run_of, turns_of}
use Rattle.cayley_run.specs.RunLaws.{LastEnds}
use Rattle.proof_text.specs.Forms.{verdict_word, stop_line}
use Rattle.proof_text.specs.Writes.{Writes}
use Rattle.proof_text.specs.declared.error.WriteError.{WriteError}
use Rattle.proof_text.specs.declared.error.WriteError.TheVariants.{Memory}
use Rattle.prover.specs.declared.status.Status.{Status}
use Rattle.prover.specs.declared.status.Status.TheVariants.{Done, Stopped}
use Rattle.prover.specs.Answer.{Answer}
use Rattle.prover.specs.Runs.{log_of, last_end, terms_at_end, is_zero, ends_in_zero, stop_kind}
use Rattle.prover.specs.Modes.Sample.{counted, sample_options, sample_log, summary_lines, run_tells, run_status}
use Rattle.prover.specs.Modes.Sample.{sample_answer, SampleDecides}
use Rattle.prover.specs.Outcome.{PutsAnswer}
use Rattle.prover.proofs.Outcomes.{puts_more, puts_less, puts_none, at_error}
use Rattle.prover.proofs.Proofs.{runs_alike}
use Rattle.prover.proofs.Verdicts.{end_of, zero_end}

-- how many terms a run ends with
abbrev counts : Option BracketPolynomial → ℕ
counts o = elim o [ None ↦ 0 | Some polynomial ↦ length polynomial.terms ]

terms_of : (log : Log) (end : BracketPolynomial) → LastEnds log end → terms_at_end log.objects ≡ length end.terms
terms_of log end last = ap counts (end_of log end last)

module _ (number budget : ℕ) where
  abbrev log : Log
  log = sample_log number budget

  abbrev first : List ℕ
  first = counted (codes "sample") number

  abbrev rest : List (List ℕ)
  rest = run_tells log log.stop

  -- a call fails behind a part of the lines
  failed : (a b : Option (List ℕ)) (m n : ℕ) (r : Result Status WriteError) (e : WriteError) → IsErrAnd r (λ x. x ≡ e)
      → Writes a b m n r (first ∷ rest)
      → PutsAnswer (λ x. x ≡ sample_answer number budget) (λ s. s ≡ Done) (SampleDecides number) r a b m n
  failed a b m n r e is put =
      let answer = sample_answer number budget in
      record {
        answer = answer;
        right = refl;
        status = at_error (λ (s : Status). s ≡ answer.status) (λ (x : WriteError). x ≡ e) r is;
        means = at_error (λ (s : Status). s ≡ Done → SampleDecides number answer) (λ (x : WriteError). x ≡ e) r is;
        writes = put;
      }

  -- there is no memory to make the sample, or to lower it
  pub no_memory : (held : Option (List ℕ)) (m : ℕ) (r : Result Status WriteError) → IsErrAnd r (λ e. e ≡ Memory)
      → PutsAnswer (λ x. x ≡ sample_answer number budget) (λ s. s ≡ Done) (SampleDecides number) r held held m m
  no_memory held m r is = failed held held m m r Memory is (puts_none held m r (first ∷ rest) is)

  -- the first line is not put
  pub first_failed : (a b : Option (List ℕ)) (m n : ℕ) (r : Result Status WriteError) (e : WriteError) → IsErrAnd r (λ x. x ≡ e)
      → Writes {T = ⊤} a b m n (Err e) (first ∷ [])
      → PutsAnswer (λ x. x ≡ sample_answer number budget) (λ s. s ≡ Done) (SampleDecides number) r a b m n
  first_failed a b m n r e is put = failed a b m n r e is (puts_less a b m n e r (first ∷ []) rest is put)

  -- there is no memory for the run
  pub run_failed : (a b : Option (List ℕ)) (m n : ℕ) → Writes {T = ⊤} a b m n (Ok tt) (first ∷ [])
      → PutsAnswer (λ x. x ≡ sample_answer number budget) (λ s. s ≡ Done) (SampleDecides number) (Err Memory) a b m n
  run_failed a b m n put =
      failed a b m n (Err Memory) Memory refl
      (puts_more a b b m n n (Err Memory) (first ∷ []) rest put (puts_none b n (Err Memory) rest refl))

  -- the run is that of the program
  abbrev Ran : Program → Type 0
  Ran p = run_of (sample_options budget) p ≡ log

  pub same_run : (c : Account) (p : Program) → c ≡ sample_of number → IsStraight c p → p.rank ≡ c.rank → Ran p
  same_run c p is straight rank =
      runs_alike (sample_options budget) c p straight rank ∙ ap (log_of (sample_options budget)) is

  -- the run stopped
  pub stopped : (p : Program) (a b c : Option (List ℕ)) (m n k : ℕ) (r : Result Status WriteError) (stop : Stop) → Ran p
      → (run_of (sample_options budget) p).stop ≡ Some stop → Writes {T = ⊤} a b m n (Ok tt) (first ∷ [])
      → Writes b c n k r (stop_line (stop_kind stop) ∷ []) → IfOk r (λ s. s ≡ Stopped)
      → PutsAnswer (λ x. x ≡ sample_answer number budget) (λ s. s ≡ Done) (SampleDecides number) r a c m k
  stopped p a b c m n k r stop ran is put more status =
      let there : log.stop ≡ Some stop = ap (λ (l : Log). l.stop) (sym ran) ∙ is in
      let line : rest ≡ stop_line (stop_kind stop) ∷ [] = ap (run_tells log) there in
      let ends : run_status log.stop ≡ Stopped = ap run_status there in
      record {
        answer = sample_answer number budget;
        right = refl;
        status = subst (λ (x : Status). IfOk r (λ s. s ≡ x)) (sym ends) status;
        means = no_end r status;
        writes = puts_more a b c m n k r (first ∷ []) rest put
            (subst (λ (ls : List (List ℕ)). Writes b c n k r ls) (sym line) more);
      }
    where
      no_end : (r : Result Status WriteError) → IfOk r (λ s. s ≡ Stopped)
          → IfOk r (λ s. s ≡ Done → SampleDecides number (sample_answer number budget))
      no_end (Ok s) is = λ done. absurd cc
      no_end (Err e) is = tt

  -- the run ended
  pub ended : (c : Account) (p : Program) (a b d : Option (List ℕ)) (m n k turns terms : ℕ) (r : Result Status WriteError)
      (end : BracketPolynomial) → c ≡ sample_of number → KeepsNames c p → polynomial_of p ≡ conclusion_polynomial c → Ran p
      → (run_of (sample_options budget) p).stop ≡ None → turns ≡ turns_of (run_of (sample_options budget) p)
      → LastEnds (run_of (sample_options budget) p) end → IsNormal p.rank 64 end → value end ≡ polynomial_of p
      → terms ≡ length end.terms → Writes {T = ⊤} a b m n (Ok tt) (first ∷ [])
      → Writes b d n k r (counted (codes "turns") turns ∷ counted (codes "terms") terms ∷ verdict_word (terms == 0) ∷ [])
      → IfOk r (λ s. s ≡ Done)
      → PutsAnswer (λ x. x ≡ sample_answer number budget) (λ s. s ≡ Done) (SampleDecides number) r a d m k
  ended c p a b d m n k turns terms r end is keeps concludes ran no_stop counted_turns last normal same counted_terms put more status =
      let there : log.stop ≡ None = ap (λ (l : Log). l.stop) (sym ran) ∙ no_stop in
      let ends : LastEnds log end = subst (λ (l : Log). LastEnds l end) ran last in
      let number_of_turns : turns ≡ turns_of log = counted_turns ∙ ap turns_of ran in
      let number_of_terms : terms ≡ terms_at_end log.objects = counted_terms ∙ sym (terms_of log end ends) in
      let zero : (terms == 0) ≡ ends_in_zero log.objects =
      ap (λ (t : ℕ). t == 0) counted_terms ∙ sym (zero_end log end ends) in
      let lines : counted (codes "turns") turns ∷ counted (codes "terms") terms ∷ verdict_word (terms == 0) ∷ []
      ≡ summary_lines log =
      ap (λ (t : ℕ). counted (codes "turns") t ∷ counted (codes "terms") terms ∷ verdict_word (terms == 0) ∷ []) number_of_turns
      ∙ ap (λ (t : ℕ). counted (codes "turns") (turns_of log) ∷ counted (codes "terms") t ∷ verdict_word (terms == 0) ∷ []) number_of_terms
      ∙ ap (λ (z : Bool). counted (codes "turns") (turns_of log) ∷ counted (codes "terms") (terms_at_end log.objects)
      ∷ verdict_word z ∷ []) zero in
      let told : summary_lines log ≡ rest = ap (run_tells log) (sym there) in
      let finished : run_status log.stop ≡ Done = ap run_status there in
      record {
        answer = sample_answer number budget;
        right = refl;
        status = subst (λ (x : Status). IfOk r (λ s. s ≡ x)) (sym finished) status;
        means = whenever r (record {
          polynomial = end;
          normal = subst (λ (d : ℕ). IsNormal d 64 end) (keeps.0 ∙ ap (λ (x : Account). x.rank) is) normal;
          same_value = same ∙ concludes ∙ ap conclusion_polynomial is;
          turns = turns_of log;
          tells = ap (λ (ls : List (List ℕ)). first ∷ ls)
              (sym told
              ∙ ap (λ (t : ℕ). counted (codes "turns") (turns_of log) ∷ counted (codes "terms") t
              ∷ verdict_word (ends_in_zero log.objects) ∷ []) (terms_of log end ends)
              ∙ ap (λ (z : Bool). counted (codes "turns") (turns_of log) ∷ counted (codes "terms") (length end.terms)
              ∷ verdict_word z ∷ []) (zero_end log end ends));
        });
        writes = puts_more a b d m n k r (first ∷ []) rest put
            (subst (λ (ls : List (List ℕ)). Writes b d n k r ls) (lines ∙ told) more);
      }
    where
      whenever : (r : Result Status WriteError) → SampleDecides number (sample_answer number budget)
          → IfOk r (λ s. s ≡ Done → SampleDecides number (sample_answer number budget))
      whenever (Ok s) decides = λ done. decides
      whenever (Err e) decides = tt
