-- The answers of the mode that compares.
use Rattle.std.proofs.Common.{◌≡◌, ℕ, Bool, List, [], ◌∷◌, ◌++◌, codes, Option, Some, Result, Ok, Err, IfOk}
use Rattle.std.proofs.Common.{refl, sym, ap, subst, ◌∙◌, append-nil}
use Rattle.std.specs.Prelude.{⊤}
use Rattle.std.specs.Result.{IsErrAnd}
use Rattle.coordinate_model.specs.Sequences.{IsRank}
use Rattle.coordinate_model.specs.BracketPolynomial.{BracketPolynomial}
use Rattle.construction_reader.specs.Said.{Account}
use Rattle.step_types.specs.Checks.{names_of}
use Rattle.cayley_terms.specs.Meaning.{conclusion_polynomial}
use Rattle.straightening.specs.Runs.{Stop}
use Rattle.cayley_run.specs.declared.answer.Options.{Options}
use Rattle.cayley_run.specs.Runs.{Log}
use Rattle.proof_text.specs.Terms.{polynomial_lines}
use Rattle.proof_text.specs.Writes.{Writes}
use Rattle.proof_text.specs.declared.error.WriteError.{WriteError}
use Rattle.proof_text.proofs.Writing.{same_lines}
use Rattle.prover.specs.declared.status.Status.{Status}
use Rattle.prover.specs.declared.status.Status.TheVariants.{Stopped}
use Rattle.prover.specs.Alike.{AreAlike}
use Rattle.prover.specs.Answer.{Answer, IsVerdict}
use Rattle.prover.specs.Ends.{EndsWith, same_terms, same_ends}
use Rattle.prover.specs.Modes.Prove.{verdict}
use Rattle.prover.specs.Modes.Same.{run_lines, unless_stopped, behind_run, comparison}
use Rattle.prover.specs.Modes.Same.{equal_or_different, equal_word, PairDecides}
use Rattle.prover.specs.Outcome.{PutsAnswer}
use Rattle.prover.specs.Runs.{log_of, last_end}
use Rattle.prover.proofs.RunEnds.{values_decide}
use Rattle.prover.proofs.RunLines.{end_of_run}
use Rattle.prover.proofs.Outcomes.{puts_more, puts_less, puts_ok}
use Rattle.prover.proofs.Puts.{put, put_failed, stop_is_none}

-- ---- two constructions

module _ (options : Options) (c e : Account) where
  abbrev first : Log
  first = log_of options c

  abbrev second : Log
  second = log_of options e

  abbrev first_lines : List (List ℕ)
  first_lines = codes "first" ∷ run_lines (names_of c) first

  abbrev second_lines : List (List ℕ)
  second_lines = codes "second" ∷ run_lines (names_of e) second

  abbrev equal : Bool
  equal = same_ends (last_end first.objects) (last_end second.objects)

  -- what is told behind the second run, and behind the first
  abbrev behind_second : Answer
  behind_second = unless_stopped second.stop (equal_or_different equal)

  abbrev second_answer : Answer
  second_answer = behind_run (codes "second") (names_of e) second.stop (last_end second.objects) (equal_or_different equal)

  abbrev behind_first : Answer
  behind_first = unless_stopped first.stop second_answer

  abbrev Puts : Result Status WriteError → Option (List ℕ) → Option (List ℕ) → ℕ → ℕ → Type 0
  Puts r a b m n = PutsAnswer (λ x. x ≡ comparison options c e) IsVerdict (PairDecides c e) r a b m n

  -- the first run is not put
  pub first_failed : (a b : Option (List ℕ)) (m n : ℕ) (r : Result Status WriteError) (x : WriteError)
      → IsErrAnd r (λ y. y ≡ x) → Writes {T = ⊤} a b m n (Err x) first_lines → Puts r a b m n
  first_failed a b m n r x is wrote =
      put_failed (λ x. x ≡ comparison options c e) IsVerdict (PairDecides c e) (comparison options c e) refl a b m n r x is
      (puts_less a b m n x r first_lines behind_first.lines is wrote)

  -- it is, and it stopped
  pub first_stopped : (a b : Option (List ℕ)) (m n : ℕ) (stop : Stop) → first.stop ≡ Some stop
      → Writes {T = ⊤} a b m n (Ok tt) first_lines → Puts (Ok Stopped) a b m n
  first_stopped a b m n stop is wrote =
      let more : behind_first ≡ record { status = Stopped; lines = [] } = ap (λ (s : Option Stop). unless_stopped s second_answer) is in
      let status : (comparison options c e).status ≡ Stopped = ap (λ (x : Answer). x.status) more in
      put (λ x. x ≡ comparison options c e) IsVerdict (PairDecides c e) (comparison options c e) refl a b m n (Ok Stopped)
      (sym status) (λ decided. absurd (stop_is_none (subst IsVerdict status decided)))
      (puts_ok a b m n Stopped (comparison options c e).lines
      (same_lines a b m n (Ok tt) first_lines (comparison options c e).lines
      (sym (ap (λ (x : Answer). first_lines ++ x.lines) more ∙ append-nil first_lines)) wrote))

  -- the first run ended, and was put
  module _ (f : BracketPolynomial) (ended : EndsWith options c f) where
    more_is : behind_first ≡ second_answer
    more_is = ap (λ (s : Option Stop). unless_stopped s second_answer) ended.no_stop

    -- what is put further is put behind it
    all_lines : (a b d : Option (List ℕ)) (m n k : ℕ) (r : Result Status WriteError)
        → Writes {T = ⊤} a b m n (Ok tt) first_lines → Writes b d n k r second_answer.lines
        → Writes a d m k r (comparison options c e).lines
    all_lines a b d m n k r wrote more =
        puts_more a b d m n k r first_lines behind_first.lines wrote
        (subst (λ (x : Answer). Writes b d n k r x.lines) (sym more_is) more)

    -- the second is not put
    pub second_failed : (a b d : Option (List ℕ)) (m n k : ℕ) (r : Result Status WriteError) (x : WriteError)
        → IsErrAnd r (λ y. y ≡ x) → Writes {T = ⊤} a b m n (Ok tt) first_lines
        → Writes {T = ⊤} b d n k (Err x) second_lines → Puts r a d m k
    second_failed a b d m n k r x is wrote more =
        put_failed (λ x. x ≡ comparison options c e) IsVerdict (PairDecides c e) (comparison options c e) refl a d m k r x is
        (all_lines a b d m n k r wrote (puts_less b d n k x r second_lines behind_second.lines is more))

    -- it is, and it stopped
    pub second_stopped : (a b d : Option (List ℕ)) (m n k : ℕ) (stop : Stop) → second.stop ≡ Some stop
        → Writes {T = ⊤} a b m n (Ok tt) first_lines → Writes {T = ⊤} b d n k (Ok tt) second_lines
        → Puts (Ok Stopped) a d m k
    second_stopped a b d m n k stop is wrote further =
        let more : behind_second ≡ record { status = Stopped; lines = [] } =
        ap (λ (s : Option Stop). unless_stopped s (equal_or_different equal)) is in
        let status : (comparison options c e).status ≡ Stopped =
        ap (λ (x : Answer). x.status) more_is ∙ ap (λ (x : Answer). x.status) more in
        put (λ x. x ≡ comparison options c e) IsVerdict (PairDecides c e) (comparison options c e) refl a d m k (Ok Stopped)
        (sym status) (λ decided. absurd (stop_is_none (subst IsVerdict status decided)))
        (all_lines a b d m n k (Ok Stopped) wrote
        (puts_ok b d n k Stopped second_answer.lines
        (same_lines b d n k (Ok tt) second_lines second_answer.lines
        (sym (ap (λ (x : Answer). second_lines ++ x.lines) more ∙ append-nil second_lines)) further)))

    -- both ended, and then the verdict
    module _ (g : BracketPolynomial) (also : EndsWith options e g) (rank : IsRank c.rank)
        (alike : AreAlike (names_of c) (names_of e)) where
      verdict_is : behind_second ≡ equal_or_different (same_terms f g)
      verdict_is =
          ap (λ (s : Option Stop). unless_stopped s (equal_or_different equal)) also.no_stop
          ∙ ap (λ (x : Option BracketPolynomial). equal_or_different (same_ends x (last_end second.objects))) ended.last
          ∙ ap (λ (x : Option BracketPolynomial). equal_or_different (same_ends (Some f) x)) also.last

      status_is : (comparison options c e).status ≡ verdict (same_terms f g)
      status_is = ap (λ (x : Answer). x.status) more_is ∙ ap (λ (x : Answer). x.status) verdict_is

      lines_are : (comparison options c e).lines
          ≡ codes "first" ∷ (polynomial_lines (names_of c) f
          ++ (codes "second" ∷ (polynomial_lines (names_of e) g ++ equal_word (same_terms f g) ∷ [])))
      lines_are =
          ap (λ (x : Answer). first_lines ++ x.lines) (more_is)
          ∙ ap (λ (x : Answer). first_lines ++ (second_lines ++ x.lines)) verdict_is
          ∙ ap (λ (ls : List (List ℕ)). (codes "first" ∷ ls) ++ (second_lines ++ equal_word (same_terms f g) ∷ []))
          (end_of_run options c f ended)
          ∙ ap (λ (ls : List (List ℕ)). codes "first" ∷ (polynomial_lines (names_of c) f
          ++ ((codes "second" ∷ ls) ++ equal_word (same_terms f g) ∷ []))) (end_of_run options e g also)

      pub decides : PairDecides c e (comparison options c e)
      decides = record {
        alike = alike;
        first = f;
        first_normal = ended.normal;
        first_value = ended.same_value;
        second = g;
        second_normal = also.normal;
        second_value = also.same_value;
        equal = same_terms f g;
        decides = values_decide c.rank e.rank f g (conclusion_polynomial c) (conclusion_polynomial e) rank
            (sym alike.rank) ended.normal also.normal ended.same_value also.same_value;
        status = status_is;
        lines = lines_are;
      }

      pub both_ended : (a b d w : Option (List ℕ)) (m n k l : ℕ) (r : Result Status WriteError) (same : Bool)
          → same ≡ same_terms f g → Writes {T = ⊤} a b m n (Ok tt) first_lines
          → Writes {T = ⊤} b d n k (Ok tt) second_lines → Writes d w k l r (equal_word same ∷ [])
          → IfOk r (λ s. s ≡ verdict same) → Puts r a w m l
      both_ended a b d w m n k l r same is wrote further last status =
          put (λ x. x ≡ comparison options c e) IsVerdict (PairDecides c e) (comparison options c e) refl a w m l r
          (subst (λ (s : Status). IfOk r (λ t. t ≡ s)) (ap verdict is ∙ sym status_is) status) (λ decided. decides)
          (all_lines a b w m n l r wrote
          (puts_more b d w n k l r second_lines behind_second.lines further
          (subst (λ (ls : List (List ℕ)). Writes d w k l r ls)
          (ap (λ (x : Bool). equal_word x ∷ []) is ∙ sym (ap (λ (x : Answer). x.lines) verdict_is)) last)))
