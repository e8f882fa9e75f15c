-- Why the mode that compares has its status.
use Rattle.std.proofs.Common.{◌≡◌, ℕ, ◌⊎◌, Bool, true, false, inl, inr, List, codes, Option, Some, None, refl, sym, ap}
use Rattle.std.proofs.Common.{subst, ◌∙◌}
use Rattle.construction_reader.specs.Said.{Account}
use Rattle.step_types.specs.Checks.{names_of}
use Rattle.straightening.specs.Runs as turns
use Rattle.cayley_run.specs.Bounds.{RunIsWithin}
use Rattle.cayley_run.specs.RunLaws.{RunMeans}
use Rattle.cayley_run.specs.declared.answer.Options.{Options}
use Rattle.prover.specs.declared.parts.Fault.{Fault}
use Rattle.prover.specs.declared.status.Status.{Status}
use Rattle.prover.specs.declared.status.Status.TheVariants.{Proved, Done, Refuted, Usage, TextRefused, Stopped}
use Rattle.prover.specs.declared.status.Status.TheVariants.{ReadFault, WriteFault, Memory, ProofRefused, Unlike}
use Rattle.prover.specs.Answer.{Answer, refused}
use Rattle.prover.specs.Ends.{same_ends}
use Rattle.prover.specs.Modes.Same.{IsTextsAnswer, IsSameAnswer, IsTextsCause, IsSameCause, PairDecides, IsOneLong, AreShort}
use Rattle.prover.specs.Modes.Same.{GiveAlike, GiveBoth, CompareAtEnd, comparison, unlike, unless_stopped, behind_run, equal_or_different}
use Rattle.prover.specs.Parts.{IsFault, IsPart, refused_at}
use Rattle.prover.specs.Runs.{log_of, last_end, ComesToEnd}
use Rattle.prover.proofs.Comparisons as comparisons
use Rattle.prover.proofs.ConstructionRuns.{program, run_ends}
use Rattle.prover.proofs.PartLaws.{some_part}
use Rattle.prover.proofs.SameLaws.{long_or_both}
use Rattle.prover.proofs.VerdictCauses.{by_verdict, not_proved, not_refuted}

differ : (b : Bool) → b ≡ false → b ≡ true → ⊥
differ true n z = cc
differ false n z = cc

module _ (means : RunMeans) (within : RunIsWithin) (options : Options) (first second : List ℕ) where
  -- ---- two constructions that are alike

  module _ (c e : Account) (texts : GiveAlike first second c e) where
    abbrev told : Answer
    told = equal_or_different (same_ends (last_end (log_of options c).objects) (last_end (log_of options e).objects))

    abbrev behind : Answer
    behind = behind_run (codes "second") (names_of e) (log_of options e).stop (last_end (log_of options e).objects) told

    first_stops : (stop : turns.Stop) → (log_of options c).stop ≡ Some stop → (comparison options c e).status ≡ Stopped
    first_stops stop is = ap (λ (o : Option turns.Stop). (unless_stopped o behind).status) is

    first_goes_on : ComesToEnd options c → (comparison options c e).status ≡ behind.status
    first_goes_on is = ap (λ (o : Option turns.Stop). (unless_stopped o behind).status) is

    second_stops : (stop : turns.Stop) → (log_of options e).stop ≡ Some stop → behind.status ≡ Stopped
    second_stops stop is = ap (λ (o : Option turns.Stop). (unless_stopped o told).status) is

    pair_decides : ComesToEnd options c → ComesToEnd options e → PairDecides c e (comparison options c e)
    pair_decides ended also =
        let gives = texts.both.first_gives in
        let others = texts.both.second_gives in
        let f = run_ends c gives.good gives.gives.good options means ended within in
        let g = run_ends e others.good others.gives.good options means also within in
        comparisons.decides options c e f.0 f.1 g.0 g.1 (program c gives.good gives.gives.good).formed.rank texts.alike

    pair_cause : IsTextsCause options first second (comparison options c e).status
    pair_cause = by_first (log_of options c).stop refl
      where
        by_second : ComesToEnd options c → (o : Option turns.Stop) → (log_of options e).stop ≡ o
            → IsTextsCause options first second (comparison options c e).status
        by_second ended (Some stop) is =
            subst (IsTextsCause options first second) (sym (first_goes_on ended ∙ second_stops stop is))
            (c, e, texts, inr (stop, is))
        by_second ended None is =
            let decides = pair_decides ended is in
            let both : CompareAtEnd options first second c e =
            record { texts = texts; first_ends = ended; second_ends = is } in
            by_verdict (comparison options c e).status decides.equal decides.status (IsTextsCause options first second)
            (λ z. (c, e, both, decides.decides.0 z))
            (λ n. (c, e, both, λ same. differ decides.equal n (decides.decides.1 same)))

        by_first : (o : Option turns.Stop) → (log_of options c).stop ≡ o
            → IsTextsCause options first second (comparison options c e).status
        by_first (Some stop) is =
            subst (IsTextsCause options first second) (sym (first_stops stop is)) (c, e, texts, inl (stop, is))
        by_first None is = by_second is (log_of options e).stop refl

    stopped : ((stop : turns.Stop) × ((log_of options c).stop ≡ Some stop))
        ⊎ ((stop : turns.Stop) × ((log_of options e).stop ≡ Some stop)) → (comparison options c e).status ≡ Stopped
    stopped (inl (stop, is)) = first_stops stop is
    stopped (inr (stop, is)) = by_first (log_of options c).stop refl
      where
        by_first : (o : Option turns.Stop) → (log_of options c).stop ≡ o → (comparison options c e).status ≡ Stopped
        by_first (Some other) ended = first_stops other ended
        by_first None ended = first_goes_on ended ∙ second_stops stop is

    alike_answer : IsTextsAnswer options first second (comparison options c e)
    alike_answer =
        inr (texts.both.short, inr (c, texts.both.first_gives, inr (e, texts.both.second_gives, inr (texts.alike, refl))))

  -- ---- two texts

  texts_cause : (a : Answer) → IsTextsAnswer options first second a → IsTextsCause options first second a.status
  texts_cause a (inl (long, is)) = rw is (inl long)
  texts_cause a (inr (short, inl (f, fault, is))) = rw is (inr (inl (f, fault)))
  texts_cause a (inr (short, inr (c, gives, inl (f, fault, is)))) = rw is (inr (inr (f, fault)))
  texts_cause a (inr (short, inr (c, gives, inr (e, also, inl (difference, first_one, is))))) =
      let both : GiveBoth first second c e = record { short = short; first_gives = gives; second_gives = also } in
      rw is (c, e, both, difference, first_one)
  texts_cause a (inr (short, inr (c, gives, inr (e, also, inr (alike, is))))) =
      let both : GiveBoth first second c e = record { short = short; first_gives = gives; second_gives = also } in
      rw is (pair_cause c e (record { both = both; alike = alike }))

  -- a text that is too long or has a fault is refused
  abbrev Refuses : Type 0
  Refuses = (a : Answer) × IsTextsAnswer options first second a × (a.status ≡ TextRefused)

  long_refused : IsOneLong first second → Refuses
  long_refused long = (refused (codes "long"), inl (long, refl), refl)

  first_refused : (f : Fault) → IsFault first f → Refuses
  first_refused f is = elim (long_or_both options first second) [
    | inl long ↦ long_refused long
    | inr short ↦ (refused_at (codes "first ") f, inr (short, inl (f, is, refl)), refl)
  ]

  abbrev Tells : Fault → Account → Answer → Type 0
  Tells f c a = a ≡ refused_at (codes "second ") f

  -- where the second has a fault, the first has one too, or gives a construction
  second_refused : (f : Fault) → IsFault second f → Refuses
  second_refused f is = elim (long_or_both options first second) [
    | inl long ↦ long_refused long
    | inr short ↦ behind short (some_part (codes "first ") first (Tells f) (λ c gives. (refused_at (codes "second ") f, refl)))
  ]
    where
      behind : AreShort first second → (a : Answer) × IsPart (codes "first ") first (Tells f) a → Refuses
      behind short (a, inl (g, fault, e)) = (refused_at (codes "first ") g, inr (short, inl (g, fault, refl)), refl)
      behind short (a, inr (c, gives, e)) =
          (refused_at (codes "second ") f, inr (short, inr (c, gives, inl (f, is, refl))), refl)

  texts_answer : (s : Status) → IsTextsCause options first second s
      → (a : Answer) × IsTextsAnswer options first second a × (a.status ≡ s)
  texts_answer TextRefused (inl long) = long_refused long
  texts_answer TextRefused (inr (inl (f, is))) = first_refused f is
  texts_answer TextRefused (inr (inr (f, is))) = second_refused f is
  texts_answer Unlike (c, e, both, difference, is) = (
    unlike difference,
    inr (both.short, inr (c, both.first_gives, inr (e, both.second_gives, inl (difference, is, refl)))),
    refl,
  )
  texts_answer Stopped (c, e, texts, stops) =
      (comparison options c e, alike_answer c e texts, stopped c e texts stops)
  texts_answer Proved (c, e, both, same) =
      let decides = pair_decides c e both.texts both.first_ends both.second_ends in (
        comparison options c e,
        alike_answer c e both.texts,
        not_refuted (comparison options c e).status decides.equal decides.status
            (λ n. differ decides.equal n (decides.decides.1 same)),
      )
  texts_answer Refuted (c, e, both, other) =
      let decides = pair_decides c e both.texts both.first_ends both.second_ends in (
        comparison options c e,
        alike_answer c e both.texts,
        not_proved (comparison options c e).status decides.equal decides.status (λ z. other (decides.decides.0 z)),
      )
  texts_answer Done is = absurd is
  texts_answer Usage is = absurd is
  texts_answer ReadFault is = absurd is
  texts_answer WriteFault is = absurd is
  texts_answer Memory is = absurd is
  texts_answer ProofRefused is = absurd is

-- ---- inputs

module _ (means : RunMeans) (within : RunIsWithin) (options : Options) (input : List ℕ) where
  pub same_cause : (a : Answer) → IsSameAnswer options input a → IsSameCause options input a.status
  same_cause a is = record {
    first = is.first;
    second = is.second;
    texts = is.texts;
    cause = texts_cause means within options is.first is.second a is.is;
  }

  pub same_answer : (s : Status) → IsSameCause options input s
      → (a : Answer) × IsSameAnswer options input a × (a.status ≡ s)
  same_answer s is =
      let found = texts_answer means within options is.first is.second s is.cause in
      (found.0, record { first = is.first; second = is.second; texts = is.texts; is = found.1 }, found.2)
