-- A run that is written as it goes writes the lines of the program's run.
use Rattle.std.proofs.Common.{◌≡◌, ℕ, ◌+◌, ◌-◌, ◌^◌, ◌<◌, ◌≤◌, List, [], ◌∷◌, ◌++◌, drop, length, get_or, refl, sym}
use Rattle.std.proofs.Common.{ap, ap₂, subst, ◌∙◌, arith, append_assoc}
use Rattle.std.specs.Prelude.{⊤, Option, Some, None, Result, Ok, Err, flat_map}
use Rattle.std.specs.List.{AllByRecursion}
use Rattle.std.specs.Option.{option_map}
use Rattle.std.proofs.lemmas.List.Concat.{flat_map-append}
use Rattle.coordinate_model.proofs.Splits.{all_front}
use Rattle.coordinate_model.specs.BracketPolynomial.{BracketPolynomial, IsNormal, value}
use Rattle.coordinate_model.specs.Value as model
use Rattle.bracket_poly.specs.Sections.{Worked}
use Rattle.cayley_terms.specs.Kept.{IsNamed, polynomial_of}
use Rattle.cayley_terms.specs.declared.instr.Instr.{Instr}
use Rattle.cayley_terms.specs.declared.instr.Instr.TheVariants.{Free}
use Rattle.cayley_terms.specs.declared.program.Program.{Program}
use Rattle.conic_points.specs.Points.{values_of}
use Rattle.proof_text.specs.Proofs.{object_lines, IsSectionNamed}
use Rattle.proof_text.specs.Writes.{Writes}
use Rattle.proof_text.specs.declared.error.WriteError.{WriteError}
use Rattle.proof_text.specs.declared.error.WriteError.TheVariants as write_error
use Rattle.proof_text.proofs.Writing.{writes_nothing, writes_more, writes_less, same_lines}
use Rattle.step_types.specs.declared.names.Names.{Names}
use Rattle.straightening.specs.Runs.{Stop}
use Rattle.cayley_run.specs.Courses.{IsCourseOf, AreNextNamed, last_polynomial}
use Rattle.cayley_run.specs.Failures.{failure_of}
use Rattle.cayley_run.specs.Ready.{IsReady}
use Rattle.cayley_run.specs.Results.{stop_of}
use Rattle.cayley_run.specs.RunLaws.{LastEnds, MeansProgram}
use Rattle.cayley_run.specs.Runs.{Log, at_start, turns_of, with_instr, run_on, run_of}
use Rattle.cayley_run.specs.Seen.{steps_in}
use Rattle.cayley_run.specs.Written.{AreNamed, AnswersSummary, IsSummary, run_lines, written_of}
use Rattle.cayley_run.specs.declared.answer.IntoError.{IntoError}
use Rattle.cayley_run.specs.declared.answer.Options.{Options}
use Rattle.cayley_run.specs.declared.answer.StopKind.{StopKind}
use Rattle.cayley_run.specs.declared.answer.Summary.{Summary}
use Rattle.cayley_run.specs.declared.course.Course.{Course}
use Rattle.cayley_run.proofs.LogEnds.{Extends, instr_extends, run_extends, last_ends}
use Rattle.cayley_run.proofs.NamedLogs.{log_named}
use Rattle.cayley_run.proofs.RunBounds.{run_is_within}
use Rattle.cayley_run.proofs.RunMeaning.{run_means, last_is_normal}
use Rattle.cayley_run.proofs.RunSteps.{IsRunFrom, run_begins, next_ready, next_room, run_new, run_goes_on}
use Rattle.cayley_run.proofs.RunSteps.{run_stops, run_ends, run_last}

-- ---- lines

lines_further : (names : Names) (old new : Log) (more : List Worked) → new.objects ≡ old.objects ++ more
    → run_lines names old ++ flat_map (object_lines names) more ≡ run_lines names new
lines_further names old new more e =
    sym (flat_map-append (object_lines names) old.objects more) ∙ ap (λ os. flat_map (object_lines names) os) (sym e)

-- ---- failures

written_failure : (d : ℕ) (error : WriteError) → written_of {d = d} (Err (failure_of error)) ≡ Err error
written_failure d write_error.Write = refl
written_failure d write_error.Memory = refl

-- a failure tells nothing of the run
pub answers_failure : (d : ℕ) (error : WriteError) (into : IntoError) (p : Program) (log : Log) → into ≡ failure_of
    error
    → AnswersSummary {d = d} (Err into) p log
answers_failure d error into p log e =
    subst (λ (i : IntoError). AnswersSummary {d = d} (Err i) p log) (sym e) (by_error error)
  where
    by_error : (error : WriteError) → AnswersSummary {d = d} (Err (failure_of error)) p log
    by_error write_error.Write = tt
    by_error write_error.Memory = tt

-- ---- the run so far

-- the run goes on from a log of which all lines were written, and which says what is kept
pub record IsWritten {d : ℕ} (names : Names) (options : Options) (p : Program) (c : Course d) (instrs : List Instr)
    (later : List ℕ) (held holds : Option (List ℕ)) (before now : ℕ) : Type 0 where
  pub log : Log
  pub is : IsCourseOf c log
  pub from : IsRunFrom options p log (steps_in c.values.items) instrs later
  pub wrote : Writes {T = ⊤} held holds before now (Ok tt) (run_lines names log)

pub into_begins : {d : ℕ} (names : Names) (options : Options) (p : Program) (c : Course d) (held : Option (List ℕ))
    (faults : ℕ) → IsCourseOf c (at_start options) → steps_in c.values.items ≡ []
    → IsWritten names options p c p.instrs p.steps held held faults faults
into_begins names options p c held faults is none = record {
  log = at_start options;
  is = is;
  from = run_begins options p (at_start options) (steps_in c.values.items) refl none;
  wrote = writes_nothing held faults;
}

module _ {d : ℕ} (names : Names) (options : Options) (p : Program) (rank : p.rank ≡ d) (c : Course d) (k : ℕ)
    (instrs : List Instr) (later : List ℕ) (same_instrs : instrs ≡ p.instrs) (same_steps : later ≡ p.steps)
    (below : k < length instrs) (held holds : Option (List ℕ)) (before now : ℕ)
    (h : IsWritten names options p c (drop k p.instrs) (drop k p.steps) held holds before now) where
  abbrev instr : Instr
  instr = get_or instrs k (Free 0)

  abbrev step : ℕ
  step = get_or later k 0

  abbrev steps : List ℕ
  steps = steps_in c.values.items

  abbrev new : Log
  new = with_instr d h.log (instr, step)

  pub into_ready : IsReady d steps (values_of c.values.items) instr step
  into_ready =
      subst (λ (vs : List model.Value). IsReady d steps vs instr step) (sym h.is.values)
      (next_ready options p d rank h.log steps k instrs later same_instrs same_steps below h.from)

  pub into_room : c.objects + 1 < 2 ^ 32
  into_room =
      let room : length h.log.objects + 1 < 2 ^ 32 =
      next_room options p d rank h.log steps k instrs later same_instrs same_steps below h.from in
      let count : c.objects ≡ length h.log.objects = h.is.count in
      omega arith

  -- the whole run extends the log behind the instruction
  whole : Extends new (run_of options p)
  whole =
      subst (λ (l : Log). Extends new l)
      (sym (run_new options p d rank h.log steps k instrs later same_instrs same_steps below h.from new
      (steps ++ step ∷ [])
      refl refl))
      (run_extends p.rank new _)

  pub into_named : AllByRecursion (IsNamed names) p.instrs → AreNextNamed names c instr step
  into_named named = (
    h.log,
    h.is,
    all_front (λ (o : Worked). AllByRecursion (IsSectionNamed names) o.sections) new.objects whole.more
        (subst (AreNamed names) whole.objects (log_named names p (run_of options p) (run_is_within options p) named)),
  )

  -- what was written of the instruction
  abbrev Puts : Result ⊤ WriteError → Option (List ℕ) → ℕ → Type 0
  Puts r next upto =
      (log : Log) (more : List Worked) → IsCourseOf c log → (with_instr d log (instr, step)).objects ≡ log.objects ++
      more
      → Writes {T = ⊤} holds next now upto r (flat_map (object_lines names) more)

  extends : Extends h.log new
  extends = instr_extends d h.log instr step

  module _ (next : Option (List ℕ)) (upto : ℕ) where
    module _ (after : Course d) (done : (log : Log) → IsCourseOf c log → IsCourseOf after
        (with_instr d log (instr, step)))
        (stepped : steps_in after.values.items ≡ steps ++ step ∷ []) (puts : Puts (Ok tt) next upto) where
      wrote_new : Writes {T = ⊤} held next before upto (Ok tt) (run_lines names new)
      wrote_new =
          same_lines held next before upto (Ok tt) _ (run_lines names new)
          (lines_further names h.log new extends.more extends.objects)
          (writes_more held holds next before now upto (Ok tt) (run_lines names h.log)
          (flat_map (object_lines names) extends.more) h.wrote (puts h.log extends.more h.is extends.objects))

      -- the run goes on
      pub into_goes_on : after.stop ≡ None
          → IsWritten names options p after (drop (k + 1) p.instrs) (drop (k + 1) p.steps) held next before upto
      into_goes_on going = record {
        log = new;
        is = done h.log h.is;
        from =
            run_goes_on options p d rank h.log steps k instrs later same_instrs same_steps below h.from new
            (steps_in after.values.items) refl stepped
            (sym (done h.log h.is).stop ∙ ap (λ (o : Option StopKind). option_map stop_of o) going);
        wrote = wrote_new;
      }

      -- or it has stopped
      module _ (kind : StopKind) (stop : after.stop ≡ Some kind) where
        pub into_stops : (run_of options p).stop ≡ Some (stop_of kind)
        into_stops = ap (λ (l : Log). l.stop) all ∙ stopped
          where
            stopped : new.stop ≡ Some (stop_of kind)
            stopped =
                sym (done h.log h.is).stop ∙ ap (λ (o : Option StopKind). option_map stop_of o) stop

            all : run_of options p ≡ new
            all =
                run_stops options p d rank h.log steps k instrs later same_instrs same_steps below h.from new
                (steps_in after.values.items) refl stepped (stop_of kind) stopped

        pub into_stop_wrote : Writes {T = ⊤} held next before upto (Ok tt) (run_lines names (run_of options p))
        into_stop_wrote =
            subst (λ (l : Log). Writes {T = ⊤} held next before upto (Ok tt) (run_lines names l)) (sym all) wrote_new
          where
            all : run_of options p ≡ new
            all =
                run_stops options p d rank h.log steps k instrs later same_instrs same_steps below h.from new
                (steps_in after.values.items) refl stepped (stop_of kind)
                (sym (done h.log h.is).stop ∙ ap (λ (o : Option StopKind). option_map stop_of o) stop)

    -- the instruction was not written
    module _ (error : WriteError) (into : IntoError) (e : into ≡ failure_of error) (puts : Puts (Err error) next upto)
      where
        failed : Writes {T = ⊤} holds next now upto (Err error)
            (flat_map (object_lines names) extends.more ++ flat_map (object_lines names) whole.more)
        failed =
            writes_less holds next now upto error (Err error) (flat_map (object_lines names) extends.more)
            (flat_map (object_lines names) whole.more) refl (puts h.log extends.more h.is extends.objects)

        all_lines : run_lines names h.log
            ++ (flat_map (object_lines names) extends.more ++ flat_map (object_lines names) whole.more)
            ≡ run_lines names (run_of options p)
        all_lines =
            ap (λ ls. run_lines names h.log ++ ls) (sym (flat_map-append (object_lines names) extends.more whole.more))
            ∙ lines_further names h.log (run_of options p) (extends.more ++ whole.more)
            (whole.objects ∙ ap (λ os. os ++ whole.more) extends.objects
            ∙ append_assoc h.log.objects extends.more whole.more)

        pub into_failed : Writes {T = ⊤} held next before upto (written_of {d = d} (Err into))
            (run_lines names (run_of options p))
        into_failed =
            subst (λ (r : Result ⊤ WriteError). Writes {T = ⊤} held next before upto r
            (run_lines names (run_of options p)))
            (sym (ap (λ (i : IntoError). written_of {d = d} (Err i)) e ∙ written_failure d error))
            (same_lines held next before upto (Err error) _ (run_lines names (run_of options p)) all_lines
            (writes_more held holds next before now upto (Err error) (run_lines names h.log) _ h.wrote failed))

-- ---- the end

module _ {d : ℕ} (names : Names) (options : Options) (p : Program) (c : Course d) (k : ℕ) (held holds : Option (List ℕ))
    (before now : ℕ) (h : IsWritten names options p c (drop k p.instrs) (drop k p.steps) held holds before now)
    (over : length p.instrs ≤ k) where
  all_of_it : run_of options p ≡ h.log
  all_of_it = run_ends options p h.log (steps_in c.values.items) k h.from over

  -- all was written
  pub into_wrote : Writes {T = ⊤} held holds before now (Ok tt) (run_lines names (run_of options p))
  into_wrote =
      subst (λ (l : Log). Writes {T = ⊤} held holds before now (Ok tt) (run_lines names l)) (sym all_of_it) h.wrote

  no_stop : (run_of options p).stop ≡ None
  no_stop = ap (λ (l : Log). l.stop) all_of_it ∙ h.from.running

  means : MeansProgram p (run_of options p)
  means = run_means options p

  -- and this sums it up
  pub into_summary : (s : Summary d) → s.turns ≡ c.options.budget - c.left
      → s.end.tracked.sum ≡ last_polynomial (values_of c.values.items) → IsSummary s p (run_of options p)
  into_summary s turns end =
      let ends : (end : BracketPolynomial) × LastEnds (run_of options p) end × (value end ≡ polynomial_of p) =
      means.conclusion no_stop in
      let same : s.end.tracked.sum ≡ ends.0 =
      end ∙ ap last_polynomial h.is.values
      ∙ last_ends h.log ends.0 (run_last options p h.log (steps_in c.values.items) k h.from over)
      (subst (λ (l : Log). LastEnds l ends.0) all_of_it ends.1) in
      record {
        no_stop = no_stop;
        turns =
            turns ∙ ap₂ (λ (o : Options) (n : ℕ). o.budget - n) h.is.options h.is.left
            ∙ ap (λ (l : Log). turns_of l) (sym all_of_it);
        ends = subst (λ (f : BracketPolynomial). LastEnds (run_of options p) f) (sym same) ends.1;
        normal =
            subst (IsNormal p.rank 64) (sym same)
            (last_is_normal p.rank (run_of options p) ends.0 means.sections ends.1);
        same_value = ap (λ (f : BracketPolynomial). value f) same ∙ ends.2;
      }
