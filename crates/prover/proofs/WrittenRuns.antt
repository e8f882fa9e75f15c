-- Runs that nothing stopped: what they wrote is accepted as it is read back, and is a proof within the
-- limits of a text.
use Rattle.std.proofs.Common.{◌≡◌, ℕ, ◌+◌, ◌≤◌, Bool, List, [], ◌∷◌, ◌++◌, map, length, Option, Some, None, refl, sym}
use Rattle.std.proofs.Common.{ap}
use Rattle.std.proofs.Common.{ap₂, subst, ◌∙◌, append_assoc, append-nil, get_or}
use Rattle.std.specs.Prelude.{T}
use Rattle.std.specs.FinMap.{is_sorted}
use Rattle.std.specs.List.{AllByRecursion}
use Rattle.std.specs.List.Sorted.{IsStrictlyIncreasing}
use Rattle.std.proofs.Math.Seq.{get_or-append_seam}
use lib.ListN.{length-append}
use Rattle.coordinate_model.specs.Sequences.{IsRank}
use Rattle.coordinate_model.specs.BracketPolynomial.{BracketPolynomial}
use Rattle.coordinate_model.specs.Key.{row_cmp}
use Rattle.coordinate_model.specs.Starts.{Entry}
use Rattle.coordinate_model.specs.Value.{Value}
use Rattle.coordinate_model.proofs.Hom.{map-append}
use Rattle.coordinate_model.proofs.Increasing.{increasing_next}
use Rattle.coordinate_model.proofs.Splits.{all_so, all_append}
use Rattle.step_types.specs.declared.measure.Measure.{Measure}
use Rattle.step_types.specs.declared.names.Names.{Names}
use Rattle.bracket_poly.specs.Sections.{Rewritten, Worked, value_from}
use Rattle.cayley_terms.specs.declared.instr.Instr.{Instr}
use Rattle.cayley_terms.specs.declared.instr.Instr.TheVariants.{Free, Join, Meet, On, Conic}
use Rattle.cayley_terms.specs.Instrs.{instr_measure}
use Rattle.cayley_terms.specs.Programs.{IsInner, EndsInOne, NamesEarlier}
use Rattle.cayley_terms.specs.Starts.{free_value}
use Rattle.shuffle_meet.specs.Stops.{Start}
use Rattle.straightening.specs.Runs.{Stop}
use Rattle.cayley_run.specs.Bounds.{HasNumbers}
use Rattle.cayley_run.specs.RunLaws.{AllEndWell}
use Rattle.cayley_run.specs.Runs.{Log, with_free, with_starts, with_instr, run_on}
use Rattle.cayley_run.specs.Sections.{Sections, Work, work, run_starts}
use Rattle.cayley_run.proofs.InstrLaws.{Made, measures_of, values_of, IsMade, Adds, made_of, inner_instr}
use Rattle.cayley_run.proofs.RunBounds.{Fits, inner_fits, last_fits, IsMadeWithin, instr_within}
use Rattle.cayley_run.proofs.RunMeaning.{with_steps, stopped, goes_on}
use Rattle.log_checker.specs.Accepted.{IsObjectAccepted, AreAccepted, claimed_entry}
use Rattle.log_checker.specs.Claims.{Claim, end_or_zero, rewriting, ended_value}
use Rattle.log_checker.specs.Objects.{point_of, object_steps}
use Rattle.proof_text.specs.Told.{IsObjectTold, AreObjectsTold}
use Rattle.prover.specs.Checked.{claim_read}
use Rattle.prover.proofs.WrittenSections.{claims_back}
use Rattle.prover.proofs.WrittenObjects.{Begins, begins, HasRisingValue}
use Rattle.prover.proofs.WrittenSections.{IsWritten, AreWritten, starts_written, same_entries, all_accepted, all_told}
use Rattle.prover.proofs.WrittenSections.{value_rises}
use Rattle.prover.proofs.WrittenSections.{IsStartOf}
use Rattle.prover.proofs.WrittenStarts.{Rises}
use Rattle.prover.proofs.WrittenUses.{IsGoing}

-- ---- the value of sections that are read back

ends_so : (contract : Bool) (start : Start) (s : Rewritten) → IsWritten contract start s
    → (f : BracketPolynomial) × (s.end ≡ Some f)
ends_so contract start s w =
    let done : Work = work contract w.budget start.1 in (
      done.turns.last.sum,
      ap (λ (r : Rewritten). r.end) w.is
          ∙ ap (λ (o : Option Stop). elim o as (λ _. Option BracketPolynomial) [
            | Some stop ↦ None
            | None ↦ Some done.turns.last.sum
          ]) w.ended,
    )

back_again : (s : Rewritten) (f : BracketPolynomial) → s.end ≡ Some f → rewriting (claim_read s) ≡ s
back_again s f e =
    let end : Some (end_or_zero s.end) ≡ s.end =
    ap (λ (o : Option BracketPolynomial). Some (end_or_zero o)) e ∙ sym e in
    λ j. record { scalar = s.scalar; start = s.start; uses = s.uses; end = end j }

all_back_again : (contract : Bool) (starts : List Start) (ss : List Rewritten) → AreWritten contract starts ss
    → map rewriting (map claim_read ss) ≡ ss
all_back_again contract [] [] h = refl
all_back_again contract [] (s ∷ ss) h = absurd h
all_back_again contract (start ∷ starts) [] h = absurd h
all_back_again contract (start ∷ starts) (s ∷ ss) h =
    let end = ends_so contract start s h.0 in
    ap₂ (λ (r : Rewritten) (rs : List Rewritten). r ∷ rs) (back_again s end.0 end.1)
    (all_back_again contract starts ss h.1)

-- the entries that they claim
entries_back : (ss : List Rewritten) → map claimed_entry (map claim_read ss) ≡ map (λ s. (s.scalar, s.start)) ss
entries_back [] = refl
entries_back (s ∷ ss) = ap (λ (es : List Entry). (s.scalar, s.start) ∷ es) (entries_back ss)

-- ---- instructions one after another

-- the object of the instruction before those of the others
accept_more : (d : ℕ) (values : List Value) (instr : Instr) (step : ℕ) (instrs : List (Instr × ℕ)) (claims : List Claim)
    (objects : List (List Claim)) → point_of instr ≡ None → IsObjectAccepted d values instr step claims
    → AreAccepted d (values ++ ended_value claims ∷ []) instrs objects
    → AreAccepted d values ((instr, step) ∷ instrs) (claims ∷ objects)
accept_more d values (Free i) step instrs claims objects o h k = cc
accept_more d values (Join a b) step instrs claims objects o h k = (h, k)
accept_more d values (Meet a b) step instrs claims objects o h k = (h, k)
accept_more d values (On a b s t) step instrs claims objects o h k = (h, k)
accept_more d values (Conic p1 p2 p3 p4 p5 p6) step instrs claims objects o h k = (h, k)

steps_more : (instr : Instr) (step : ℕ) (instrs : List (Instr × ℕ)) → point_of instr ≡ None
    → object_steps ((instr, step) ∷ instrs) ≡ step ∷ object_steps instrs
steps_more (Free i) step instrs o = cc
steps_more (Join a b) step instrs o = refl
steps_more (Meet a b) step instrs o = refl
steps_more (On a b s t) step instrs o = refl
steps_more (Conic p1 p2 p3 p4 p5 p6) step instrs o = refl

-- the run goes on from one log to the other by these instructions, and what it writes is accepted and within the limits
pub record Writes (names : Names) (log new : Log) (instrs : List (Instr × ℕ)) : Type 0 where
  pub more : List Worked
  pub objects : new.objects ≡ log.objects ++ more
  pub accepted : AreAccepted names.rank log.values instrs (claims_back more)
  pub told : AreObjectsTold names (length log.objects + 1) (object_steps instrs) more

writes_nothing : (names : Names) (log : Log) → Writes names log log []
writes_nothing names log = record { more = []; objects = sym (append-nil log.objects); accepted = tt; told = tt }

-- what one instruction does, before others, and that the points of its value's extensors increase
record WritesOne (names : Names) (log new : Log) (instr : Instr) (step : ℕ) : Type 0 where
  before : (later : Log) (instrs : List (Instr × ℕ)) → Writes names new later instrs
      → Writes names log later ((instr, step) ∷ instrs)
  rises : (v : Value) → new.values ≡ log.values ++ v ∷ [] → AllByRecursion Rises v

last_same : (xs : List Value) (a b : Value) → xs ++ a ∷ [] ≡ xs ++ b ∷ [] → a ≡ b
last_same xs a b e =
    sym (get_or-append_seam xs a [] a) ∙ ap (λ ys. get_or ys (length xs) a) e ∙ get_or-append_seam xs b [] a

free_writes : (names : Names) (log : Log) (i step : ℕ) → WritesOne names log (with_free i log) (Free i) step
free_writes names log i step = record {
  before = λ later instrs w. record { more = w.more; objects = w.objects; accepted = w.accepted; told = w.told };
  rises = λ v e.
      subst (AllByRecursion Rises) (last_same log.values (free_value 64 i) v e)
      (increasing_next (i ∷ []) (tt, tt), tt);
}

module _ (names : Names) (rank : IsRank names.rank) (size : Measure) (rows : size.rows ≤ 64)
    (degree : size.degree ≤ 1000)
    (log : Log) (instr : Instr) (step : ℕ) (b : Begins names size log instr step) where
  abbrev made : Sections
  made = run_starts log.options.contract log.left b.starts

  abbrev object : Worked
  object = record { number = length log.objects + 1; step = step; sections = made.sections }

  module _ (ended : made.stop ≡ None) where
    written : AreWritten log.options.contract b.starts made.sections
    written = starts_written log.options.contract log.left b.starts ended

    object_accepted : IsObjectAccepted names.rank log.values instr step (map claim_read made.sections)
    object_accepted = record {
      starts = b.starts;
      made = b.made;
      same = same_entries log.options.contract b.starts made.sections written;
      sections =
          all_accepted names.rank rank log.options.contract b.starts made.sections
          (all_so (IsStartOf names.rank step) (λ start. IsGoing names.rank start.1) (λ start h. h.going) b.starts b.are)
          written;
    }

    object_told : IsObjectTold names (length log.objects + 1) step object
    object_told = record {
      number_is = refl;
      step_is = refl;
      sections =
          all_told names size rows degree rank log.options.contract step b.starts made.sections b.are written
          b.sections;
      ascending =
          subst (λ (es : List Entry). T (is_sorted row_cmp es))
          (same_entries log.options.contract b.starts made.sections written ∙ entries_back made.sections) b.ascend;
    }

    object_before : (later : Log) (instrs : List (Instr × ℕ)) → point_of instr ≡ None
        → Writes names (with_starts step b.starts log) later instrs → Writes names log later ((instr, step) ∷ instrs)
    object_before later instrs o w = record {
      more = object ∷ w.more;
      objects = w.objects ∙ append_assoc log.objects (object ∷ []) w.more;
      accepted =
          accept_more names.rank log.values instr step instrs (map claim_read made.sections) (claims_back w.more) o
          object_accepted
          (subst (λ (v : Value). AreAccepted names.rank (log.values ++ v ∷ []) instrs (claims_back w.more))
          (sym (ap value_from (all_back_again log.options.contract b.starts made.sections written))) w.accepted);
      told =
          subst (λ (ns : List ℕ). AreObjectsTold names (length log.objects + 1) ns (object ∷ w.more))
          (sym (steps_more instr step instrs o))
          (object_told, subst (λ n. AreObjectsTold names n (object_steps instrs) w.more) next w.told);
    }
      where
        next : length (log.objects ++ object ∷ []) + 1 ≡ length log.objects + 1 + 1
        next = ap (λ n. n + 1) (length-append log.objects (object ∷ []))

  -- what the instruction writes
  object_writes : point_of instr ≡ None → (with_instr names.rank log (instr, step)).stop ≡ None
      → WritesOne names log (with_instr names.rank log (instr, step)) instr step
  object_writes o stop =
      let ended : made.stop ≡ None = sym (ap (λ (l : Log). l.stop) b.new) ∙ stop in
      subst (λ (l : Log). WritesOne names log l instr step) (sym b.new)
      (record {
        before = λ later instrs w. object_before ended later instrs o w;
        rises = λ v e.
            subst (AllByRecursion Rises) (last_same log.values (value_from made.sections) v e)
            (value_rises log.options.contract b.starts made.sections
            (all_so (IsStartOf names.rank step) (λ start. IsStrictlyIncreasing start.0) (λ start h. h.row.1) b.starts
            b.are)
            (written ended));
      })

-- ---- runs

-- what holds of a log that has made these objects
pub record HasMade (names : Names) (made : List Made) (log : Log) : Type 0 where
  pub all : AllByRecursion (IsMade names.rank) made
  pub within : AllByRecursion (IsMadeWithin (length names.free) (length names.params)) made
  pub rising : AllByRecursion HasRisingValue made
  pub values : log.values ≡ values_of made
  pub sections : AllEndWell names.rank log.objects

free_or_not : (instr : Instr) → (P : Instr → Type 0) → ((i : ℕ) → P (Free i))
    → ((other : Instr) → point_of other ≡ None → P other) → P instr
free_or_not (Free i) P f g = f i
free_or_not (Join a b) P f g = g (Join a b) refl
free_or_not (Meet a b) P f g = g (Meet a b) refl
free_or_not (On a b s t) P f g = g (On a b s t) refl
free_or_not (Conic p1 p2 p3 p4 p5 p6) P f g = g (Conic p1 p2 p3 p4 p5 p6) refl

module _ (names : Names) (rank : IsRank names.rank) where
  abbrev measure_of : List Made → Instr → Measure
  measure_of made instr = instr_measure names.rank (measures_of made) instr

  abbrev behind : List Made → Log → Instr → Log
  behind made log instr = with_instr names.rank log (instr, (measure_of made instr).step)

  one_writes : (made : List Made) (log : Log) (instr : Instr) → HasMade names made log
      → NamesEarlier (measures_of made) instr → HasNumbers (length names.free) (length names.params) instr
      → Fits names.rank (measures_of made) instr → (measure_of made instr).rows ≤ 64
      → (measure_of made instr).degree ≤ 1000 → (behind made log instr).stop ≡ None
      → WritesOne names log (behind made log instr) instr (measure_of made instr).step
  one_writes made log instr h earlier numbers fits rows degree stop =
      free_or_not instr
      (λ i. NamesEarlier (measures_of made) i → HasNumbers (length names.free) (length names.params) i
      → Fits names.rank (measures_of made) i → (measure_of made i).rows ≤ 64 → (measure_of made i).degree ≤ 1000
      → (behind made log i).stop ≡ None → WritesOne names log (behind made log i) i (measure_of made i).step)
      (λ i e b f r g s. free_writes names log i (measure_of made (Free i)).step)
      (λ other o e b f r g s.
      object_writes names rank (measure_of made other) r g log other (measure_of made other).step
      (begins names rank made log h.all h.within h.rising h.values other o e b f g s) o s)
      earlier numbers fits rows degree
      stop

  -- one more that was made
  module _ (made : List Made) (log : Log) (instr : Instr) (h : HasMade names made log)
      (inner : IsInner names.rank (measures_of made) instr)
      (numbers : HasNumbers (length names.free) (length names.params) instr) where
    abbrev new : Log
    new = behind made log instr

    added : Adds names.rank log
        (λ v. IsMade names.rank (made_of names.rank rank made log h.all h.values h.sections instr v))
        (behind made log instr)
    added = inner_instr names.rank rank made log h.all h.values h.sections instr inner

    abbrev x : Made
    x = made_of names.rank rank made log h.all h.values h.sections instr added.value

    inner_writes : (behind made log instr).stop ≡ None
        → WritesOne names log (behind made log instr) instr (measure_of made instr).step
    inner_writes stop =
        one_writes made log instr h inner.earlier numbers (inner_fits names.rank (measures_of made) instr inner)
        inner.sized.rows inner.sized.degree stop

    made_more : (behind made log instr).stop ≡ None → HasMade names (made ++ x ∷ []) (behind made log instr)
    made_more stop = record {
      all = all_append (IsMade names.rank) made (x ∷ []) h.all (added.good stop, tt);
      within =
          all_append (IsMadeWithin (length names.free) (length names.params)) made (x ∷ []) h.within (
            (instr_within (length names.free) (length names.params) names.rank rank made log h.all h.within h.values
                instr numbers inner.earlier (inner_fits names.rank (measures_of made) instr inner)).value added.value
                added.values,
            tt,
          );
      rising =
          all_append HasRisingValue made (x ∷ []) h.rising
          ((inner_writes stop).rises added.value added.values, tt);
      values =
          added.values ∙ ap (λ vs. vs ++ added.value ∷ []) h.values
          ∙ sym (map-append (λ (y : Made). y.value) made (x ∷ []));
      sections = added.well;
    }

    measures_more : measures_of (made ++ x ∷ []) ≡ measures_of made ++ measure_of made instr ∷ []
    measures_more = map-append (λ (y : Made). y.measure) made (x ∷ [])

  pub run_writes : (made : List Made) (log : Log) (instrs : List Instr) → HasMade names made log → log.stop ≡ None
      → EndsInOne names.rank (measures_of made) instrs
      → AllByRecursion (HasNumbers (length names.free) (length names.params)) instrs
      → (run_on names.rank log (with_steps names.rank (measures_of made) instrs)).stop ≡ None
      → Writes names log (run_on names.rank log (with_steps names.rank (measures_of made) instrs))
      (with_steps names.rank (measures_of made) instrs)
  run_writes made log [] h e ends numbers stop = absurd ends
  run_writes made log (instr ∷ []) h e ends numbers stop =
      let same : run_on names.rank log ((instr, (measure_of made instr).step) ∷ []) ≡ behind made log instr =
      goes_on names.rank log e (instr, (measure_of made instr).step) [] in
      let ended : (behind made log instr).stop ≡ None = sym (ap (λ (l : Log). l.stop) same) ∙ stop in
      subst (λ (l : Log). Writes names log l ((instr, (measure_of made instr).step) ∷ [])) (sym same)
      ((one_writes made log instr h ends.earlier numbers.0 (last_fits names.rank (measures_of made) instr ends)
      ends.rows ends.degree ended).before (behind made log instr) [] (writes_nothing names (behind made log instr)))
  run_writes made log (instr ∷ next ∷ instrs) h e ends numbers stop =
      subst (λ (l : Log). Writes names log l ((instr, (measure_of made instr).step) ∷ rest)) (sym same)
      (by_stop (behind made log instr).stop refl
      (λ made log h e ends. run_writes made log (next ∷ instrs) h e ends numbers.1))
    where
      rest : List (Instr × ℕ)
      rest = with_steps names.rank (measures_of made ++ measure_of made instr ∷ []) (next ∷ instrs)

      same : run_on names.rank log ((instr, (measure_of made instr).step) ∷ rest)
          ≡ run_on names.rank (behind made log instr) rest
      same = goes_on names.rank log e (instr, (measure_of made instr).step) rest

      ended : (run_on names.rank (behind made log instr) rest).stop ≡ None
      ended = sym (ap (λ (l : Log). l.stop) same) ∙ stop

      by_stop : (o : Option Stop) → (behind made log instr).stop ≡ o
          → ((made : List Made) (log : Log) → HasMade names made log → log.stop ≡ None
          → EndsInOne names.rank (measures_of made) (next ∷ instrs)
          → (run_on names.rank log (with_steps names.rank (measures_of made) (next ∷ instrs))).stop ≡ None
          → Writes names log (run_on names.rank log (with_steps names.rank (measures_of made) (next ∷ instrs)))
          (with_steps names.rank (measures_of made) (next ∷ instrs)))
          → Writes names log (run_on names.rank (behind made log instr) rest)
          ((instr, (measure_of made instr).step) ∷ rest)
      by_stop (Some s) f ih =
          let halted : run_on names.rank (behind made log instr) rest ≡ behind made log instr =
          stopped names.rank (behind made log instr) s f rest in
          let both : Some s ≡ None = sym f ∙ sym (ap (λ (l : Log). l.stop) halted) ∙ ended in
          absurd cc
      by_stop None f ih =
          let m = measures_more made log instr h ends.0 numbers.0 in
          let more : HasMade names (made ++ x made log instr h ends.0 numbers.0 ∷ []) (behind made log instr) =
          made_more made log instr h ends.0 numbers.0 f in
          (inner_writes made log instr h ends.0 numbers.0 f).before
          (run_on names.rank (behind made log instr) rest) rest
          (subst (λ (ms : List Measure). Writes names (behind made log instr)
          (run_on names.rank (behind made log instr) (with_steps names.rank ms (next ∷ instrs)))
          (with_steps names.rank ms (next ∷ instrs))) m
          (ih (made ++ x made log instr h ends.0 numbers.0 ∷ []) (behind made log instr) more f
          (subst (λ (ms : List Measure). EndsInOne names.rank ms (next ∷ instrs)) (sym m) ends.1)
          (subst (λ (ms : List Measure).
          (run_on names.rank (behind made log instr) (with_steps names.rank ms (next ∷ instrs))).stop ≡ None)
          (sym m) ended)))
