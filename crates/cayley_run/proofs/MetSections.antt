-- What the sections and the objects of the code have met.
use Rattle.std.proofs.Common.{◌≡◌, ℕ, ◌+◌, ◌<◌, List, [], ◌∷◌, ◌++◌, map, zip, drop, length}
use Rattle.std.proofs.Common.{get_or, refl, sym, ap, subst, ◌∙◌, append_assoc, append-nil}
use Rattle.std.specs.Prelude.{Option, Some, None, Result, Ok, Err, IfOk}
use Rattle.std.specs.List.{AllByRecursion}
use Rattle.coordinate_model.proofs.Hom.{map-append}
use Rattle.coordinate_model.proofs.Splits.{all_append}
use Rattle.bracket_terms.specs.Joins.{points_of}
use Rattle.bracket_terms.specs.declared.extensor.Extensor.{Extensor}
use Rattle.bracket_terms.specs.declared.log_use.LogUse.{LogUse}
use Rattle.bracket_terms.specs.LogUses.{use_of}
use Rattle.bracket_poly.specs.Kept.{TrackedOf}
use Rattle.bracket_poly.specs.Sections.{worked_of}
use Rattle.bracket_poly.specs.Tracked.{Tracked}
use Rattle.bracket_poly.specs.declared.section.ObjectLog.{ObjectLog}
use Rattle.bracket_poly.specs.declared.section.Section.{Section}
use Rattle.cayley_terms.specs.declared.instr.Instr.{Instr}
use Rattle.cayley_terms.specs.declared.program.Program.{Program}
use Rattle.contraction.specs.Passes.{contracted}
use Rattle.contraction.specs.Results as passes
use Rattle.contraction.specs.declared.contracted.Contracted.{Contracted}
use Rattle.shuffle_meet.specs.Stops.{Start}
use Rattle.straightening.specs.Results.{IsEnd}
use Rattle.straightening.specs.Runs.{Stop, run}
use Rattle.straightening.specs.declared.straight.Straight.{Straight}
use Rattle.cayley_run.specs.MetKeys.{EndsSo, HaveMet, AllHaveMet, section_start, instr_starts, starts_on, starts_of_run}
use Rattle.cayley_run.specs.Runs.{Log, at_start, with_instr}
use Rattle.cayley_run.specs.Seen.{IsBehind, RewritesSo, starts_of}
use Rattle.cayley_run.specs.declared.answer.Options.{Options}
use Rattle.cayley_run.specs.declared.rewriting.Rewriting.{Rewriting}
use Rattle.cayley_run.proofs.EndingLaws.{starts_left}
use Rattle.cayley_run.proofs.MetLaws.{plus_uses, plus-further, run_last, contracted_last}

-- ---- rewritings

-- a run that ended
pub straight_met : {d : ℕ} (s : Straight d) (budget : ℕ) (p : Tracked) → IsEnd s (run budget p)
    → s.normal.tracked ≡ plus_uses p (map use_of s.uses)
straight_met s budget p e = e.normal ∙ run_last budget p ∙ ap (plus_uses p) (sym e.uses)

-- where nothing ended, nothing is said
pub stopped_met : {d : ℕ} (p : Tracked) (r : Rewriting d) → r.end ≡ None → RewritesSo p r
stopped_met {d = d} p r e =
    subst (λ (o : Option (TrackedOf d)). elim o as (λ _. Type 0) [
      | None ↦ Unit {0}
      | Some end ↦ end.tracked ≡ plus_uses p (map use_of r.uses)
    ]) (sym e) tt

-- the end of what begins with this polynomial, by its uses
abbrev EndIs : {d : ℕ} → Tracked → List (LogUse d) → Option (TrackedOf d) → Type 0
EndIs p uses o = elim o [ None ↦ Unit {0} | Some end ↦ end.tracked ≡ plus_uses p (map use_of uses) ]

-- turns behind passes
pub behind_met : {d : ℕ} {E : Type 0} (p : Tracked) (result : Result (Rewriting d) E) (turned : Rewriting d)
    (done : Contracted d) → passes.IsEnd done (contracted p) → RewritesSo done.poly.tracked turned
    → IfOk result (λ r. IsBehind r turned (map use_of done.uses)) → IfOk result (RewritesSo p)
behind_met p (Err error) turned done e h b = tt
behind_met {d = d} p (Ok r) turned done e h b =
    subst (λ (o : Option (TrackedOf d)). EndIs p r.uses o) (sym b.end) (by_end turned.end h)
  where
    passed : done.poly.tracked ≡ plus_uses p (map use_of done.uses)
    passed = e.poly ∙ contracted_last p ∙ ap (plus_uses p) (sym e.uses)

    by_end : (o : Option (TrackedOf d)) → EndIs done.poly.tracked turned.uses o → EndIs p r.uses o
    by_end None k = tt
    by_end (Some end) k =
        plus-further p done.poly.tracked end.tracked (map use_of done.uses) (map use_of turned.uses) passed k
        ∙ ap (plus_uses p) (sym b.uses)

-- ---- sections

-- the section of a rewriting
pub section_met : {d : ℕ} (s : Section d) (start : TrackedOf d) (r : Rewriting d) → s.start ≡ start → s.uses ≡ r.uses
    → s.end ≡ r.end → RewritesSo start.tracked r → EndsSo s
section_met {d = d} s start r starts uses ends h =
    subst (λ (p : TrackedOf d). EndIs p.tracked s.uses s.end) (sym starts)
    (subst (λ (us : List (LogUse d)). EndIs start.tracked us s.end) (sym uses)
    (subst (λ (o : Option (TrackedOf d)). EndIs start.tracked r.uses o) (sym ends) h))

-- the first sections of starts, of which these are left
pub record MetSoFar {d : ℕ} (done : List (Section d)) (starts left : List Start) : Type 0 where
  pub begin : starts ≡ map section_start done ++ left
  pub end : AllByRecursion EndsSo done

pub none_met : {d : ℕ} (starts left : List Start) → left ≡ starts → MetSoFar {d = d} [] starts left
none_met {d = d} starts left e = record { begin = sym e; end = tt }

pub more_met : {d : ℕ} (old new : List (Section d)) (s : Section d) (starts left next : List Start)
    → MetSoFar old starts left → left ≡ section_start s ∷ next → new ≡ old ++ s ∷ [] → EndsSo s
    → MetSoFar new starts next
more_met {d = d} old new s starts left next h split pushed ends =
    subst (λ (ss : List (Section d)). MetSoFar ss starts next) (sym pushed)
    (record {
      begin =
          h.begin ∙ ap (λ xs. map section_start old ++ xs) split
          ∙ sym (append_assoc (map section_start old) (section_start s ∷ []) next)
          ∙ ap (λ xs. xs ++ next) (sym (map-append section_start old (s ∷ [])));
      end = all_append EndsSo old (s ∷ []) h.end (ends, tt);
    })

-- the section of one start more of the code
pub section_more : {d : ℕ} (all : List (Extensor × TrackedOf d)) (i : ℕ) (x : Extensor × TrackedOf d)
    (old new : List (Section d)) (s : Section d) (r : Rewriting d) → i < length all → x ≡ get_or all i x
    → MetSoFar old (starts_of all) (starts_of (drop i all)) → new ≡ old ++ s ∷ [] → s.scalar ≡ x.0 → s.start ≡ x.1
    → s.uses ≡ r.uses → s.end ≡ r.end → RewritesSo x.1.tracked r
    → MetSoFar new (starts_of all) (starts_of (drop (i + 1) all))
section_more all i x old new s r below found h pushed scalar start uses end rewrites =
    more_met old new s (starts_of all) (starts_of (drop i all)) (starts_of (drop (i + 1) all)) h
    (starts_left all i x below found
    ∙ sym (λ j. (points_of (scalar j), (start j).tracked) ∷ starts_of (drop (i + 1) all)))
    pushed (section_met s x.1 r start uses end rewrites)

pub have_met : {d : ℕ} (done : List (Section d)) (starts left : List Start) → MetSoFar done starts left
    → HaveMet done starts
have_met done starts left h = record { others = left; begin = h.begin; end = h.end }

-- ---- objects

pub object_met : {d : ℕ} (objects : List (ObjectLog d)) (object : ObjectLog d) (all : List (List Start))
    (starts : List Start) → AllHaveMet objects all → HaveMet object.sections starts
    → AllHaveMet (objects ++ object ∷ []) (all ++ starts ∷ [])
object_met [] object [] starts h m = (m, tt)
object_met [] object (xs ∷ all) starts h m = absurd h
object_met (o ∷ objects) object [] starts h m = absurd h
object_met (o ∷ objects) object (xs ∷ all) starts h m = (h.0, object_met objects object all starts h.1 m)

-- ---- runs

-- these objects have met what the run of the program meets, which goes on from this log with these instructions
pub record MetFrom {d : ℕ} (options : Options) (p : Program) (objects : List (ObjectLog d)) (log : Log)
    (instrs : List (Instr × ℕ)) : Type 0 where
  pub done : List (List Start)
  pub starts : starts_of_run options p ≡ done ++ starts_on p.rank log instrs
  pub met : AllHaveMet objects done

from_start : (options : Options) (p : Program)
    → starts_of_run options p ≡ starts_on p.rank (at_start options) (zip p.instrs p.steps)
unfolding starts_of_run
from_start options p = refl

pub met_begins : {d : ℕ} (options : Options) (p : Program) (objects : List (ObjectLog d)) (log : Log)
    → map worked_of objects ≡ [] → log ≡ at_start options → MetFrom options p objects log (zip p.instrs p.steps)
met_begins {d = d} options p objects log none e = record {
  done = [];
  starts = from_start options p ∙ ap (λ l. starts_on p.rank l (zip p.instrs p.steps)) (sym e);
  met = none_there objects none;
}
  where
    none_there : (objects : List (ObjectLog d)) → map worked_of objects ≡ [] → AllHaveMet objects []
    none_there [] e = tt
    none_there (object ∷ objects) e = cc

-- with one instruction more
pub met_goes_on : {d : ℕ} (options : Options) (p : Program) (objects more : List (ObjectLog d)) (log new : Log)
    (instr : Instr × ℕ) (instrs all : List (Instr × ℕ)) → p.rank ≡ d → MetFrom options p objects log all
    → all ≡ instr ∷ instrs → log.stop ≡ None → new ≡ with_instr d log instr
    → ((starts : List (List Start)) → AllHaveMet objects starts
    → AllHaveMet more (starts ++ instr_starts d log.values instr))
    → MetFrom options p more new instrs
met_goes_on {d = d} options p objects more log new instr instrs all rank h split going made adds = record {
  done = h.done ++ instr_starts d log.values instr;
  starts =
      h.starts ∙ ap (λ xs. h.done ++ starts_on p.rank log xs) split
      ∙ ap (λ n. h.done ++ starts_on n log (instr ∷ instrs)) rank
      ∙ ap (λ (o : Option Stop). h.done ++ elim o as (λ _. List (List Start)) [
        | Some stop ↦ []
        | None ↦ instr_starts d log.values instr ++ starts_on d (with_instr d log instr) instrs
      ]) going
      ∙ ap (λ l. h.done ++ (instr_starts d log.values instr ++ starts_on d l instrs)) (sym made)
      ∙ ap (λ n. h.done ++ (instr_starts d log.values instr ++ starts_on n new instrs)) (sym rank)
      ∙ sym (append_assoc h.done (instr_starts d log.values instr) (starts_on p.rank new instrs));
  met = adds h.done h.met;
}

-- a run that has stopped, and one with no instruction left
pub met_stops : {d : ℕ} (options : Options) (p : Program) (objects : List (ObjectLog d)) (log : Log)
    (instrs : List (Instr × ℕ)) (stop : Stop) → MetFrom options p objects log instrs → log.stop ≡ Some stop
    → AllHaveMet objects (starts_of_run options p)
met_stops options p objects log instrs stop h e =
    subst (λ (ss : List (List Start)). AllHaveMet objects ss)
    (sym (h.starts ∙ ap (λ ss. h.done ++ ss) (none instrs) ∙ append-nil h.done)) h.met
  where
    none : (instrs : List (Instr × ℕ)) → starts_on p.rank log instrs ≡ []
    none [] = refl
    none (instr ∷ instrs) =
        ap (λ (o : Option Stop). elim o as (λ _. List (List Start)) [
          | Some stop ↦ []
          | None ↦ instr_starts p.rank log.values instr ++ starts_on p.rank (with_instr p.rank log instr) instrs
        ]) e

pub met_ends : {d : ℕ} (options : Options) (p : Program) (objects : List (ObjectLog d)) (log : Log)
    (instrs : List (Instr × ℕ)) → MetFrom options p objects log instrs → instrs ≡ []
    → AllHaveMet objects (starts_of_run options p)
met_ends options p objects log instrs h e =
    subst (λ (ss : List (List Start)). AllHaveMet objects ss)
    (sym (h.starts ∙ ap (λ xs. h.done ++ starts_on p.rank log xs) e ∙ append-nil h.done)) h.met
