-- How a log grows by an instruction, and what stands last in it.
use Rattle.std.proofs.Common.{◌≡◌, ℕ, zero, suc, ◌+◌, ◌-◌, Bool, true, false, cond, List, [], ◌∷◌, ◌++◌, length}
use Rattle.std.proofs.Common.{refl, sym, ap, subst, ◌∙◌}
use Rattle.std.proofs.Common.{append_assoc, append-nil, arith}
use Rattle.std.specs.Prelude.{Option, Some, None, Result, Ok, Err, slice_get}
use Rattle.std.specs.List.{cons_option}
use lib.ListN.{length-append}
use Rattle.coordinate_model.specs.BracketPolynomial.{BracketPolynomial}
use Rattle.coordinate_model.specs.Key.{Key, key_cmp}
use Rattle.coordinate_model.proofs.KeyProducts.{key_total, key_same}
use Rattle.coordinate_model.proofs.Members.{no_terms}
use Rattle.coordinate_model.specs.Starts.{Product, Entry, has_term}
use Rattle.coordinate_model.specs.Sums.{Terms}
use Rattle.coordinate_model.specs.Value.{Value}
use Rattle.step_types.specs.declared.measure.Measure.{Measure}
use Rattle.bracket_poly.specs.Sections.{Rewritten, Worked, value_from}
use Rattle.bracket_poly.specs.Tracked.{Tracked, Limit, nothing}
use Rattle.cayley_terms.specs.declared.instr.Instr.{Instr}
use Rattle.cayley_terms.specs.declared.instr.Instr.TheVariants.{Free, Join, Meet, On, Conic}
use Rattle.cayley_terms.specs.Programs.{IsLast}
use Rattle.cayley_terms.specs.Starts.{products_of, value_at}
use Rattle.cayley_terms.specs.Starts as operation
use Rattle.conic_points.specs.Makings.{made_of}
use Rattle.shuffle_meet.specs.SectionStarts.{section_starts}
use Rattle.shuffle_meet.specs.Stops.{first_stop}
use Rattle.straightening.specs.Runs.{Stop, limit_stop}
use Rattle.cayley_run.specs.Courses.{last_of, first_polynomial, last_polynomial}
use Rattle.cayley_run.specs.RunLaws.{LastEnds}
use Rattle.cayley_run.specs.Runs.{Log, with_object, with_start, with_starts, with_stop, with_sections, with_instr}
use Rattle.cayley_run.specs.Runs.{run_on}
use Rattle.cayley_run.specs.Sections.{Sections}

-- ---- one object more

-- the log has one object more, and the value of its sections
pub record Gains (old new : Log) : Type 0 where
  pub object : Worked
  pub objects : new.objects ≡ old.objects ++ object ∷ []
  pub values : new.values ≡ old.values ++ value_from object.sections ∷ []

sections_gain : (step : ℕ) (log : Log) (s : Sections) → Gains log (with_sections step log s)
sections_gain step log s = record {
  object = record { number = length log.objects + 1; step = step; sections = s.sections };
  objects = refl;
  values = refl;
}

object_gains : (d step : ℕ) (ps : List Product) (log : Log) → Gains log (with_object d step ps log)
object_gains d step ps log = by_limit (first_stop [] ps)
  where
    by_limit : (o : Option Limit) → Gains log (elim o as (λ _. Log) [
      | Some limit ↦ with_stop step (limit_stop limit) log
      | None ↦ with_starts step (section_starts d step ps) log
    ])
    by_limit (Some limit) =
        sections_gain step log (record { sections = []; left = log.left; stop = Some (limit_stop limit) })
    by_limit None = sections_gain step log _

start_gains : (step : ℕ) (made : Result Tracked Limit) (log : Log) → Gains log (with_start step made log)
start_gains step (Err limit) log =
    sections_gain step log (record { sections = []; left = log.left; stop = Some (limit_stop limit) })
start_gains step (Ok start) log = sections_gain step log _

-- ---- the last object

-- the last value is that of the last object's sections
pub record LastIs (log : Log) : Type 0 where
  pub before : List Value
  pub front : List Worked
  pub object : Worked
  pub values : log.values ≡ before ++ value_from object.sections ∷ []
  pub objects : log.objects ≡ front ++ object ∷ []

last_of_gains : (old new : Log) → Gains old new → LastIs new
last_of_gains old new g = record {
  before = old.values;
  front = old.objects;
  object = g.object;
  values = g.values;
  objects = g.objects;
}

-- it is behind the conclusion's instruction
pub conclusion_last : (d : ℕ) (before : List Measure) (log : Log) (instr : Instr) (step : ℕ) → IsLast d before instr
    → LastIs (with_instr d log (instr, step))
conclusion_last d before log (Free i) step h = absurd h.steps
conclusion_last d before log (Join a b) step h =
    last_of_gains log _ (object_gains d step (products_of operation.Join d log.values a b) log)
conclusion_last d before log (Meet a b) step h =
    last_of_gains log _ (object_gains d step (products_of operation.Meet d log.values a b) log)
conclusion_last d before log (On a b s t) step h = absurd h.steps
conclusion_last d before log (Conic p1 p2 p3 p4 p5 p6) step h = last_of_gains log _ (start_gains step _ log)

-- the last item
last_there : {A : Type 0} (xs : List A) (x : A) → slice_get (xs ++ x ∷ []) (length (xs ++ x ∷ []) - 1) ≡ Some x
last_there {A} xs x =
    let e : length (xs ++ x ∷ []) ≡ length xs + 1 = length-append xs (x ∷ []) in
    let f : length (xs ++ x ∷ []) - 1 ≡ length xs = omega arith in
    ap (λ n. slice_get (xs ++ x ∷ []) n) f ∙ seam xs
  where
    seam : (xs : List A) → slice_get (xs ++ x ∷ []) (length xs) ≡ Some x
    seam [] = refl
    seam (y ∷ xs) = seam xs

last_same : {A : Type 0} (xs ys : List A) (x y : A) → xs ++ x ∷ [] ≡ ys ++ y ∷ [] → x ≡ y
last_same xs ys x y e =
    let same : Some x ≡ Some y = sym (last_there xs x) ∙ ap last_of e ∙ last_there ys y in cc

-- where a section ends so, its value begins so
first_of_end : (s : Rewritten) (end : BracketPolynomial) → s.end ≡ Some end
    → first_polynomial (value_from (s ∷ [])) ≡ end
first_of_end s end e = ap by_end e ∙ by_terms end.terms refl
  where
    by_end : Option BracketPolynomial → BracketPolynomial
    by_end o =
        first_polynomial (cons_option (elim o as (λ _. Option Entry) [
          | None ↦ None
          | Some f ↦ cond (has_term (s.scalar, f)) (Some (s.scalar, f)) None
        ]) [])

    begins : Terms Key → BracketPolynomial
    begins ts =
        first_polynomial
        (cons_option (cond (elim ts as (λ _. Bool) [ [] ↦ false | t ∷ us ↦ true ]) (Some (s.scalar, end)) None) [])

    by_terms : (ts : Terms Key) → end.terms ≡ ts → by_end (Some end) ≡ end
    by_terms [] e = ap begins e ∙ sym (no_terms key_cmp key_total key_same end e)
    by_terms (t ∷ ts) e = ap begins e

-- so the last value has the polynomial with which the last section ends
pub last_ends : (log : Log) (end : BracketPolynomial) → LastIs log → LastEnds log end → last_polynomial log.values ≡ end
last_ends log end is ends =
    let same : is.object ≡ record { number = ends.number; step = ends.step; sections = ends.section ∷ [] } =
    last_same is.front ends.front is.object _ (sym is.objects ∙ ends.last) in
    ap by_last (ap last_of is.values ∙ last_there is.before (value_from is.object.sections))
    ∙ ap (λ (o : Worked). first_polynomial (value_from o.sections)) same ∙ first_of_end ends.section end ends.ends
  where
    by_last : Option Value → BracketPolynomial
    by_last o = elim o [ None ↦ nothing.sum | Some v ↦ first_polynomial v ]

-- ---- a run only adds objects

-- the new log has the objects of the old one, and others behind them
pub record Extends (old new : Log) : Type 0 where
  pub more : List Worked
  pub objects : new.objects ≡ old.objects ++ more

gains_extend : (old new : Log) → Gains old new → Extends old new
gains_extend old new g = record { more = g.object ∷ []; objects = g.objects }

pub instr_extends : (d : ℕ) (log : Log) (instr : Instr) (step : ℕ) → Extends log (with_instr d log (instr, step))
instr_extends d log (Free i) step = record { more = []; objects = sym (append-nil log.objects) }
instr_extends d log (Join a b) step =
    gains_extend log _ (object_gains d step (products_of operation.Join d log.values a b) log)
instr_extends d log (Meet a b) step =
    gains_extend log _ (object_gains d step (products_of operation.Meet d log.values a b) log)
instr_extends d log (On a b s t) step =
    gains_extend log _ (object_gains d step (products_of (operation.On s t) d log.values a b) log)
instr_extends d log (Conic p1 p2 p3 p4 p5 p6) step = gains_extend log _ (start_gains step _ log)

extends_more : (a b c : Log) → Extends a b → Extends b c → Extends a c
extends_more a b c e f = record {
  more = e.more ++ f.more;
  objects = f.objects ∙ ap (λ os. os ++ f.more) e.objects ∙ append_assoc a.objects e.more f.more;
}

pub run_extends : (d : ℕ) (log : Log) (instrs : List (Instr × ℕ)) → Extends log (run_on d log instrs)
run_extends d log [] = record { more = []; objects = sym (append-nil log.objects) }
run_extends d log (instr ∷ instrs) = by_stop log.stop (run_extends d (with_instr d log instr) instrs)
  where
    by_stop : (o : Option Stop) → Extends (with_instr d log instr) (run_on d (with_instr d log instr) instrs)
        → Extends log (elim o as (λ _. Log) [ Some stop ↦ log | None ↦ run_on d (with_instr d log instr) instrs ])
    by_stop (Some stop) ih = record { more = []; objects = sym (append-nil log.objects) }
    by_stop None ih = extends_more log (with_instr d log instr) _ (instr_extends d log instr.0 instr.1) ih
