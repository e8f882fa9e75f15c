-- Runs stay within the bounds of their programs.
use Rattle.std.proofs.Common.{◌≡◌, ℕ, ◌+◌, ◌-◌, ◌<◌, ◌≤◌, ◌==◌, List, [], ◌∷◌, ◌++◌, cond, map, zip, length, get_or, replicate}
use Rattle.std.proofs.Common.{true, zero, suc, refl, sym, ap, ap₂, subst, ◌∙◌, arith, append_assoc, append-nil}
use Rattle.std.specs.Prelude.{Option, Some, None, Result, Ok, Err}
use Rattle.std.specs.List.{AllByRecursion}
use Rattle.std.proofs.Math.Seq.{get_or-append_seam}
use Rattle.coordinate_model.specs.Sequences.{IsRank}
use Rattle.coordinate_model.specs.Starts.{Product, join_products, meet_products, on_products}
use Rattle.coordinate_model.specs.BracketPolynomial.{parameter_of}
use Rattle.coordinate_model.specs.Value.{Value}
use Rattle.coordinate_model.proofs.Hom.{map-append}
use Rattle.coordinate_model.proofs.KeySets.{all_single}
use Rattle.coordinate_model.proofs.Splits.{all_so, all_both, all_append}
use Rattle.coordinate_model.proofs.StartSizes.{IsEntry, IsSizedProduct}
use Rattle.step_types.specs.declared.measure.Measure.{Measure}
use Rattle.step_types.specs.declared.names.Names.{Names}
use Rattle.step_types.specs.Measures.{free_point}
use Rattle.bracket_poly.specs.Sections.{Worked, value_from}
use Rattle.bracket_poly.specs.Tracked.{Tracked, Limit}
use Rattle.conic_points.specs.Makings.{made_conic}
use Rattle.shuffle_meet.specs.Stops.{first_stop}
use Rattle.straightening.specs.Runs.{Stop, limit_stop}
use Rattle.cayley_terms.specs.declared.instr.Instr.{Instr}
use Rattle.cayley_terms.specs.declared.instr.Instr.TheVariants.{Free, Join, Meet, On, Conic}
use Rattle.cayley_terms.specs.Instrs.{measure_at, instr_measure, join_measure, meet_measure, on_measure, conic_measure}
use Rattle.cayley_terms.specs.Kept.{IsNamed}
use Rattle.cayley_terms.specs.Programs.{NamesEarlier, EndsInOne, IsInner, IsLast, steps_together}
use Rattle.cayley_terms.specs.Starts.{one_of, free_value}
use Rattle.cayley_run.specs.Sections.{Sections, run_starts}
use Rattle.shuffle_meet.specs.SectionStarts.{is_conclusion, section_starts}
use Rattle.cayley_run.specs.Runs.{Log, at_start, with_sections, with_object, with_start, with_instr, run_on, run_of}
use Rattle.cayley_run.specs.RunLaws.{AllEndWell}
use Rattle.cayley_run.specs.Bounds.{HasNumbers, IsKeyWithin, IsPolynomialWithin, IsSectionWithin, object_measures, AreWithin}
use Rattle.cayley_run.specs.Bounds.{RunIsWithin}
use Rattle.cayley_run.proofs.KeyBounds.{IsEntryWithin, IsProductWithin, joins_within, meets_within, mixed_within, conic_within}
use Rattle.cayley_run.proofs.SectionBounds.{starts_within, value_within, section_starts_within}
use Rattle.cayley_run.proofs.SectionLaws.{IsStart}
use Rattle.cayley_run.proofs.ConicStarts.{conic_start}
use Rattle.cayley_run.proofs.ObjectLaws.{starts-are}
use Rattle.cayley_run.proofs.InstrLaws.{Made, measures_of, values_of, IsMade, Adds, made_at, holds_at}
use Rattle.cayley_run.proofs.InstrLaws.{join_work, meet_work, on_work, made_of, plane_point, inner_instr}
use Rattle.cayley_run.proofs.RunMeaning.{new_behind, made-new, with_steps, stopped, goes_on}

-- ---- objects

last_same : {A : Type 0} (xs : List A) (a b : A) → xs ++ a ∷ [] ≡ xs ++ b ∷ [] → a ≡ b
last_same xs a b e =
    sym (get_or-append_seam xs a [] a) ∙ ap (λ ys. get_or ys (length xs) a) e ∙ get_or-append_seam xs b [] a

-- the new log has one object more, with its value, within the bounds
pub record AddsObject (n m : ℕ) (size : Measure) (log new : Log) : Type 0 where
  pub object : Worked
  pub objects : new.objects ≡ log.objects ++ object ∷ []
  pub within : AllByRecursion (IsSectionWithin n m size) object.sections
  pub value : (v : Value) → new.values ≡ log.values ++ v ∷ [] → AllByRecursion (IsEntryWithin n m size) v

adds_sections : (n m : ℕ) (size : Measure) (step : ℕ) (log : Log) (s : Sections)
    → AllByRecursion (IsSectionWithin n m size) s.sections → AddsObject n m size log (with_sections step log s)
adds_sections n m size step log s h = record {
  object = record { number = length log.objects + 1; step = step; sections = s.sections };
  objects = refl;
  within = h;
  value = λ v e.
      subst (AllByRecursion (IsEntryWithin n m size)) (last_same log.values (value_from s.sections) v e)
      (value_within n m size s.sections h);
}

-- a start that is made at once
module _ (n m : ℕ) (size : Measure) (d : ℕ) (rank : IsRank d) (made : Result Tracked Limit)
    (keys : (f : Tracked) → made ≡ Ok f → IsStart d 0 ([], f))
    (within : (f : Tracked) → made ≡ Ok f → IsPolynomialWithin n m size f.sum) (log : Log) where
  adds_made : AddsObject n m size log (with_start 0 made log)
  adds_made = by_made made refl
    where
      by_made : (r : Result Tracked Limit) → made ≡ r → AddsObject n m size log (with_start 0 r log)
      by_made (Err limit) e =
          adds_sections n m size 0 log (record { sections = []; left = log.left; stop = Some (limit_stop limit) }) tt
      by_made (Ok f) e =
          adds_sections n m size 0 log (run_starts log.options.contract log.left (([], f) ∷ []))
          (starts_within n m size d 0 rank log.options.contract log.left (([], f) ∷ []) (keys f e, tt)
          (record { points = tt; keys = within f e }, tt))

module _ (n m : ℕ) (size : Measure) (d a step : ℕ) (rank : IsRank d) (ps : List Product)
    (sized : AllByRecursion (IsSizedProduct d 64 a) ps) (none : is_conclusion d step ≡ true → a ≡ 0)
    (within : AllByRecursion (IsProductWithin n m size) ps) (log : Log) where
  pub adds_object : AddsObject n m size log (with_object d step ps log)
  adds_object = by_limit (first_stop [] ps)
    where
      by_limit : (o : Option Limit) → AddsObject n m size log (elim o [
        | Some limit ↦ with_sections step log (record { sections = []; left = log.left; stop = Some (limit_stop limit) })
        | None ↦ with_sections step log (run_starts log.options.contract log.left (section_starts d step ps))
      ])
      by_limit (Some limit) =
          adds_sections n m size step log (record { sections = []; left = log.left; stop = Some (limit_stop limit) }) tt
      by_limit None =
          adds_sections n m size step log (run_starts log.options.contract log.left (section_starts d step ps))
          (starts_within n m size d a rank log.options.contract log.left (section_starts d step ps)
          (starts-are d a step rank ps sized none)
          (section_starts_within n m size d step ps within))

-- ---- instructions

-- the steps of the operands add up to what a join or a meet needs
abbrev pub Fits : ℕ → List Measure → Instr → Type 0
Fits d before (Free i) = Unit {0}
Fits d before (Join a b) = steps_together before a b ≤ d
Fits d before (Meet a b) = d ≤ steps_together before a b
Fits d before (On a b s t) =
    ((measure_at before a).step ≡ 1) × ((measure_at before b).step ≡ 1) × (s < 64) × (t < 64)
Fits d before (Conic p1 p2 p3 p4 p5 p6) =
    (d ≡ 3) × AllByRecursion (λ n. (measure_at before n).step ≡ 1) (p1 ∷ p2 ∷ p3 ∷ p4 ∷ p5 ∷ p6 ∷ [])

pub inner_fits : (d : ℕ) (before : List Measure) (instr : Instr) → IsInner d before instr → Fits d before instr
inner_fits d before (Free i) h = tt
inner_fits d before (Join a b) h = let s : steps_together before a b < d = h.steps in omega arith
inner_fits d before (Meet a b) h = let s : d < steps_together before a b = h.steps in omega arith
inner_fits d before (On a b s t) h = h.steps
inner_fits d before (Conic p1 p2 p3 p4 p5 p6) h = absurd h.steps

pub last_fits : (d : ℕ) (before : List Measure) (instr : Instr) → IsLast d before instr → Fits d before instr
last_fits d before (Free i) h = tt
last_fits d before (Join a b) h = let s : steps_together before a b ≡ d = h.steps in omega arith
last_fits d before (Meet a b) h = let s : steps_together before a b ≡ d = h.steps in omega arith
last_fits d before (On a b s t) h = absurd h.steps
last_fits d before (Conic p1 p2 p3 p4 p5 p6) h = h.steps

-- a value within the bounds of its measure
abbrev pub IsMadeWithin : ℕ → ℕ → Made → Type 0
IsMadeWithin n m x = AllByRecursion (IsEntryWithin n m x.measure) x.value

-- the new log has objects more, within these measures
pub record Grows (n m : ℕ) (log : Log) (sizes : List Measure) (new : Log) : Type 0 where
  pub more : List Worked
  pub objects : new.objects ≡ log.objects ++ more
  pub within : AreWithin n m more sizes

-- and as many as these are, for one instruction
pub record GrowsByOne (n m : ℕ) (log : Log) (instr : Instr) (size : Measure) (new : Log) : Type 0 where
  pub grows : Grows n m log (object_measures (instr ∷ []) (size ∷ [])) new
  pub exact : length grows.more ≡ length (object_measures (instr ∷ []) (size ∷ []))
  pub value : (v : Value) → new.values ≡ log.values ++ v ∷ [] → AllByRecursion (IsEntryWithin n m size) v

free_within : (n m k i : ℕ) → i < n → IsEntryWithin n m free_point (i ∷ [], one_of k)
free_within n m k i h = record {
  points = (h, tt);
  keys =
      all_single (IsKeyWithin n m free_point) (record { exponents = replicate k 0; rows = [] })
      (record {
        points = tt;
        exponents = record { parameters = λ j g. at k j; small = each k };
        few = omega arith;
      });
}
  where
    at : (k j : ℕ) → get_or (replicate {A = ℕ} k 0) j 0 ≡ 0
    at zero j = refl
    at (suc k) zero = refl
    at (suc k) (suc j) = at k j

    each : (k : ℕ) → AllByRecursion (λ e. e ≤ 0) (replicate {A = ℕ} k 0)
    each zero = tt
    each (suc k) = (omega arith, each k)

module _ (n m d : ℕ) (rank : IsRank d) (made : List Made) (log : Log) (all : AllByRecursion (IsMade d) made)
    (within : AllByRecursion (IsMadeWithin n m) made) (values : log.values ≡ values_of made) where
  abbrev pub at : ℕ → Made
  at k = made_at made log values k

  pub is_at : (k : ℕ) → k < length (measures_of made) → IsMade d (made_at made log values k)
  is_at k h = holds_at made log values (IsMade d) all k h

  pub within_at : (k : ℕ) → k < length (measures_of made) → IsMadeWithin n m (made_at made log values k)
  within_at k h = holds_at made log values (IsMadeWithin n m) within k h

  pub sized_at : (k : ℕ) → k < length (measures_of made)
      → AllByRecursion (λ e. (length e.0 ≡ (at k).measure.step) × IsEntryWithin n m (at k).measure e) (at k).value
  sized_at k h =
      all_both (λ e. length e.0 ≡ (at k).measure.step) (IsEntryWithin n m (at k).measure) (at k).value
      (all_so (IsEntry d 64 (at k).figure.step) (λ e. length e.0 ≡ (at k).measure.step)
      (λ e i. i.points ∙ sym (is_at k h).step) (at k).value (is_at k h).entries)
      (within_at k h)

  one_object : (instr : Instr) (size : Measure) (new : Log) → object_measures (instr ∷ []) (size ∷ []) ≡ size ∷ []
      → AddsObject n m size log new → GrowsByOne n m log instr size new
  one_object instr size new e h = record {
    grows = record {
      more = h.object ∷ [];
      objects = h.objects;
      within = subst (AreWithin n m (h.object ∷ [])) (sym e) (h.within, tt);
    };
    exact = sym (ap (λ (ss : List Measure). length ss) e);
    value = h.value;
  }

  pub instr_within : (instr : Instr) → HasNumbers n m instr → NamesEarlier (measures_of made) instr
      → Fits d (measures_of made) instr
      → GrowsByOne n m log instr (instr_measure d (measures_of made) instr)
      (with_instr d log (instr, (instr_measure d (measures_of made) instr).step))
  instr_within (Free i) b h f = record {
    grows = record { more = []; objects = sym (append-nil log.objects); within = tt };
    exact = refl;
    value = λ v e.
        subst (AllByRecursion (IsEntryWithin n m free_point)) (last_same log.values (free_value 64 i) v e)
        (free_within n m 64 i b, tt);
  }
  instr_within (Join a b) c h f =
      let x : IsMade d (at a) = is_at a h.0 in
      let y : IsMade d (at b) = is_at b h.1.0 in
      let e : (at a).measure.step + (at b).measure.step ≡ (at a).figure.step + (at b).figure.step = ap₂ ◌+◌ x.step y.step in
      let few : (at a).figure.step + (at b).figure.step ≤ d = subst (λ k. k ≤ d) e f in
      let w = join_work d rank (at a) (at b) x y few in
      one_object (Join a b) (join_measure d (at a).measure (at b).measure)
      (with_object d ((at a).measure.step + (at b).measure.step) (join_products d (at a).value (at b).value) log) refl
      (adds_object n m (join_measure d (at a).measure (at b).measure) d
      (cond ((at a).figure.step + (at b).figure.step == d) 0 ((at a).figure.step + (at b).figure.step))
      ((at a).measure.step + (at b).measure.step) rank (join_products d (at a).value (at b).value) w.sized w.none
      (joins_within n m d (at a).measure (at b).measure (at a).value (at b).value (sized_at a h.0) (sized_at b h.1.0)) log)
  instr_within (Meet a b) c h f =
      let x : IsMade d (at a) = is_at a h.0 in
      let y : IsMade d (at b) = is_at b h.1.0 in
      let e : (at a).measure.step + (at b).measure.step ≡ (at a).figure.step + (at b).figure.step = ap₂ ◌+◌ x.step y.step in
      let enough : d ≤ (at a).figure.step + (at b).figure.step = subst (λ k. d ≤ k) e f in
      let w = meet_work d rank (at a) (at b) x y enough in
      one_object (Meet a b) (meet_measure d (at a).measure (at b).measure)
      (with_object d ((at a).measure.step + (at b).measure.step - d) (meet_products d (at a).value (at b).value) log) refl
      (adds_object n m (meet_measure d (at a).measure (at b).measure) d ((at a).figure.step + (at b).figure.step - d)
      ((at a).measure.step + (at b).measure.step - d) rank (meet_products d (at a).value (at b).value) w.sized w.none
      (meets_within n m d (at a).measure (at b).measure (at a).value (at b).value (within_at a h.0) (within_at b h.1.0)) log)
  instr_within (On a b s t) c h f =
      let x : IsMade d (at a) = is_at a h.0 in
      let y : IsMade d (at b) = is_at b h.1.0 in
      let products = on_products (parameter_of 64 s) (parameter_of 64 t) (at a).value (at b).value in
      let w = on_work d rank (at a) (at b) x y s t f.2 f.3 (sym x.step ∙ f.0) (sym y.step ∙ f.1) in
      one_object (On a b s t) (on_measure (at a).measure (at b).measure) (with_object d 1 products log) refl
      (adds_object n m (on_measure (at a).measure (at b).measure) d 1 1 rank products w.sized w.none
      (mixed_within n m (at a).measure (at b).measure s t c.0 c.1 (at a).value (at b).value (within_at a h.0)
      (within_at b h.1.0)) log)
  instr_within (Conic p1 p2 p3 p4 p5 p6) c h f =
      let t = f.1 in
      let x1 = plane_point d (at p1) (is_at p1 h.0) f.0 t.0 in
      let x2 = plane_point d (at p2) (is_at p2 h.1.0) f.0 t.1.0 in
      let x3 = plane_point d (at p3) (is_at p3 h.1.1.0) f.0 t.1.1.0 in
      let x4 = plane_point d (at p4) (is_at p4 h.1.1.1.0) f.0 t.1.1.1.0 in
      let x5 = plane_point d (at p5) (is_at p5 h.1.1.1.1.0) f.0 t.1.1.1.1.0 in
      let x6 = plane_point d (at p6) (is_at p6 h.1.1.1.1.1.0) f.0 t.1.1.1.1.1.0 in
      let size = conic_measure (at p1).measure (at p2).measure (at p3).measure (at p4).measure (at p5).measure (at p6).measure
      in
      let start = made_conic (at p1).value (at p2).value (at p3).value (at p4).value (at p5).value (at p6).value in
      one_object (Conic p1 p2 p3 p4 p5 p6) size (with_start 0 start log) refl
      (adds_made n m size d rank start
      (λ q e. subst (λ k. IsStart k 0 ([], q)) (sym f.0)
      (conic_start (at p1).value (at p2).value (at p3).value (at p4).value (at p5).value (at p6).value (at p1).figure
      (at p2).figure (at p3).figure (at p4).figure (at p5).figure (at p6).figure x1 x2 x3 x4 x5 x6 q e))
      (conic_within n m (at p1).measure (at p2).measure (at p3).measure (at p4).measure (at p5).measure (at p6).measure
      (at p1).value (at p2).value (at p3).value (at p4).value (at p5).value (at p6).value (within_at p1 h.0)
      (within_at p2 h.1.0) (within_at p3 h.1.1.0) (within_at p4 h.1.1.1.0) (within_at p5 h.1.1.1.1.0)
      (within_at p6 h.1.1.1.1.1.0))
      log)

-- ---- runs

first_measures : (instr : Instr) (size : Measure) (instrs : List Instr) (sizes : List Measure)
    → object_measures (instr ∷ instrs) (size ∷ sizes)
    ≡ object_measures (instr ∷ []) (size ∷ []) ++ object_measures instrs sizes
first_measures (Free i) size instrs sizes = refl
first_measures (Join a b) size instrs sizes = refl
first_measures (Meet a b) size instrs sizes = refl
first_measures (On a b s t) size instrs sizes = refl
first_measures (Conic p1 p2 p3 p4 p5 p6) size instrs sizes = refl

within_front : (n m : ℕ) (objects : List Worked) (sizes more : List Measure) → AreWithin n m objects sizes
    → AreWithin n m objects (sizes ++ more)
within_front n m [] sizes more h = tt
within_front n m (o ∷ objects) [] more h = absurd h
within_front n m (o ∷ objects) (size ∷ sizes) more h = (h.0, within_front n m objects sizes more h.1)

within_both : (n m : ℕ) (objects others : List Worked) (sizes more : List Measure) → AreWithin n m objects sizes
    → length objects ≡ length sizes → AreWithin n m others more → AreWithin n m (objects ++ others) (sizes ++ more)
within_both n m [] others [] more h e k = k
within_both n m [] others (size ∷ sizes) more h e k = absurd (omega arith)
within_both n m (o ∷ objects) others [] more h e k = absurd h
within_both n m (o ∷ objects) others (size ∷ sizes) more h e k =
    (h.0, within_both n m objects others sizes more h.1 (omega arith) k)

module _ (n m d : ℕ) (rank : IsRank d) where
  pub run_on_within : (made : List Made) (log : Log) (instrs : List Instr) → AllByRecursion (IsMade d) made
      → AllByRecursion (IsMadeWithin n m) made → log.values ≡ values_of made → AllEndWell d log.objects
      → log.stop ≡ None → EndsInOne d (measures_of made) instrs
      → AllByRecursion (HasNumbers n m) instrs
      → Grows n m log (object_measures instrs (new_behind (instr_measure d) (measures_of made) instrs))
      (run_on d log (with_steps d (measures_of made) instrs))
  run_on_within made log [] all within values sections e h b = absurd h
  run_on_within made log (instr ∷ []) all within values sections e h b =
      subst (Grows n m log (object_measures (instr ∷ []) (instr_measure d (measures_of made) instr ∷ [])))
      (sym (goes_on d log e (instr, (instr_measure d (measures_of made) instr).step) []))
      (instr_within n m d rank made log all within values instr b.0 h.earlier
      (last_fits d (measures_of made) instr h)).grows
  run_on_within made log (instr ∷ next ∷ instrs) all within values sections e h b =
      subst (Grows n m log (object_measures (instr ∷ next ∷ instrs) (size ∷ later)))
      (sym (goes_on d log e (instr, size.step) rest))
      (subst (λ sizes. Grows n m log sizes (run_on d new rest)) (sym (first_measures instr size (next ∷ instrs) later))
      (by_stop new.stop refl
      (λ x log all within values sections e h. run_on_within (made ++ x ∷ []) log (next ∷ instrs) all within values
      sections e h b.1)))
    where
      size : Measure
      size = instr_measure d (measures_of made) instr

      later : List Measure
      later = new_behind (instr_measure d) (measures_of made ++ size ∷ []) (next ∷ instrs)

      rest : List (Instr × ℕ)
      rest = with_steps d (measures_of made ++ size ∷ []) (next ∷ instrs)

      new : Log
      new = with_instr d log (instr, size.step)

      added : Adds d log (λ v. IsMade d (made_of d rank made log all values sections instr v)) new
      added = inner_instr d rank made log all values sections instr h.0

      x : Made
      x = made_of d rank made log all values sections instr added.value

      one : GrowsByOne n m log instr size new
      one =
          instr_within n m d rank made log all within values instr b.0 h.0.earlier
          (inner_fits d (measures_of made) instr h.0)

      -- the run from one more on
      Goes : Type 0
      Goes =
          (x : Made) (log : Log) → AllByRecursion (IsMade d) (made ++ x ∷ [])
          → AllByRecursion (IsMadeWithin n m) (made ++ x ∷ []) → log.values ≡ values_of (made ++ x ∷ [])
          → AllEndWell d log.objects → log.stop ≡ None → EndsInOne d (measures_of (made ++ x ∷ [])) (next ∷ instrs)
          → Grows n m log
          (object_measures (next ∷ instrs) (new_behind (instr_measure d) (measures_of (made ++ x ∷ [])) (next ∷ instrs)))
          (run_on d log (with_steps d (measures_of (made ++ x ∷ [])) (next ∷ instrs)))

      by_stop : (o : Option Stop) → new.stop ≡ o → Goes
          → Grows n m log (object_measures (instr ∷ []) (size ∷ []) ++ object_measures (next ∷ instrs) later)
          (run_on d new rest)
      by_stop (Some stop) s ih =
          subst (Grows n m log (object_measures (instr ∷ []) (size ∷ []) ++ object_measures (next ∷ instrs) later))
          (sym (stopped d new stop s rest))
          (record {
            more = one.grows.more;
            objects = one.grows.objects;
            within = within_front n m one.grows.more _ (object_measures (next ∷ instrs) later) one.grows.within;
          })
      by_stop None s ih =
          let same : measures_of (made ++ x ∷ []) ≡ measures_of made ++ size ∷ [] =
          map-append (λ (y : Made). y.measure) made (x ∷ []) in
          let g : Grows n m new (object_measures (next ∷ instrs) later) (run_on d new rest) =
          subst (λ (ms : List Measure). Grows n m new
          (object_measures (next ∷ instrs) (new_behind (instr_measure d) ms (next ∷ instrs)))
          (run_on d new (with_steps d ms (next ∷ instrs)))) same
          (ih x new (all_append (IsMade d) made (x ∷ []) all (added.good s, tt))
          (all_append (IsMadeWithin n m) made (x ∷ []) within (one.value added.value added.values, tt))
          (added.values ∙ ap (λ vs. vs ++ added.value ∷ []) values ∙ sym (map-append (λ (y : Made). y.value) made (x ∷ [])))
          added.well s (subst (λ (ms : List Measure). EndsInOne d ms (next ∷ instrs)) (sym same) h.1)) in
          record {
            more = one.grows.more ++ g.more;
            objects =
                g.objects ∙ ap (λ os. os ++ g.more) one.grows.objects
                ∙ append_assoc log.objects one.grows.more g.more;
            within =
                within_both n m one.grows.more g.more (object_measures (instr ∷ []) (size ∷ []))
                (object_measures (next ∷ instrs) later) one.grows.within one.exact g.within;
          }

pub run_is_within : RunIsWithin
unfolding run_of
run_is_within options p n m b =
    let sizes : List Measure = new_behind (instr_measure p.rank) [] p.instrs in
    let same = made-new (instr_measure p.rank) [] p.instrs in
    let g : Grows n m (at_start options) (object_measures p.instrs (new_behind (instr_measure p.rank) [] p.instrs))
    (run_on p.rank (at_start options) (with_steps p.rank [] p.instrs)) =
    run_on_within n m p.rank p.formed.rank [] (at_start options) p.instrs tt tt refl tt refl p.formed.each b in
    subst (λ (ms : List Measure). AreWithin n m (run_on p.rank (at_start options) (zip p.instrs p.steps)).objects
    (object_measures p.instrs ms)) (sym same)
    (subst (λ (ns : List ℕ). AreWithin n m (run_on p.rank (at_start options) (zip p.instrs ns)).objects
    (object_measures p.instrs (new_behind (instr_measure p.rank) [] p.instrs)))
    (sym (p.formed.stepped ∙ ap (λ (ms : List Measure). map (λ m. m.step) ms) same))
    (subst (λ (os : List Worked).
    AreWithin n m os (object_measures p.instrs (new_behind (instr_measure p.rank) [] p.instrs))) (sym g.objects) g.within))

-- ---- names

-- numbers of names are below how many names there are
pub named_numbers : (names : Names) (instr : Instr) → IsNamed names instr
    → HasNumbers (length names.free) (length names.params) instr
named_numbers names (Free i) h = h
named_numbers names (Join a b) h = h
named_numbers names (Meet a b) h = h
named_numbers names (On a b s t) h = h
named_numbers names (Conic p1 p2 p3 p4 p5 p6) h = h
