-- What the run of one object means, from the values of the instructions before it.
use Rattle.std.proofs.Common.{◌≡◌, ℕ, zero, suc, ◌+◌, ◌-◌, ◌<◌, ◌≤◌, List, [], ◌∷◌, ◌++◌, map, drop, length, get_or, refl, sym, ap, ap₂, subst, ◌∙◌}
use Rattle.std.proofs.Common.{arith, append_assoc, append-nil}
use Rattle.std.proofs.lemmas.List.{drop_more}
use Rattle.std.specs.Prelude.{None}
use Rattle.std.specs.List.{AllByRecursion}
use Rattle.std.proofs.Math.ListN.{get_or-map}
use Rattle.std.proofs.Math.Seq.{get_or-append_seam}
use Rattle.coordinate_model.specs.Sequences.{IsRank}
use Rattle.coordinate_model.specs.Polynomial.{Polynomials}
use Rattle.coordinate_model.specs.Value.{Value}
use Rattle.coordinate_model.proofs.Hom.{map-append}
use Rattle.coordinate_model.proofs.Splits.{all_append}
use Rattle.coordinate_model.proofs.StartSizes.{IsEntry}
use Rattle.step_types.specs.declared.measure.Measure.{Measure}
use Rattle.cayley_terms.specs.declared.instr.Instr.{Instr}
use Rattle.cayley_terms.specs.declared.instr.Instr.TheVariants.{Free, Join, Meet, On, Conic}
use Rattle.cayley_terms.specs.declared.program.Program.{Program}
use Rattle.cayley_terms.specs.Figures.{Figure, no_figure}
use Rattle.cayley_terms.specs.Instrs.{no_measure, instr_measure, instr_figure}
use Rattle.cayley_terms.specs.Kept.{objects}
use Rattle.cayley_terms.specs.Meaning.{Variables}
use Rattle.cayley_terms.specs.Programs.{EndsInOne, IsInner}
use Rattle.cayley_run.specs.Objects.{run_of_object, with_run}
use Rattle.cayley_run.specs.ObjectMeaning.{instr_at, value_made, IsValueAt, AreValues, IsRunOf, ObjectMeans}
use Rattle.cayley_run.specs.RunLaws.{IsValueOf, EndsWell, AllEndWell}
use Rattle.cayley_run.specs.Runs.{Log, with_instr}
use Rattle.cayley_run.specs.Sections.{Sections}
use Rattle.cayley_run.specs.declared.answer.Options.{Options}
use Rattle.cayley_run.proofs.InstrLaws.{Made, measures_of, figures_of, values_of, IsMade, Adds, made_at, holds_at, made_of, inner_instr}
use Rattle.cayley_run.proofs.ObjectRuns.{next_is_by_itself}
use Rattle.cayley_run.proofs.RunMeaning.{new_behind, made-new}

-- ---- what was made before

-- a log with these values alone
abbrev log_with : Options → List Value → Log
log_with options values =
    record { options = options; values = values; objects = []; left = options.budget; stop = None }

module _ (d : ℕ) (rank : IsRank d) (options : Options) where
  abbrev log_of_made : List Made → Log
  log_of_made made = log_with options (values_of made)

  is_at : (made : List Made) → AllByRecursion (IsMade d) made → (n : ℕ) → n < length (measures_of made)
      → IsMade d (made_at made (log_of_made made) refl n)
  is_at made all n h = holds_at made (log_of_made made) refl (IsMade d) all n h

  -- the next object has the step of the next measure
  same_step : (made : List Made) (instr : Instr) → AllByRecursion (IsMade d) made → IsInner d (measures_of made) instr
      → (instr_measure d (measures_of made) instr).step ≡ (instr_figure Variables d (figures_of made) instr).step
  same_step made (Free i) all h = refl
  same_step made (Join a b) all h =
      ap₂ ◌+◌ (is_at made all a h.earlier.0).step (is_at made all b h.earlier.1.0).step
  same_step made (Meet a b) all h =
      ap₂ (λ m n. m + n - d) (is_at made all a h.earlier.0).step (is_at made all b h.earlier.1.0).step
  same_step made (On a b s t) all h = refl
  same_step made (Conic p1 p2 p3 p4 p5 p6) all h = absurd h.steps

  -- what the instruction makes, with this value
  abbrev made_with : List Made → Instr → Value → Made
  made_with made instr v =
      record {
        measure = instr_measure d (measures_of made) instr;
        figure = instr_figure Variables d (figures_of made) instr;
        value = v;
      }

  is_made : (made : List Made) (instr : Instr) (v : Value) → AllByRecursion (IsMade d) made
      → IsInner d (measures_of made) instr → IsValueOf d v (instr_figure Variables d (figures_of made) instr)
      → AllByRecursion (IsEntry d 64 (instr_measure d (measures_of made) instr).step) v → IsMade d (made_with made instr v)
  is_made made instr v all h value entries =
      let same = same_step made instr all h in
      record {
        step = same;
        least = subst (λ n. 1 ≤ n) same h.sized.least;
        below = subst (λ n. n < d) same h.sized.below;
        is_value = value;
        entries = subst (λ n. AllByRecursion (IsEntry d 64 n) v) same entries;
      }

  -- ---- the values of the first instructions, one after another

  -- the values of instructions behind what was made, by the figures and measures that they make
  abbrev AreNext : List Made → List Instr → List Value → Type 0
  AreNext made instrs vs =
      (n : ℕ) → n < length vs
      → IsValueOf d (get_or vs n []) (get_or (new_behind (instr_figure Variables d) (figures_of made) instrs) n (no_figure Polynomials))
      × AllByRecursion (IsEntry d 64 (get_or (new_behind (instr_measure d) (measures_of made) instrs) n no_measure).step)
      (get_or vs n [])

  -- what was made with these values too, and the instruction behind them
  record Reaches (made : List Made) (instrs : List Instr) (vs : List Value) : Type 0 where
    all_made : List Made
    all : AllByRecursion (IsMade d) all_made
    values : values_of all_made ≡ values_of made ++ vs
    instr : Instr
    others : List Instr
    left : drop (length vs) instrs ≡ instr ∷ others
    ends : EndsInOne d (measures_of all_made) (instr ∷ others)
    figure : instr_figure Variables d (figures_of all_made) instr
        ≡ get_or (new_behind (instr_figure Variables d) (figures_of made) instrs) (length vs) (no_figure Polynomials)
    measure : instr_measure d (measures_of all_made) instr
        ≡ get_or (new_behind (instr_measure d) (measures_of made) instrs) (length vs) no_measure

  reaches : (made : List Made) (instrs : List Instr) (vs : List Value) → AllByRecursion (IsMade d) made
      → EndsInOne d (measures_of made) instrs → length vs < length instrs → AreNext made instrs vs
      → Reaches made instrs vs
  reaches made [] vs all h l k = absurd (omega arith)
  reaches made (instr ∷ instrs) [] all h l k = record {
    all_made = made;
    all = all;
    values = sym (append-nil (values_of made));
    instr = instr;
    others = instrs;
    left = refl;
    ends = h;
    figure = refl;
    measure = refl;
  }
  reaches made (instr ∷ []) (v ∷ vs) all h l k = absurd (omega arith)
  reaches made (instr ∷ next ∷ instrs) (v ∷ vs) all h l k =
      let x : Made = made_with made instr v in
      let first = k 0 (omega arith) in
      let figures : figures_of (made ++ x ∷ []) ≡ figures_of made ++ x.figure ∷ [] =
      map-append (λ (y : Made). y.figure) made (x ∷ []) in
      let measures : measures_of (made ++ x ∷ []) ≡ measures_of made ++ x.measure ∷ [] =
      map-append (λ (y : Made). y.measure) made (x ∷ []) in
      let r : Reaches (made ++ x ∷ []) (next ∷ instrs) vs =
      reaches (made ++ x ∷ []) (next ∷ instrs) vs
      (all_append (IsMade d) made (x ∷ []) all (is_made made instr v all h.0 first.0 first.1, tt))
      (subst (λ (ms : List Measure). EndsInOne d ms (next ∷ instrs)) (sym measures) h.1) (omega arith)
      (λ n m.
      subst (λ (fs : List (Figure Polynomials)).
      IsValueOf d (get_or vs n []) (get_or (new_behind (instr_figure Variables d) fs (next ∷ instrs)) n (no_figure Polynomials))
      × AllByRecursion (IsEntry d 64
      (get_or (new_behind (instr_measure d) (measures_of (made ++ x ∷ [])) (next ∷ instrs)) n no_measure).step)
      (get_or vs n [])) (sym figures)
      (subst (λ (ms : List Measure).
      IsValueOf d (get_or vs n [])
      (get_or (new_behind (instr_figure Variables d) (figures_of made ++ x.figure ∷ []) (next ∷ instrs)) n (no_figure Polynomials))
      × AllByRecursion (IsEntry d 64 (get_or (new_behind (instr_measure d) ms (next ∷ instrs)) n no_measure).step)
      (get_or vs n [])) (sym measures) (k (suc n) (omega arith)))) in
      record {
        all_made = r.all_made;
        all = r.all;
        values =
            r.values ∙ ap (λ (us : List Value). us ++ vs) (map-append (λ (y : Made). y.value) made (x ∷ []))
            ∙ append_assoc (values_of made) (v ∷ []) vs;
        instr = r.instr;
        others = r.others;
        left = r.left;
        ends = r.ends;
        figure =
            r.figure
            ∙ ap (λ (fs : List (Figure Polynomials)).
            get_or (new_behind (instr_figure Variables d) fs (next ∷ instrs)) (length vs) (no_figure Polynomials)) figures;
        measure =
            r.measure
            ∙ ap (λ (ms : List Measure). get_or (new_behind (instr_measure d) ms (next ∷ instrs)) (length vs) no_measure)
            measures;
      }

-- ---- one object

last_same : {A : Type 0} (xs : List A) (a b : A) → xs ++ a ∷ [] ≡ xs ++ b ∷ [] → a ≡ b
last_same xs a b e =
    sym (get_or-append_seam xs a [] a) ∙ ap (λ ys. get_or ys (length xs) a) e ∙ get_or-append_seam xs b [] a

-- what the log with the run of an instruction is
record IsLogOf (instr : Instr × ℕ) (s : Sections) (values : List Value) (new : Log) : Type 0 where
  made : new.values ≡ values ++ value_made instr.0 s ∷ []
  stops : s.stop ≡ None → new.stop ≡ None
  well : (d : ℕ) → AllEndWell d new.objects → AllByRecursion (EndsWell d) s.sections

log_of_run : (d : ℕ) (options : Options) (values : List Value) (instr : Instr × ℕ)
    → let s = run_of_object d options values instr in IsLogOf instr s values (with_run instr s (log_with options values))
log_of_run d options values (Free i, step) = record { made = refl; stops = λ e. refl; well = λ d h. tt }
log_of_run d options values (Join a b, step) = record { made = refl; stops = λ e. e; well = λ d h. h.0 }
log_of_run d options values (Meet a b, step) = record { made = refl; stops = λ e. e; well = λ d h. h.0 }
log_of_run d options values (On a b s t, step) = record { made = refl; stops = λ e. e; well = λ d h. h.0 }
log_of_run d options values (Conic p1 p2 p3 p4 p5 p6, step) = record { made = refl; stops = λ e. e; well = λ d h. h.0 }

-- where more than one instruction is left, the next is no conclusion
two_left : (instrs : List Instr) (k : ℕ) (x : Instr) (xs : List Instr) → k + 1 < length instrs → drop k instrs ≡ x ∷ xs
    → 1 ≤ length xs
two_left instrs zero x xs l e =
    let n : length instrs ≡ suc (length xs) = ap (λ (ys : List Instr). length ys) e in omega arith
two_left [] (suc k) x xs l e = absurd (omega arith)
two_left (y ∷ instrs) (suc k) x xs l e = two_left instrs k x xs (omega arith) e

inner_of : (d : ℕ) (before : List Measure) (instr : Instr) (others : List Instr) → 1 ≤ length others
    → EndsInOne d before (instr ∷ others) → IsInner d before instr
inner_of d before instr [] l h = absurd (omega arith)
inner_of d before instr (next ∷ others) l h = h.0

abbrev first_of : List Instr → Instr
first_of [] = Free 0
first_of (instr ∷ instrs) = instr

module _ (options : Options) (p : Program) (values : List Value) (room : length values + 1 < length p.instrs)
    (are : AreValues p values) where
  abbrev d : ℕ
  d = p.rank

  abbrev k : ℕ
  k = length values

  step_there : (n : ℕ) → get_or p.steps n 0 ≡ (get_or (new_behind (instr_measure d) [] p.instrs) n no_measure).step
  step_there n =
      ap (λ (ns : List ℕ). get_or ns n 0)
      (p.formed.stepped ∙ ap (λ (ms : List Measure). map (λ m. m.step) ms) (made-new (instr_measure d) [] p.instrs))
      ∙ get_or-map (λ (m : Measure). m.step) (new_behind (instr_measure d) [] p.instrs) n no_measure

  figure_there : (n : ℕ) → get_or (objects p) n (no_figure Polynomials)
      ≡ get_or (new_behind (instr_figure Variables d) [] p.instrs) n (no_figure Polynomials)
  figure_there n =
      ap (λ (fs : List (Figure Polynomials)). get_or fs n (no_figure Polynomials))
      (made-new (instr_figure Variables d) [] p.instrs)

  reached : Reaches d p.formed.rank options [] p.instrs values
  reached =
      reaches d p.formed.rank options [] p.instrs values tt p.formed.each (omega arith)
      (λ n l. (
        subst (λ (f : Figure Polynomials). IsValueOf d (get_or values n []) f) (figure_there n) (are n l).coordinates,
        subst (λ (m : ℕ). AllByRecursion (IsEntry d 64 m) (get_or values n [])) (step_there n) (are n l).entries,
      ))

  abbrev made : List Made
  made = reached.all_made

  abbrev step : ℕ
  step = (instr_measure d (measures_of made) reached.instr).step

  abbrev log : Log
  log = log_with options (values_of made)

  same_instr : get_or p.instrs k (Free 0) ≡ reached.instr
  same_instr = ap first_of (sym (drop_more p.instrs k (Free 0) (omega arith)) ∙ reached.left)

  same_step_there : get_or p.steps k 0 ≡ step
  same_step_there = step_there k ∙ ap (λ (m : Measure). m.step) (sym reached.measure)

  added : Adds d log (λ v. IsMade d (made_of d p.formed.rank made log reached.all refl tt reached.instr v))
      (with_instr d log (reached.instr, step))
  added =
      inner_instr d p.formed.rank made log reached.all refl tt reached.instr
      (inner_of d (measures_of made) reached.instr reached.others
      (two_left p.instrs k reached.instr reached.others room reached.left) reached.ends)

  abbrev run_there : Sections
  run_there = run_of_object d options (values_of made) (reached.instr, step)

  same : with_instr d log (reached.instr, step) ≡ with_run (reached.instr, step) run_there log
  same = next_is_by_itself d log (reached.instr, step)

  is_log : IsLogOf (reached.instr, step) run_there (values_of made) (with_run (reached.instr, step) run_there log)
  is_log = log_of_run d options (values_of made) (reached.instr, step)

  -- what is said of the run, from values and an instruction
  Says : List Value → Instr × ℕ → Type 0
  Says vs instr =
      AllByRecursion (EndsWell d) (run_of_object d options vs instr).sections
      × ((run_of_object d options vs instr).stop ≡ None
      → IsValueAt p k (value_made instr.0 (run_of_object d options vs instr)))

  says_there : Says (values_of made) (reached.instr, step)
  unfolding Says
  says_there = (
    is_log.well d (subst (λ (l : Log). AllEndWell d l.objects) same added.well),
    λ e.
        let good = added.good (ap (λ (l : Log). l.stop) same ∙ is_log.stops e) in
        let equal : value_made reached.instr run_there ≡ added.value =
        last_same (values_of made) (value_made reached.instr run_there) added.value
        (sym is_log.made ∙ ap (λ (l : Log). l.values) (sym same) ∙ added.values) in
        subst (IsValueAt p k) (sym equal)
        (record {
          coordinates =
              subst (λ (f : Figure Polynomials). IsValueOf d added.value f) (reached.figure ∙ sym (figure_there k))
              good.is_value;
          entries =
              subst (λ (n : ℕ). AllByRecursion (IsEntry d 64 n) added.value) (sym good.step ∙ sym same_step_there)
              good.entries;
        }),
  )

  is_run : IsRunOf p k (run_of_object d options values (instr_at p k))
  unfolding Says
  is_run =
      let says : Says values (instr_at p k) =
      subst (λ (vs : List Value). Says vs (instr_at p k)) reached.values
      (subst (λ (instr : Instr × ℕ). Says (values_of made) instr) (λ j. (sym same_instr j, sym same_step_there j)) says_there)
      in
      record { sections = says.0; value = says.1 }

pub object_means : ObjectMeans
object_means = is_run
