-- One instruction more: its value has the coordinates of its object, where nothing stopped the run.
use Rattle.std.proofs.Common.{◌≡◌, ℕ, zero, suc, ◌+◌, ◌-◌, ◌<◌, ◌≤◌, ◌==◌, ◌||◌, Bool, true, false, cond, List, [], ◌∷◌, ◌++◌}
use Rattle.std.proofs.Common.{map, length, replicate, All, get_or, refl, sym, ap, ap₂, subst, ◌∙◌, arith, eqb-true, eq-eqb}
use Rattle.std.proofs.Common.{true≢false}
use Rattle.std.specs.Prelude.{Some, None, Result, Ok, Err}
use Rattle.std.specs.List.{AllByRecursion}
use Rattle.std.proofs.Math.ListN.{get_or-map}
use Rattle.std.proofs.lemmas.List.{length-map}
use Rattle.coordinate_model.specs.Sequences.{IsRank, columns, subsets}
use Rattle.coordinate_model.specs.Brackets.{on}
use Rattle.coordinate_model.specs.Polynomial.{Polynomials, Polynomial, free_point, parameter, monomial}
use Rattle.coordinate_model.specs.Key.{IsKey}
use Rattle.coordinate_model.specs.BracketPolynomial.{BracketPolynomial, parameter_of, value}
use Rattle.coordinate_model.specs.Starts.{Product, starts, join_products, meet_products, on_products}
use Rattle.coordinate_model.specs.Value.{Value, coordinates}
use Rattle.coordinate_model.proofs.Agreement.{same-joins, same-meets}
use Rattle.coordinate_model.proofs.BracketPolynomialLaws.{value_of_one, value_of_parameter}
use Rattle.coordinate_model.proofs.KeySets.{all_single}
use Rattle.coordinate_model.proofs.PolynomialRing.{polynomial_ring}
use Rattle.coordinate_model.proofs.Ranks.{by_rank}
use Rattle.coordinate_model.proofs.RingLemmas as L
use Rattle.coordinate_model.proofs.Splits.{at_each}
use Rattle.coordinate_model.proofs.StartLaws.{starts_of_join, starts_of_meet, starts_of_on}
use Rattle.coordinate_model.proofs.StartSizes.{IsEntry, IsSizedProduct, has_step, joins-sized, meets-sized, combinations-sized, parameter-keys}
use Rattle.coordinate_model.proofs.ValueLaws.{free_one, coordinates-more, coordinates-none, coordinates-scalar}
use Rattle.step_types.specs.declared.measure.Measure.{Measure}
use Rattle.cayley_terms.specs.declared.instr.Instr.{Instr}
use Rattle.cayley_terms.specs.declared.instr.Instr.TheVariants.{Free, Join, Meet, On, Conic}
use Rattle.cayley_terms.specs.Figures.{Figure, no_figure, point, joined, met, mixed, scalar}
use Rattle.cayley_terms.specs.Instrs.{no_measure, measure_at, instr_measure, figure_at, instr_figure}
use Rattle.cayley_terms.specs.Meaning.{Variables}
use Rattle.cayley_terms.specs.Programs.{IsInner, IsLast}
use Rattle.cayley_terms.specs.Starts.{one_of, free_value, value_at}
use Rattle.bracket_poly.specs.Tracked.{Tracked, Limit}
use Rattle.conic_points.specs.Makings.{made_conic}
use Rattle.straightening.specs.Runs.{limit_stop}
use Rattle.cayley_run.specs.Sections.{Sections, run_starts}
use Rattle.shuffle_meet.specs.Stops.{Start}
use Rattle.shuffle_meet.specs.SectionStarts.{is_conclusion}
use Rattle.bracket_poly.specs.Sections.{value_from}
use Rattle.cayley_run.specs.Runs.{Log, with_object, with_start, with_instr}
use Rattle.cayley_run.specs.RunLaws.{AllEndWell, IsValueOf, LastEnds}
use Rattle.cayley_run.proofs.SectionLaws.{IsStart, starts_well, starts_ended, same_coordinates}
use Rattle.cayley_run.proofs.ConicStarts.{IsPlanePoint, conic_start, conic_same}
use Rattle.cayley_run.proofs.ObjectLaws as object

-- what an instruction makes: its sizes, its object and its value
pub record Made : Type 0 where
  pub measure : Measure
  pub figure : Figure Polynomials
  pub value : Value

abbrev pub nothing_made : Made
nothing_made = record { measure = no_measure; figure = no_figure Polynomials; value = [] }

abbrev pub measures_of : List Made → List Measure
measures_of made = map (λ x. x.measure) made

abbrev pub figures_of : List Made → List (Figure Polynomials)
figures_of made = map (λ x. x.figure) made

abbrev pub values_of : List Made → List Value
values_of made = map (λ x. x.value) made

-- a point, a line or a plane, with its value
pub record IsMade (d : ℕ) (x : Made) : Type 0 where
  pub step : x.measure.step ≡ x.figure.step
  pub least : 1 ≤ x.figure.step
  pub below : x.figure.step < d
  pub is_value : IsValueOf d x.value x.figure
  pub entries : AllByRecursion (IsEntry d 64 x.figure.step) x.value

-- the new log has one value more, which is good where nothing stopped the run
pub record Adds (d : ℕ) (log : Log) (Good : Value → Type 0) (new : Log) : Type 0 where
  pub well : AllEndWell d new.objects
  pub value : Value
  pub values : new.values ≡ log.values ++ value ∷ []
  pub good : new.stop ≡ None → Good value

-- the new log ends with the coordinate of the object
pub record HasScalar (d : ℕ) (figure : Figure Polynomials) (new : Log) : Type 0 where
  pub end : BracketPolynomial
  pub last : LastEnds new end
  pub same : value end ≡ scalar Polynomials d figure

-- a point of the plane
pub plane_point : (d : ℕ) (x : Made) → IsMade d x → d ≡ 3 → x.measure.step ≡ 1 → IsPlanePoint x.value x.figure
plane_point d x h three e =
    let one : x.figure.step ≡ 1 = sym h.step ∙ e in
    record {
      one = one;
      is_value = subst (λ k. IsValueOf k x.value x.figure) three h.is_value;
      entries =
          subst (λ k. AllByRecursion (IsEntry k 64 1) x.value) three
          (subst (λ a. AllByRecursion (IsEntry d 64 a) x.value) one h.entries);
    }

-- ---- steps

full_none : (d s : ℕ) → is_conclusion d s ≡ true → cond (s == d) 0 s ≡ 0
full_none d s h = step (s == 0) (s == d) refl h
  where
    step : (b c : Bool) → (s == 0) ≡ b → (b || c) ≡ true → cond c 0 s ≡ 0
    step b true e g = refl
    step true false e g = eqb-true s 0 e
    step false false e g = absurd (true≢false (sym g))

below_none : (d s : ℕ) → s < d → is_conclusion d s ≡ true → s ≡ 0
below_none d s l h = step (s == 0) (s == d) refl refl h
  where
    step : (b c : Bool) → (s == 0) ≡ b → (s == d) ≡ c → (b || c) ≡ true → s ≡ 0
    step true c e f g = eqb-true s 0 e
    step false true e f g = let w : s ≡ d = eqb-true s d f in absurd (omega arith)
    step false false e f g = absurd (true≢false (sym g))

not_full : (d s : ℕ) → s < d → cond (s == d) 0 s ≡ s
not_full d s l = step (s == d) refl
  where
    step : (b : Bool) → (s == d) ≡ b → cond b 0 s ≡ s
    step true e = let w : s ≡ d = eqb-true s d e in absurd (omega arith)
    step false e = refl

-- the one set of columns of a conclusion
at_scalar : (d s : ℕ) (P : List ℕ → Type 0) → IsRank d → is_conclusion d s ≡ true → All P (subsets d s)
    → P (cond (s == 0) [] (columns d))
at_scalar d s P r c h = step (s == 0) (s == d) refl refl c
  where
    alone : (d : ℕ) → IsRank d → subsets d d ≡ columns d ∷ []
    alone = by_rank (λ d. subsets d d ≡ columns d ∷ []) refl refl refl

    step : (a b : Bool) → (s == 0) ≡ a → (s == d) ≡ b → (a || b) ≡ true → P (cond a [] (columns d))
    step true b e f g = subst (λ n. All P (subsets d n)) (eqb-true s 0 e) h 0 [] (omega arith)
    step false true e f g =
        subst (All P) (ap (subsets d) (eqb-true s d f) ∙ alone d r) h 0 [] (omega arith)
    step false false e f g = absurd (true≢false (sym g))

-- ---- the starts of two objects

-- these products of an object of this step add up to it; its extensors have a points, and none in a conclusion
pub record IsWork (d step a : ℕ) (ps : List Product) (figure : Figure Polynomials) : Type 0 where
  pub sized : AllByRecursion (IsSizedProduct d 64 a) ps
  pub none : is_conclusion d step ≡ true → a ≡ 0
  pub steps : step ≡ figure.step
  pub same : All (λ K. coordinates (starts ps) K ≡ figure.coordinates K) (subsets d figure.step)

module _ (d : ℕ) (rank : IsRank d) (x y : Made) (h : IsMade d x) (k : IsMade d y) where
  abbrev a : ℕ
  a = x.figure.step

  abbrev b : ℕ
  b = y.figure.step

  pub join_work : x.figure.step + y.figure.step ≤ d
      → IsWork d (x.measure.step + y.measure.step)
      (cond (x.figure.step + y.figure.step == d) 0 (x.figure.step + y.figure.step)) (join_products d x.value y.value)
      (joined Polynomials x.figure y.figure)
  join_work few = record {
    sized = joins-sized d 64 a b few x.value y.value h.entries k.entries;
    none = λ e. full_none d (a + b) (ap (is_conclusion d) (sym (ap₂ ◌+◌ h.step k.step)) ∙ e);
    steps = ap₂ ◌+◌ h.step k.step;
    same = λ i z l.
        starts_of_join d a b x.value y.value rank (h.least, k.least, few) (has_step d 64 a x.value h.entries)
        (has_step d 64 b y.value k.entries) i z l
        ∙ same-joins Polynomials d a b (coordinates x.value) (coordinates y.value) x.figure.coordinates
        y.figure.coordinates h.is_value k.is_value i z l;
  }

  pub meet_work : d ≤ x.figure.step + y.figure.step
      → IsWork d (x.measure.step + y.measure.step - d) (x.figure.step + y.figure.step - d)
      (meet_products d x.value y.value) (met Polynomials d x.figure y.figure)
  meet_work enough =
      let p : a < d = h.below in
      let q : b < d = k.below in
      let e : x.measure.step + y.measure.step - d ≡ a + b - d = ap₂ (λ m n. m + n - d) h.step k.step in
      record {
        sized = meets-sized d 64 a b (omega arith) x.value y.value h.entries k.entries;
        none = λ c. below_none d (a + b - d) (omega arith) (ap (is_conclusion d) (sym e) ∙ c);
        steps = e;
        same = λ i z l.
            starts_of_meet d a b x.value y.value rank (h.least, p, k.least, q, enough)
            (has_step d 64 a x.value h.entries) (has_step d 64 b y.value k.entries) i z l
            ∙ same-meets Polynomials d a b (coordinates x.value) (coordinates y.value) x.figure.coordinates
            y.figure.coordinates (get_or (subsets d (a + b - d)) i z) h.is_value k.is_value;
      }

  -- the variable of a parameter
  abbrev variable : ℕ → Polynomial
  variable s = monomial (parameter s ∷ [])

  same_mixed : (s t : ℕ) (K : List ℕ) → s < 64 → t < 64 → coordinates x.value K ≡ x.figure.coordinates K
      → coordinates y.value K ≡ y.figure.coordinates K
      → on Polynomials (value (parameter_of 64 s)) (value (parameter_of 64 t)) (coordinates x.value) (coordinates y.value) K
      ≡ on Polynomials (variable s) (variable t) x.figure.coordinates y.figure.coordinates K
  unfolding on
  same_mixed s t K p q e f =
      ap₂ Polynomials.◌⊕◌ (ap₂ Polynomials.◌⊗◌ (value_of_parameter 64 s p) e)
      (ap₂ Polynomials.◌⊗◌ (value_of_parameter 64 t q) f)

  pub on_work : (s t : ℕ) → s < 64 → t < 64 → x.figure.step ≡ 1 → y.figure.step ≡ 1
      → IsWork d 1 1 (on_products (parameter_of 64 s) (parameter_of 64 t) x.value y.value)
      (mixed Polynomials (variable s) (variable t) x.figure y.figure)
  on_work s t p q one two = record {
    sized =
        combinations-sized d 64 1 (parameter_of 64 s) (parameter_of 64 t) (parameter-keys d 64 s) (parameter-keys d 64 t)
        x.value y.value (subst (λ n. AllByRecursion (IsEntry d 64 n) x.value) one h.entries)
        (subst (λ n. AllByRecursion (IsEntry d 64 n) y.value) two k.entries);
    none = λ e. below_none d 1 (let l = rank.0 in omega arith) e;
    steps = refl;
    same = λ i z l.
        let K = get_or (subsets d 1) i z in
        starts_of_on (parameter_of 64 s) (parameter_of 64 t) x.value y.value K
        ∙ same_mixed s t K p q (subst (λ n. IsAtAll n x) one h.is_value i z l) (subst (λ n. IsAtAll n y) two k.is_value i z l);
  }
    where
      IsAtAll : ℕ → Made → Type 0
      IsAtAll n m = All (λ K. coordinates m.value K ≡ m.figure.coordinates K) (subsets d n)

module _ (d step a : ℕ) (rank : IsRank d) (ps : List Product) (figure : Figure Polynomials)
    (w : IsWork d step a ps figure) (log : Log) (sections : AllEndWell d log.objects) where
  abbrev new : Log
  new = with_object d step ps log

  added : object.HasObject d a step rank ps w.sized w.none log new
  added = object.has_object d a step rank ps w.sized w.none log sections

  value_added : new.stop ≡ None → IsValueOf d added.value figure
  value_added e i z l = added.same e (get_or (subsets d figure.step) i z) ∙ w.same i z l

  pub adds_inner : (m : Measure) → m.step ≡ step → 1 ≤ step → step < d → a ≡ figure.step
      → Adds d log (λ v. IsMade d (record { measure = m; figure = figure; value = v })) new
  adds_inner m e least below size = record {
    well = added.well;
    value = added.value;
    values = added.values;
    good = λ n. record {
      step = e ∙ w.steps;
      least = subst (λ s. 1 ≤ s) w.steps least;
      below = subst (λ s. s < d) w.steps below;
      is_value = value_added n;
      entries = subst (λ s. AllByRecursion (IsEntry d 64 s) added.value) size (added.entries n);
    };
  }

  pub adds_last : is_conclusion d step ≡ true
      → Adds d log (λ v. IsValueOf d v figure × HasScalar d figure new) new
  adds_last c = record {
    well = added.well;
    value = added.value;
    values = added.values;
    good = λ n.
        let e = object.has_end d a step rank ps w.sized w.none log c n in (
          value_added n,
          record {
            end = e.end;
            last = e.last;
            same =
                e.same (cond (figure.step == 0) [] (columns d))
                ∙ at_scalar d figure.step (λ K. coordinates (starts ps) K ≡ figure.coordinates K) rank
                (ap (is_conclusion d) (sym w.steps) ∙ c) w.same;
          },
        );
  }

-- ---- starts that are made at once

module _ (d : ℕ) (rank : IsRank d) (figure : Figure Polynomials) (step : figure.step ≡ 0) (made : Result Tracked Limit)
    (keys : (f : Tracked) → made ≡ Ok f → IsStart d 0 ([], f))
    (same : (f : Tracked) → made ≡ Ok f → (K : List ℕ) → value f.sum ≡ figure.coordinates K) (log : Log)
    (sections : AllEndWell d log.objects) where
  pub adds_start : Adds d log (λ v. IsValueOf d v figure × HasScalar d figure (with_start 0 made log)) (with_start 0 made log)
  adds_start = by_made made refl
    where
      by_made : (r : Result Tracked Limit) → made ≡ r
          → Adds d log (λ v. IsValueOf d v figure × HasScalar d figure (with_start 0 r log)) (with_start 0 r log)
      by_made (Err limit) e = record {
        well =
            object.worked_well d 0 log (record { sections = []; left = log.left; stop = Some (limit_stop limit) }) sections
            tt;
        value = [];
        values = refl;
        good = λ n. absurd cc;
      }
      by_made (Ok f) e =
          let starts : List Start = ([], f) ∷ [] in
          let s : Sections = run_starts log.options.contract log.left starts in
          let formed : AllByRecursion (IsStart d 0) starts = (keys f e, tt) in
          record {
            well = object.worked_well d 0 log s sections
                (starts_well d 0 rank log.options.contract log.left starts formed);
            value = value_from s.sections;
            values = refl;
            good = λ n.
                let ended = starts_ended d 0 rank log.options.contract log.left starts formed n in
                let last = object.one_section d 0 log s f ended in (
                  λ i z l.
                      let K = get_or (subsets d figure.step) i z in
                      same_coordinates d starts s.sections ended K ∙ coordinates-scalar f.sum K ∙ same f e K,
                  record {
                    end = last.end;
                    last = last.last;
                    same = last.same ∙ same f e (cond (figure.step == 0) [] (columns d));
                  },
                );
          }

-- ---- free points

free_coordinates : (n i : ℕ) (K : List ℕ) → coordinates (free_value n i) K ≡ (point Polynomials (free_point i)).coordinates K
free_coordinates n i K =
    coordinates-more (i ∷ [], one_of n) [] K
    ∙ ap₂ Polynomials.◌⊕◌ (ap₂ Polynomials.◌⊗◌ (value_of_one n) (free_one i K)) (coordinates-none K)
    ∙ polynomial_ring.add_zero _ ∙ L.one_mul Polynomials polynomial_ring _

length-replicate : (n : ℕ) → length (replicate {A = ℕ} n 0) ≡ n
length-replicate zero = refl
length-replicate (suc n) = ap suc (length-replicate n)

free_entry : (d n i : ℕ) → IsEntry d n 1 (i ∷ [], one_of n)
free_entry d n i = record {
  points = refl;
  keys =
      all_single (IsKey d n) (record { exponents = replicate n 0; rows = [] })
      (record { parameters = length-replicate n; each = tt; ascending = λ k x z h. absurd (omega arith) });
}

-- ---- instructions

-- what the instruction of this number made
module _ (made : List Made) (log : Log) (values : log.values ≡ values_of made) where
  abbrev pub made_at : ℕ → Made
  made_at n = record {
    measure = measure_at (measures_of made) n;
    figure = figure_at Variables (figures_of made) n;
    value = value_at log.values n;
  }

  pub holds_at : (P : Made → Type 0) → AllByRecursion P made → (n : ℕ) → n < length (measures_of made) → P (made_at n)
  holds_at P all n h =
      let l : length (measures_of made) ≡ length made = length-map made (λ x. x.measure) in
      subst P
      (λ j. record {
        measure = sym (get_or-map (λ (x : Made). x.measure) made n nothing_made) j;
        figure = sym (get_or-map (λ (x : Made). x.figure) made n nothing_made) j;
        value =
            sym (ap (λ vs. get_or vs n []) values ∙ get_or-map (λ (x : Made). x.value) made n nothing_made) j;
      })
      (at_each P made all n nothing_made (omega arith))

module _ (d : ℕ) (rank : IsRank d) (made : List Made) (log : Log) (all : AllByRecursion (IsMade d) made)
    (values : log.values ≡ values_of made) (sections : AllEndWell d log.objects) where
  abbrev at : ℕ → Made
  at n = made_at made log values n

  is_at : (n : ℕ) → n < length (measures_of made) → IsMade d (made_at made log values n)
  is_at n h = holds_at made log values (IsMade d) all n h

  -- the step of the instruction, and the log behind it
  abbrev pub step_of : Instr → ℕ
  step_of instr = (instr_measure d (measures_of made) instr).step

  abbrev pub log_behind : Instr → Log
  log_behind instr = with_instr d log (instr, step_of instr)

  abbrev pub figure_of : Instr → Figure Polynomials
  figure_of instr = instr_figure Variables d (figures_of made) instr

  -- what it makes, with this value
  abbrev pub made_of : Instr → Value → Made
  made_of instr v = record { measure = instr_measure d (measures_of made) instr; figure = figure_of instr; value = v }

  pub inner_instr : (instr : Instr) → IsInner d (measures_of made) instr
      → Adds d log (λ v. IsMade d (made_of instr v)) (log_behind instr)
  inner_instr (Free i) h = record {
    well = sections;
    value = free_value 64 i;
    values = refl;
    good = λ e. record {
      step = refl;
      least = omega arith;
      below = let l = rank.0 in omega arith;
      is_value = λ k z l. free_coordinates 64 i (get_or (subsets d 1) k z);
      entries = (free_entry d 64 i, tt);
    };
  }
  inner_instr (Join a b) h =
      let x : IsMade d (at a) = is_at a h.earlier.0 in
      let y : IsMade d (at b) = is_at b h.earlier.1.0 in
      let e : step_of (Join a b) ≡ (at a).figure.step + (at b).figure.step = ap₂ ◌+◌ x.step y.step in
      let s : step_of (Join a b) < d = h.steps in
      let few : (at a).figure.step + (at b).figure.step < d = subst (λ n. n < d) e s in
      adds_inner d (step_of (Join a b))
      (cond ((at a).figure.step + (at b).figure.step == d) 0 ((at a).figure.step + (at b).figure.step)) rank
      (join_products d (value_at log.values a) (value_at log.values b)) (figure_of (Join a b))
      (join_work d rank (at a) (at b) x y (omega arith)) log sections (instr_measure d (measures_of made) (Join a b)) refl
      h.sized.least s (not_full d ((at a).figure.step + (at b).figure.step) few)
  inner_instr (Meet a b) h =
      let x : IsMade d (at a) = is_at a h.earlier.0 in
      let y : IsMade d (at b) = is_at b h.earlier.1.0 in
      let e : (at a).measure.step + (at b).measure.step ≡ (at a).figure.step + (at b).figure.step = ap₂ ◌+◌ x.step y.step in
      let s : d < (at a).measure.step + (at b).measure.step = h.steps in
      let more : d < (at a).figure.step + (at b).figure.step = subst (λ n. d < n) e s in
      adds_inner d (step_of (Meet a b)) ((at a).figure.step + (at b).figure.step - d) rank
      (meet_products d (value_at log.values a) (value_at log.values b)) (figure_of (Meet a b))
      (meet_work d rank (at a) (at b) x y (omega arith)) log sections (instr_measure d (measures_of made) (Meet a b)) refl
      h.sized.least h.sized.below refl
  inner_instr (On a b s t) h =
      let x : IsMade d (at a) = is_at a h.earlier.0 in
      let y : IsMade d (at b) = is_at b h.earlier.1.0 in
      let steps = h.steps in
      adds_inner d 1 1 rank (on_products (parameter_of 64 s) (parameter_of 64 t) (value_at log.values a)
      (value_at log.values b))
      (figure_of (On a b s t))
      (on_work d rank (at a) (at b) x y s t steps.2 steps.3 (sym x.step ∙ steps.0) (sym y.step ∙ steps.1)) log sections
      (instr_measure d (measures_of made) (On a b s t)) refl (omega arith) (let l = rank.0 in omega arith) refl
  inner_instr (Conic p1 p2 p3 p4 p5 p6) h = absurd h.steps

  pub last_instr : (instr : Instr) → IsLast d (measures_of made) instr
      → Adds d log (λ v. IsValueOf d v (figure_of instr) × HasScalar d (figure_of instr) (log_behind instr))
      (log_behind instr)
  last_instr (Free i) h = absurd h.steps
  last_instr (Join a b) h =
      let x : IsMade d (at a) = is_at a h.earlier.0 in
      let y : IsMade d (at b) = is_at b h.earlier.1.0 in
      let e : step_of (Join a b) ≡ (at a).figure.step + (at b).figure.step = ap₂ ◌+◌ x.step y.step in
      let s : step_of (Join a b) ≡ d = h.steps in
      let few : (at a).figure.step + (at b).figure.step ≡ d = sym e ∙ s in
      adds_last d (step_of (Join a b))
      (cond ((at a).figure.step + (at b).figure.step == d) 0 ((at a).figure.step + (at b).figure.step)) rank
      (join_products d (value_at log.values a) (value_at log.values b)) (figure_of (Join a b))
      (join_work d rank (at a) (at b) x y (omega arith)) log sections
      (either (step_of (Join a b) == 0) (step_of (Join a b) == d) (eq-eqb (step_of (Join a b)) d s))
    where
      either : (p q : Bool) → q ≡ true → (p || q) ≡ true
      either true q f = refl
      either false q f = f
  last_instr (Meet a b) h =
      let x : IsMade d (at a) = is_at a h.earlier.0 in
      let y : IsMade d (at b) = is_at b h.earlier.1.0 in
      let e : (at a).measure.step + (at b).measure.step ≡ (at a).figure.step + (at b).figure.step = ap₂ ◌+◌ x.step y.step in
      let s : (at a).measure.step + (at b).measure.step ≡ d = h.steps in
      let more : (at a).figure.step + (at b).figure.step ≡ d = sym e ∙ s in
      adds_last d (step_of (Meet a b)) ((at a).figure.step + (at b).figure.step - d) rank
      (meet_products d (value_at log.values a) (value_at log.values b)) (figure_of (Meet a b))
      (meet_work d rank (at a) (at b) x y (omega arith)) log sections
      (ap (λ p. p || (step_of (Meet a b) == d)) (eq-eqb (step_of (Meet a b)) 0 (let z : step_of (Meet a b) ≡ 0 = omega arith in z)))
  last_instr (On a b s t) h = absurd h.steps
  last_instr (Conic p1 p2 p3 p4 p5 p6) h =
      let l = h.earlier in
      let t = h.steps.1 in
      let three : d ≡ 3 = h.steps.0 in
      let x1 = plane_point d (at p1) (is_at p1 l.0) three t.0 in
      let x2 = plane_point d (at p2) (is_at p2 l.1.0) three t.1.0 in
      let x3 = plane_point d (at p3) (is_at p3 l.1.1.0) three t.1.1.0 in
      let x4 = plane_point d (at p4) (is_at p4 l.1.1.1.0) three t.1.1.1.0 in
      let x5 = plane_point d (at p5) (is_at p5 l.1.1.1.1.0) three t.1.1.1.1.0 in
      let x6 = plane_point d (at p6) (is_at p6 l.1.1.1.1.1.0) three t.1.1.1.1.1.0 in
      adds_start d rank (figure_of (Conic p1 p2 p3 p4 p5 p6)) refl
      (made_conic (at p1).value (at p2).value (at p3).value (at p4).value (at p5).value (at p6).value)
      (λ f e. subst (λ k. IsStart k 0 ([], f)) (sym three)
      (conic_start (at p1).value (at p2).value (at p3).value (at p4).value (at p5).value (at p6).value (at p1).figure
      (at p2).figure (at p3).figure (at p4).figure (at p5).figure (at p6).figure x1 x2 x3 x4 x5 x6 f e))
      (λ f e K. conic_same (at p1).value (at p2).value (at p3).value (at p4).value (at p5).value (at p6).value (at p1).figure
      (at p2).figure (at p3).figure (at p4).figure (at p5).figure (at p6).figure x1 x2 x3 x4 x5 x6 f e)
      log sections
