-- Each instruction of a run can be run: what it needs of the values before it holds of them.
use Rattle.std.proofs.Common.{◌≡◌, ℕ, zero, suc, ◌+◌, ◌-◌, ◌^◌, ◌<◌, ◌≤◌, List, [], ◌∷◌, ◌++◌, map, length, get_or, refl, sym}
use Rattle.std.proofs.Common.{ap, ap₂, subst, ◌∙◌, arith, length-append}
use Rattle.std.proofs.lemmas.List.{length-map}
use Rattle.std.specs.Prelude.{None}
use Rattle.std.specs.List.{AllByRecursion}
use Rattle.coordinate_model.specs.Sequences.{IsRank}
use Rattle.coordinate_model.specs.BracketPolynomial.{BracketPolynomial, parameter_of}
use Rattle.coordinate_model.specs.Starts.{Product, join_products, meet_products, on_products}
use Rattle.coordinate_model.specs.Value.{Value}
use Rattle.coordinate_model.proofs.Hom.{map-append}
use Rattle.coordinate_model.proofs.Splits.{all_so, all_both, all_map, all_append}
use Rattle.step_types.specs.declared.measure.Measure.{Measure}
use Rattle.bracket_poly.specs.Products.{HasDegree}
use Rattle.bracket_poly.specs.Sections.{Worked}
use Rattle.shuffle_meet.specs.Stops.{tracked_entries}
use Rattle.cayley_terms.specs.declared.instr.Instr.{Instr}
use Rattle.cayley_terms.specs.declared.instr.Instr.TheVariants.{Free, Join, Meet, On, Conic}
use Rattle.cayley_terms.specs.declared.program.Program.{Program}
use Rattle.cayley_terms.specs.Instrs.{no_measure, instr_measure, join_measure, meet_measure, on_measure}
use Rattle.cayley_terms.specs.Programs.{NamesEarlier, EndsInOne, IsInner, IsLast}
use Rattle.cayley_run.specs.Runs.{Log, at_start, with_instr}
use Rattle.cayley_run.specs.declared.answer.Options.{Options}
use Rattle.cayley_run.specs.RunLaws.{AllEndWell}
use Rattle.cayley_run.specs.Bounds.{HasNumbers, IsKeyWithin, IsPolynomialWithin, object_measures}
use Rattle.cayley_run.specs.Ready.{AreSmall, IsOperand, IsPoint, step_at, Makes, IsReady}
use Rattle.cayley_run.proofs.InstrLaws.{Made, measures_of, values_of, IsMade, Adds, made_of, inner_instr}
use Rattle.cayley_run.proofs.KeyBounds.{IsEntryWithin, IsProductWithin, joins_within, meets_within, mixed_within, conic_within}
use Rattle.cayley_run.proofs.Operands.{IsSmall}
use Rattle.cayley_run.proofs.RunBounds.{Fits, inner_fits, last_fits, IsMadeWithin, GrowsByOne, at, is_at, within_at, sized_at}
use Rattle.cayley_run.proofs.RunBounds.{instr_within}
use Rattle.cayley_run.proofs.RunMeaning.{new_behind, made-new}
use Rattle.cayley_run.proofs.SectionBounds.{IsStartWithin, tracked_within}

-- ---- degrees

-- no exponent passes 1,000 where the degree does not
degree_small : (n m : ℕ) (size : Measure) (f : BracketPolynomial) → size.degree ≤ 1000 → IsPolynomialWithin n m size f
    → HasDegree 1000 f
degree_small n m size f h w =
    all_so (λ t. IsKeyWithin n m size t.0) (λ t. AllByRecursion (λ e. e ≤ 1000) t.0.exponents)
    (λ t k. all_so (λ e. e ≤ size.degree) (λ e. e ≤ 1000) (λ e l. omega arith) t.0.exponents k.exponents.small) f.terms w

starts_small : (n m : ℕ) (size : Measure) (ps : List Product) → size.degree ≤ 1000
    → AllByRecursion (IsProductWithin n m size) ps → AreSmall (tracked_entries ps)
starts_small n m size ps h w =
    all_so (IsStartWithin n m size) (λ start. HasDegree 1000 start.1.sum)
    (λ start k. degree_small n m size start.1.sum h k.keys) (tracked_entries ps) (tracked_within n m size ps w)

value_small : (n m : ℕ) (x : Made) → x.measure.degree ≤ 1000 → IsMadeWithin n m x → IsSmall x.value
value_small n m x h w =
    all_so (IsEntryWithin n m x.measure) (λ e. HasDegree 1000 e.1)
    (λ e k. degree_small n m x.measure e.1 h k.keys) x.value w

-- ---- on the way

-- what holds of a run that has done some instructions, of which it has the steps, and has the others to do
pub record IsOnWay (d : ℕ) (log : Log) (steps : List ℕ) (instrs : List Instr) (later : List ℕ) : Type 0 where
  pub made : List Made
  pub all : AllByRecursion (IsMade d) made
  pub within : AllByRecursion (IsMadeWithin 200 64) made
  pub degrees : AllByRecursion (λ x. x.measure.degree ≤ 1000) made
  pub values : log.values ≡ values_of made
  pub sections : AllEndWell d log.objects
  pub stepped : steps ≡ map (λ x. x.measure.step) made
  pub ends : EndsInOne d (measures_of made) instrs
  pub numbers : AllByRecursion (HasNumbers 200 64) instrs
  pub rest : later ≡ map (λ m. m.step) (new_behind (instr_measure d) (measures_of made) instrs)
  pub few : length log.objects ≤ length made
  pub count : length made + length instrs < 2 ^ 32

-- what the next instruction needs
record IsNext (d : ℕ) (before : List Measure) (instr : Instr) : Type 0 where
  pub earlier : NamesEarlier before instr
  pub fits : Fits d before instr
  pub degree : (instr_measure d before instr).degree ≤ 1000

next_is : (d : ℕ) (before : List Measure) (instr : Instr) (instrs : List Instr) → EndsInOne d before (instr ∷ instrs)
    → IsNext d before instr
next_is d before instr [] h = record { earlier = h.earlier; fits = last_fits d before instr h; degree = h.degree }
next_is d before instr (next ∷ instrs) h =
    record { earlier = h.0.earlier; fits = inner_fits d before instr h.0; degree = h.0.sized.degree }

step_same : (made : List Made) (k : ℕ)
    → get_or (map (λ x. x.measure.step) made) k 0 ≡ (get_or (measures_of made) k no_measure).step
step_same [] k = refl
step_same (x ∷ made) zero = refl
step_same (x ∷ made) (suc k) = step_same made k

module _ (d : ℕ) (rank : IsRank d) (log : Log) (steps : List ℕ) (instr : Instr) (instrs : List Instr) (step : ℕ)
    (later : List ℕ) (w : IsOnWay d log steps (instr ∷ instrs) (step ∷ later)) where
  abbrev made : List Made
  made = w.made

  abbrev there : ℕ → Made
  there k = at 200 64 d rank made log w.all w.within w.values k

  next : IsNext d (measures_of made) instr
  next = next_is d (measures_of made) instr instrs w.ends

  here : step ≡ (instr_measure d (measures_of made) instr).step
  here = ap (λ (ns : List ℕ). get_or ns 0 0) w.rest

  step_there : (k : ℕ) → step_at steps k ≡ (there k).measure.step
  step_there k = ap (λ (ns : List ℕ). get_or ns k 0) w.stepped ∙ step_same made k

  length-steps : length steps ≡ length made
  length-steps = ap (λ (ns : List ℕ). length ns) w.stepped ∙ length-map made (λ x. x.measure.step)

  length-measures : length (measures_of made) ≡ length made
  length-measures = length-map made (λ x. x.measure)

  operand : (k : ℕ) → k < length (measures_of made) → IsOperand d steps k
  operand k l =
      let x : IsMade d (there k) = is_at 200 64 d rank made log w.all w.within w.values k l in
      let e : step_at steps k ≡ (there k).figure.step = step_there k ∙ x.step in
      let i = length-steps in
      let j = length-measures in
      record {
        earlier = omega arith;
        least = subst (λ n. 1 ≤ n) (sym e) x.least;
        below = subst (λ n. n < d) (sym e) x.below;
      }

  point : (k : ℕ) → k < length (measures_of made) → (there k).measure.step ≡ 1 → IsPoint steps k
  point k l e =
      let i = length-steps in
      let j = length-measures in
      record { earlier = omega arith; one = step_there k ∙ e }

  inside : (k : ℕ) → k < length (measures_of made) → IsMadeWithin 200 64 (there k)
  inside k l = within_at 200 64 d rank made log w.all w.within w.values k l

  makes : (i : Instr) → IsNext d (measures_of made) i → step ≡ (instr_measure d (measures_of made) i).step
      → Makes d steps log.values i step
  makes (Free i) n e = e
  makes (Join a b) n e = record {
    pair = record {
      first = operand a n.earlier.0;
      second = operand b n.earlier.1.0;
      small =
          starts_small 200 64 (join_measure d (there a).measure (there b).measure)
          (join_products d (there a).value (there b).value) n.degree
          (joins_within 200 64 d (there a).measure (there b).measure (there a).value (there b).value
          (sized_at 200 64 d rank made log w.all w.within w.values a n.earlier.0)
          (sized_at 200 64 d rank made log w.all w.within w.values b n.earlier.1.0));
    };
    few = subst (λ k. k ≤ d) (sym (ap₂ ◌+◌ (step_there a) (step_there b))) n.fits;
    step = e ∙ sym (ap₂ ◌+◌ (step_there a) (step_there b));
  }
  makes (Meet a b) n e = record {
    pair = record {
      first = operand a n.earlier.0;
      second = operand b n.earlier.1.0;
      small =
          starts_small 200 64 (meet_measure d (there a).measure (there b).measure)
          (meet_products d (there a).value (there b).value) n.degree
          (meets_within 200 64 d (there a).measure (there b).measure (there a).value (there b).value
          (within_at 200 64 d rank made log w.all w.within w.values a n.earlier.0)
          (within_at 200 64 d rank made log w.all w.within w.values b n.earlier.1.0));
    };
    many = subst (λ k. d ≤ k) (sym (ap₂ ◌+◌ (step_there a) (step_there b))) n.fits;
    step = e ∙ sym (ap₂ (λ i j. i + j - d) (step_there a) (step_there b));
  }
  makes (On a b s t) n e = record {
    pair = record {
      first = operand a n.earlier.0;
      second = operand b n.earlier.1.0;
      small =
          starts_small 200 64 (on_measure (there a).measure (there b).measure)
          (on_products (parameter_of 64 s) (parameter_of 64 t) (there a).value (there b).value) n.degree
          (mixed_within 200 64 (there a).measure (there b).measure s t n.fits.2 n.fits.3 (there a).value (there b).value
          (within_at 200 64 d rank made log w.all w.within w.values a n.earlier.0)
          (within_at 200 64 d rank made log w.all w.within w.values b n.earlier.1.0));
    };
    first = step_there a ∙ n.fits.0;
    second = step_there b ∙ n.fits.1;
    first_parameter = n.fits.2;
    second_parameter = n.fits.3;
    step = e;
  }
  makes (Conic p1 p2 p3 p4 p5 p6) n e =
      let l = n.earlier in
      let t = n.fits.1 in
      record {
        rank = n.fits.0;
        points = (
          point p1 l.0 t.0,
          (
            point p2 l.1.0 t.1.0,
            (
              point p3 l.1.1.0 t.1.1.0,
              (
                point p4 l.1.1.1.0 t.1.1.1.0,
                (point p5 l.1.1.1.1.0 t.1.1.1.1.0, (point p6 l.1.1.1.1.1.0 t.1.1.1.1.1.0, tt)),
              ),
            ),
          ),
        );
        small = λ start same.
            degree_small 200 64 (instr_measure d (measures_of made) (Conic p1 p2 p3 p4 p5 p6)) start.sum n.degree
            (conic_within 200 64 (there p1).measure (there p2).measure (there p3).measure (there p4).measure
            (there p5).measure (there p6).measure (there p1).value (there p2).value (there p3).value (there p4).value
            (there p5).value (there p6).value (inside p1 l.0) (inside p2 l.1.0) (inside p3 l.1.1.0) (inside p4 l.1.1.1.0)
            (inside p5 l.1.1.1.1.0) (inside p6 l.1.1.1.1.1.0) start same);
        step = e;
      }

  -- the next instruction can be run
  pub is_ready : IsReady d steps log.values instr step
  is_ready = record {
    small =
        subst (AllByRecursion IsSmall) (sym w.values)
        (all_map (λ x. (x.measure.degree ≤ 1000) × IsMadeWithin 200 64 x) IsSmall (λ x. x.value)
        (λ x h. value_small 200 64 x h.0 h.1) made
        (all_both (λ x. x.measure.degree ≤ 1000) (IsMadeWithin 200 64) made w.degrees w.within));
    makes = makes instr next here;
  }

  -- and there is room for one more object
  pub has_room : length log.objects + 1 < 2 ^ 32
  has_room = let f = w.few in let c = w.count in omega arith

-- ---- one instruction further

one_at_most : (instr : Instr) (size : Measure) → length (object_measures (instr ∷ []) (size ∷ [])) ≤ 1
one_at_most (Free i) size = omega arith
one_at_most (Join a b) size = omega arith
one_at_most (Meet a b) size = omega arith
one_at_most (On a b s t) size = omega arith
one_at_most (Conic p1 p2 p3 p4 p5 p6) size = omega arith

module _ (d : ℕ) (rank : IsRank d) (log : Log) (steps : List ℕ) (instr next : Instr) (instrs : List Instr) (step : ℕ)
    (later : List ℕ) (w : IsOnWay d log steps (instr ∷ next ∷ instrs) (step ∷ later)) where
  abbrev size : Measure
  size = instr_measure d (measures_of w.made) instr

  abbrev new : Log
  new = with_instr d log (instr, size.step)

  added : Adds d log (λ v. IsMade d (made_of d rank w.made log w.all w.values w.sections instr v)) new
  added = inner_instr d rank w.made log w.all w.values w.sections instr w.ends.0

  abbrev x : Made
  x = made_of d rank w.made log w.all w.values w.sections instr added.value

  one : GrowsByOne 200 64 log instr size new
  one =
      instr_within 200 64 d rank w.made log w.all w.within w.values instr w.numbers.0 w.ends.0.earlier
      (inner_fits d (measures_of w.made) instr w.ends.0)

  abbrev made_new : List Made
  made_new = w.made ++ x ∷ []

  measures-new : measures_of made_new ≡ measures_of w.made ++ size ∷ []
  measures-new = map-append (λ (y : Made). y.measure) w.made (x ∷ [])

  few_new : length new.objects ≤ length made_new
  few_new =
      let a : length new.objects ≡ length log.objects + length one.grows.more =
      ap (λ (os : List Worked). length os) one.grows.objects ∙ length-append log.objects one.grows.more in
      let b : length one.grows.more ≡ length (object_measures (instr ∷ []) (size ∷ [])) = one.exact in
      let c : length (object_measures (instr ∷ []) (size ∷ [])) ≤ 1 = one_at_most instr size in
      let e : length made_new ≡ length w.made + 1 = length-append w.made (x ∷ []) in
      let f = w.few in
      omega arith

  goes : (with_instr d log (instr, size.step)).stop ≡ None
      → IsOnWay d (with_instr d log (instr, size.step)) (steps ++ size.step ∷ []) (next ∷ instrs) later
  goes s = record {
    made = made_new;
    all = all_append (IsMade d) w.made (x ∷ []) w.all (added.good s, tt);
    within = all_append (IsMadeWithin 200 64) w.made (x ∷ []) w.within (one.value added.value added.values, tt);
    degrees =
        all_append (λ (y : Made). y.measure.degree ≤ 1000) w.made (x ∷ []) w.degrees (w.ends.0.sized.degree, tt);
    values =
        added.values ∙ ap (λ vs. vs ++ added.value ∷ []) w.values ∙ sym (map-append (λ (y : Made). y.value) w.made (x ∷ []));
    sections = added.well;
    stepped =
        ap (λ (ns : List ℕ). ns ++ size.step ∷ []) w.stepped
        ∙ sym (map-append (λ (y : Made). y.measure.step) w.made (x ∷ []));
    ends = subst (λ (ms : List Measure). EndsInOne d ms (next ∷ instrs)) (sym measures-new) w.ends.1;
    numbers = w.numbers.1;
    rest =
        ap (λ (ns : List ℕ). drop_first ns) w.rest
        ∙ ap (λ (ms : List Measure). map (λ m. m.step) (new_behind (instr_measure d) ms (next ∷ instrs))) (sym measures-new);
    few = few_new;
    count =
        let e : length made_new ≡ length w.made + 1 = length-append w.made (x ∷ []) in
        let c = w.count in
        omega arith;
  }
    where
      drop_first : List ℕ → List ℕ
      drop_first [] = []
      drop_first (n ∷ ns) = ns

  -- the others are still to do
  pub goes_further : (with_instr d log (instr, step)).stop ≡ None
      → IsOnWay d (with_instr d log (instr, step)) (steps ++ step ∷ []) (next ∷ instrs) later
  goes_further =
      subst (λ n. (with_instr d log (instr, n)).stop ≡ None
      → IsOnWay d (with_instr d log (instr, n)) (steps ++ n ∷ []) (next ∷ instrs) later)
      (sym (ap (λ (ns : List ℕ). get_or ns 0 0) w.rest)) goes

-- ---- the beginning

numbers_of : (d : ℕ) (before : List Measure) (instrs : List Instr) → EndsInOne d before instrs
    → AllByRecursion (HasNumbers 200 64) instrs
numbers_of d before [] h = tt
numbers_of d before (instr ∷ []) h = (last_number instr h, tt)
  where
    last_number : (i : Instr) → IsLast d before i → HasNumbers 200 64 i
    last_number (Free i) h = absurd h.steps
    last_number (Join a b) h = tt
    last_number (Meet a b) h = tt
    last_number (On a b s t) h = absurd h.steps
    last_number (Conic p1 p2 p3 p4 p5 p6) h = tt
numbers_of d before (instr ∷ next ∷ instrs) h =
    (number instr h.0, numbers_of d (before ++ instr_measure d before instr ∷ []) (next ∷ instrs) h.1)
  where
    number : (i : Instr) → IsInner d before i → HasNumbers 200 64 i
    number (Free i) h = h.steps
    number (Join a b) h = tt
    number (Meet a b) h = tt
    number (On a b s t) h = (h.steps.2, h.steps.3)
    number (Conic p1 p2 p3 p4 p5 p6) h = absurd h.steps

pub begins : (options : Options) (p : Program)
    → IsOnWay p.rank (at_start options) [] p.instrs p.steps
begins options p = record {
  made = [];
  all = tt;
  within = tt;
  degrees = tt;
  values = refl;
  sections = tt;
  stepped = refl;
  ends = p.formed.each;
  numbers = numbers_of p.rank [] p.instrs p.formed.each;
  rest =
      p.formed.stepped ∙ ap (λ (ms : List Measure). map (λ m. m.step) ms) (made-new (instr_measure p.rank) [] p.instrs);
  few = omega arith;
  count = let f : length p.instrs < 2 ^ 32 = p.formed.few in omega arith;
}
