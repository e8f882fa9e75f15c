-- The object of an instruction, where nothing stopped it: its starts, its sections as they are read
-- back, and its value.
use Rattle.std.proofs.Common.{◌≡◌, ℕ, ◌+◌, ◌-◌, ◌<◌, ◌≤◌, ◌==◌, Bool, true, false, cond, T, List, [], ◌∷◌, map, length}
use Rattle.std.proofs.Common.{Option, Some, None, refl, sym, ap, ap₂, subst, ◌∙◌, arith, eqb-true}
use Rattle.std.specs.Prelude.{Result, Ok, Err}
use Rattle.std.specs.FinMap.{is_sorted}
use Rattle.std.specs.List.{AllByRecursion}
use Rattle.coordinate_model.specs.Sequences.{IsRank}
use Rattle.coordinate_model.specs.Key.{row_cmp}
use Rattle.coordinate_model.specs.BracketPolynomial.{BracketPolynomial, parameter_of}
use Rattle.coordinate_model.specs.Starts.{Product, join_products, meet_products, on_products}
use Rattle.coordinate_model.proofs.Increasing.{increasing_next}
use Rattle.coordinate_model.proofs.Splits.{all_so, all_both}
use Rattle.coordinate_model.proofs.StartSizes.{IsSizedProduct}
use Rattle.step_types.specs.declared.measure.Measure.{Measure}
use Rattle.step_types.specs.declared.names.Names.{Names}
use Rattle.bracket_poly.specs.Products.{HasDegree}
use Rattle.bracket_poly.specs.Tracked.{Tracked, Limit}
use Rattle.bracket_poly.specs.Values.{extensor_size}
use Rattle.cayley_terms.specs.declared.instr.Instr.{Instr}
use Rattle.cayley_terms.specs.declared.instr.Instr.TheVariants.{Free, Join, Meet, On, Conic}
use Rattle.cayley_terms.specs.Instrs.{instr_measure, join_measure, meet_measure, on_measure, conic_measure}
use Rattle.cayley_terms.specs.Programs.{NamesEarlier}
use Rattle.conic_points.specs.Makings.{made_conic}
use Rattle.shuffle_meet.specs.SectionStarts.{is_conclusion, section_starts}
use Rattle.shuffle_meet.specs.Stops.{Start, first_stop}
use Rattle.straightening.specs.Runs.{limit_stop}
use Rattle.cayley_run.specs.Bounds.{HasNumbers, IsKeyWithin, IsPolynomialWithin, IsSectionWithin}
use Rattle.cayley_run.specs.Runs.{Log, with_object, with_start, with_starts, with_stop, with_instr}
use Rattle.cayley_run.specs.Sections.{run_starts}
use Rattle.cayley_run.proofs.ConicStarts.{conic_start}
use Rattle.cayley_run.proofs.InstrLaws.{Made, measures_of, values_of, IsMade, made_at, holds_at, join_work, meet_work}
use Rattle.cayley_run.proofs.InstrLaws.{on_work}
use Rattle.cayley_run.proofs.InstrLaws.{plane_point}
use Rattle.cayley_run.proofs.KeyBounds.{IsProductWithin, joins_within, meets_within, mixed_within, conic_within}
use Rattle.cayley_run.proofs.ObjectLaws.{starts-are}
use Rattle.cayley_run.proofs.RunBounds.{Fits, IsMadeWithin, sized_at}
use Rattle.cayley_run.proofs.SectionBounds.{IsStartWithin, starts_within, section_starts_within}
use Rattle.cayley_run.proofs.SectionLaws.{IsStart}
use Rattle.log_checker.specs.Accepted.{start_entry}
use Rattle.log_checker.specs.Objects.{point_of}
use Rattle.log_checker.specs.Starts.{starts_of, start_made}
use Rattle.log_checker.specs.Starts as checker
use Rattle.prover.proofs.WrittenStarts.{Rises, RisesAt, IsGoodStart, good_starts, starts_ascend, joins_rise}
use Rattle.prover.proofs.WrittenStarts.{meets_rise, mixed_rise}
use Rattle.prover.proofs.WrittenStarts.{six_within}
use Rattle.prover.proofs.WrittenSections.{IsStartOf}

-- ---- the starts of an instruction

-- the instruction has these starts, and nothing stopped their making
pub record Begins (names : Names) (size : Measure) (log : Log) (instr : Instr) (step : ℕ) : Type 0 where
  pub starts : List Start
  pub made : starts_of names.rank log.values instr step ≡ Ok starts
  pub new : with_instr names.rank log (instr, step) ≡ with_starts step starts log
  pub are : AllByRecursion (IsStartOf names.rank step) starts
  pub ascend : T (is_sorted row_cmp (map start_entry starts))
  pub sections : AllByRecursion (IsSectionWithin (length names.free) (length names.params) size)
      (run_starts log.options.contract log.left starts).sections

degree_small : (n m : ℕ) (size : Measure) (f : BracketPolynomial) → size.degree ≤ 1000 → IsPolynomialWithin n m size f
    → HasDegree 1000 f
degree_small n m size f h w =
    all_so (λ t. IsKeyWithin n m size t.0) (λ t. AllByRecursion (λ e. e ≤ 1000) t.0.exponents)
    (λ t k. all_so (λ e. e ≤ size.degree) (λ e. e ≤ 1000) (λ e l. omega arith) t.0.exponents k.exponents.small)
    f.terms w

-- ---- of products

-- what products make, where none passes a limit
record ProductStarts (names : Names) (size : Measure) (log : Log) (step : ℕ) (ps : List Product) : Type 0 where
  none : first_stop [] ps ≡ None
  new : with_object names.rank step ps log ≡ with_starts step (section_starts names.rank step ps) log
  are : AllByRecursion (IsStartOf names.rank step) (section_starts names.rank step ps)
  sections : AllByRecursion (IsSectionWithin (length names.free) (length names.params) size)
      (run_starts log.options.contract log.left (section_starts names.rank step ps)).sections

abbrev object_by : ℕ → ℕ → List Product → Log → Option Limit → Log
object_by d step ps log o = elim o [
  | Some limit ↦ with_stop step (limit_stop limit) log
  | None ↦ with_starts step (section_starts d step ps) log
]

no_stop : (d step : ℕ) (ps : List Product) (log : Log) → (with_object d step ps log).stop ≡ None
    → first_stop [] ps ≡ None
no_stop d step ps log e = by_limit (first_stop [] ps) refl e
  where
    by_limit : (o : Option Limit) → first_stop [] ps ≡ o → (object_by d step ps log o).stop ≡ None
        → first_stop [] ps ≡ None
    by_limit (Some limit) f g = cc
    by_limit None f g = f

module _ (names : Names) (size : Measure) (degree : size.degree ≤ 1000) (a step : ℕ) (rank : IsRank names.rank)
    (ps : List Product) (sized : AllByRecursion (IsSizedProduct names.rank 64 a) ps)
    (none : is_conclusion names.rank step ≡ true → a ≡ 0) (count : a ≡ extensor_size names.rank step)
    (within : AllByRecursion (IsProductWithin (length names.free) (length names.params) size) ps)
    (rises : AllByRecursion RisesAt ps) (log : Log) where
  product_starts : (with_object names.rank step ps log).stop ≡ None → ProductStarts names size log step ps
  product_starts e =
      let n = length names.free in
      let m = length names.params in
      let d = names.rank in
      let free : first_stop [] ps ≡ None = no_stop d step ps log e in
      let formed : AllByRecursion (IsStart d a) (section_starts d step ps) = starts-are d a step rank ps sized none in
      let bounded : AllByRecursion (IsStartWithin n m size) (section_starts d step ps) =
      section_starts_within n m size d step ps within in
      let good : AllByRecursion IsGoodStart (section_starts d step ps) = good_starts d step ps rises free in
      record {
        none = free;
        new = ap (object_by d step ps log) free;
        are =
            all_so (λ start. IsStart d a start × (IsStartWithin n m size start × IsGoodStart start)) (IsStartOf d step)
            (λ start h. record {
              going = record {
                within = h.1.1.within;
                keys = h.0.keys;
                degrees = degree_small n m size start.1.sum degree h.1.0.keys;
              };
              row = (h.0.points ∙ count, h.1.1.points);
            })
            (section_starts d step ps)
            (all_both (IsStart d a) (λ start. IsStartWithin n m size start × IsGoodStart start)
            (section_starts d step ps) formed
            (all_both (IsStartWithin n m size) IsGoodStart (section_starts d step ps) bounded good));
        sections =
            starts_within n m size d a rank log.options.contract log.left (section_starts d step ps) formed bounded;
      }

-- what the checker makes of products
starts_made : (d step : ℕ) (ps : List Product) → first_stop [] ps ≡ None
    → checker.starts_by d step ps ≡ Ok (section_starts d step ps)
starts_made d step ps e =
    ap (λ (o : Option Limit). elim o as (λ _. Result (List Start) Limit) [
      | Some limit ↦ Err limit
      | None ↦ Ok (section_starts d step ps)
    ]) e

begins_with : (names : Names) (size : Measure) (log : Log) (instr : Instr) (step : ℕ) (ps : List Product)
    → starts_of names.rank log.values instr step ≡ checker.starts_by names.rank step ps
    → with_instr names.rank log (instr, step) ≡ with_object names.rank step ps log
    → ProductStarts names size log step ps → Begins names size log instr step
begins_with names size log instr step ps made new h = record {
  starts = section_starts names.rank step ps;
  made = made ∙ starts_made names.rank step ps h.none;
  new = new ∙ h.new;
  are = h.are;
  ascend = starts_ascend names.rank step ps;
  sections = h.sections;
}

-- ---- how many points the extensors have

below_size : (d step : ℕ) → step < d → step ≡ extensor_size d step
below_size d step l = by_test (step == d) refl
  where
    by_test : (b : Bool) → (step == d) ≡ b → step ≡ cond b 0 step
    by_test true e = let s : step ≡ d = eqb-true step d e in absurd (omega arith)
    by_test false e = refl

no_size : (d : ℕ) → ◌≡◌ {A = ℕ} 0 (extensor_size d 0)
no_size d = by_test (0 == d)
  where
    by_test : (b : Bool) → ◌≡◌ {A = ℕ} 0 (cond b 0 0)
    by_test true = refl
    by_test false = refl

-- ---- of an instruction

abbrev pub HasRisingValue : Made → Type 0
HasRisingValue x = AllByRecursion Rises x.value

module _ (names : Names) (rank : IsRank names.rank) (made : List Made) (log : Log)
    (all : AllByRecursion (IsMade names.rank) made)
    (within : AllByRecursion (IsMadeWithin (length names.free) (length names.params)) made)
    (rising : AllByRecursion HasRisingValue made) (values : log.values ≡ values_of made) where
  abbrev there : ℕ → Made
  there k = made_at made log values k

  there_is : (k : ℕ) → k < length (measures_of made) → IsMade names.rank (there k)
  there_is k l = holds_at made log values (IsMade names.rank) all k l

  there_within : (k : ℕ) → k < length (measures_of made)
      → IsMadeWithin (length names.free) (length names.params) (there k)
  there_within k l = holds_at made log values (IsMadeWithin (length names.free) (length names.params)) within k l

  there_rises : (k : ℕ) → k < length (measures_of made) → AllByRecursion Rises (there k).value
  there_rises k l = holds_at made log values HasRisingValue rising k l

  begins_join : (a b : ℕ) → NamesEarlier (measures_of made) (Join a b) → Fits names.rank (measures_of made) (Join a b)
      → (instr_measure names.rank (measures_of made) (Join a b)).degree ≤ 1000
      → (with_instr names.rank log (Join a b, (instr_measure names.rank (measures_of made) (Join a b)).step)).stop
      ≡ None
      → Begins names (instr_measure names.rank (measures_of made) (Join a b)) log (Join a b)
      (instr_measure names.rank (measures_of made) (Join a b)).step
  begins_join a b h f degree e =
      let d = names.rank in
      let n = length names.free in
      let m = length names.params in
      let x : IsMade d (there a) = there_is a h.0 in
      let y : IsMade d (there b) = there_is b h.1.0 in
      let size = join_measure d (there a).measure (there b).measure in
      let s : (there a).measure.step + (there b).measure.step ≡ (there a).figure.step + (there b).figure.step =
      ap₂ ◌+◌ x.step y.step in
      let few : (there a).figure.step + (there b).figure.step ≤ d = subst (λ k. k ≤ d) s f in
      let w = join_work d rank (there a) (there b) x y few in
      let ps = join_products d (there a).value (there b).value in
      begins_with names size log (Join a b) size.step ps refl refl
      (product_starts names size degree
      (cond ((there a).figure.step + (there b).figure.step == d) 0 ((there a).figure.step + (there b).figure.step))
      size.step rank ps w.sized w.none (ap (extensor_size d) (sym s))
      (joins_within n m d (there a).measure (there b).measure (there a).value (there b).value
      (sized_at n m d rank made log all within values a h.0) (sized_at n m d rank made log all within values b h.1.0))
      (joins_rise d (there a).value (there b).value (there_rises a h.0) (there_rises b h.1.0)) log e)

  begins_meet : (a b : ℕ) → NamesEarlier (measures_of made) (Meet a b) → Fits names.rank (measures_of made) (Meet a b)
      → (instr_measure names.rank (measures_of made) (Meet a b)).degree ≤ 1000
      → (with_instr names.rank log (Meet a b, (instr_measure names.rank (measures_of made) (Meet a b)).step)).stop
      ≡ None
      → Begins names (instr_measure names.rank (measures_of made) (Meet a b)) log (Meet a b)
      (instr_measure names.rank (measures_of made) (Meet a b)).step
  begins_meet a b h f degree e =
      let d = names.rank in
      let n = length names.free in
      let m = length names.params in
      let x : IsMade d (there a) = there_is a h.0 in
      let y : IsMade d (there b) = there_is b h.1.0 in
      let size = meet_measure d (there a).measure (there b).measure in
      let s : (there a).measure.step + (there b).measure.step ≡ (there a).figure.step + (there b).figure.step =
      ap₂ ◌+◌ x.step y.step in
      let enough : d ≤ (there a).figure.step + (there b).figure.step = subst (λ k. d ≤ k) s f in
      let w = meet_work d rank (there a) (there b) x y enough in
      let ps = meet_products d (there a).value (there b).value in
      let p : (there a).figure.step < d = x.below in
      let q : (there b).figure.step < d = y.below in
      let below : (there a).figure.step + (there b).figure.step - d < d = omega arith in
      begins_with names size log (Meet a b) size.step ps refl refl
      (product_starts names size degree ((there a).figure.step + (there b).figure.step - d) size.step rank ps w.sized
      w.none
      (below_size d ((there a).figure.step + (there b).figure.step - d) below
      ∙ ap (λ k. extensor_size d (k - d)) (sym s))
      (meets_within n m d (there a).measure (there b).measure (there a).value (there b).value (there_within a h.0)
      (there_within b h.1.0))
      (meets_rise d (there a).value (there b).value (there_rises a h.0) (there_rises b h.1.0)) log e)

  begins_on : (a b s t : ℕ) → NamesEarlier (measures_of made) (On a b s t)
      → HasNumbers (length names.free) (length names.params) (On a b s t)
      → Fits names.rank (measures_of made) (On a b s t)
      → (instr_measure names.rank (measures_of made) (On a b s t)).degree ≤ 1000
      → (with_instr names.rank log (On a b s t, 1)).stop ≡ None
      → Begins names (instr_measure names.rank (measures_of made) (On a b s t)) log (On a b s t) 1
  begins_on a b s t h c f degree e =
      let d = names.rank in
      let n = length names.free in
      let m = length names.params in
      let x : IsMade d (there a) = there_is a h.0 in
      let y : IsMade d (there b) = there_is b h.1.0 in
      let size = on_measure (there a).measure (there b).measure in
      let w = on_work d rank (there a) (there b) x y s t f.2 f.3 (sym x.step ∙ f.0) (sym y.step ∙ f.1) in
      let ps = on_products (parameter_of 64 s) (parameter_of 64 t) (there a).value (there b).value in
      let one : 1 < d = let r = rank.0 in omega arith in
      begins_with names size log (On a b s t) 1 ps refl refl
      (product_starts names size degree 1 1 rank ps w.sized w.none (below_size d 1 one)
      (mixed_within n m (there a).measure (there b).measure s t c.0 c.1 (there a).value (there b).value
      (there_within a h.0) (there_within b h.1.0))
      (mixed_rise (parameter_of 64 s) (parameter_of 64 t) (there a).value (there b).value (there_rises a h.0)
      (there_rises b h.1.0)) log e)

  begins_conic : (p1 p2 p3 p4 p5 p6 : ℕ) → NamesEarlier (measures_of made) (Conic p1 p2 p3 p4 p5 p6)
      → Fits names.rank (measures_of made) (Conic p1 p2 p3 p4 p5 p6)
      → (instr_measure names.rank (measures_of made) (Conic p1 p2 p3 p4 p5 p6)).degree ≤ 1000
      → (with_instr names.rank log (Conic p1 p2 p3 p4 p5 p6, 0)).stop ≡ None
      → Begins names (instr_measure names.rank (measures_of made) (Conic p1 p2 p3 p4 p5 p6)) log
      (Conic p1 p2 p3 p4 p5 p6) 0
  begins_conic p1 p2 p3 p4 p5 p6 h f degree e = by_made start refl e
    where
      d : ℕ
      d = names.rank

      n : ℕ
      n = length names.free

      m : ℕ
      m = length names.params

      size : Measure
      size =
          conic_measure (there p1).measure (there p2).measure (there p3).measure (there p4).measure (there p5).measure
          (there p6).measure

      start : Result Tracked Limit
      start =
          made_conic (there p1).value (there p2).value (there p3).value (there p4).value (there p5).value
          (there p6).value

      by_made : (r : Result Tracked Limit) → start ≡ r → (with_start 0 r log).stop ≡ None
          → Begins names size log (Conic p1 p2 p3 p4 p5 p6) 0
      by_made (Err limit) g k = cc
      by_made (Ok q) g k =
          let t = f.1 in
          let x1 = plane_point d (there p1) (there_is p1 h.0) f.0 t.0 in
          let x2 = plane_point d (there p2) (there_is p2 h.1.0) f.0 t.1.0 in
          let x3 = plane_point d (there p3) (there_is p3 h.1.1.0) f.0 t.1.1.0 in
          let x4 = plane_point d (there p4) (there_is p4 h.1.1.1.0) f.0 t.1.1.1.0 in
          let x5 = plane_point d (there p5) (there_is p5 h.1.1.1.1.0) f.0 t.1.1.1.1.0 in
          let x6 = plane_point d (there p6) (there_is p6 h.1.1.1.1.1.0) f.0 t.1.1.1.1.1.0 in
          let formed : IsStart names.rank 0 ([], q) =
          subst (λ k. IsStart k 0 ([], q)) (sym f.0)
          (conic_start (there p1).value (there p2).value (there p3).value (there p4).value (there p5).value
          (there p6).value
          (there p1).figure (there p2).figure (there p3).figure (there p4).figure (there p5).figure
          (there p6).figure x1 x2 x3
          x4 x5 x6 q g) in
          let bounded : IsPolynomialWithin (length names.free) (length names.params) size q.sum =
          conic_within n m (there p1).measure (there p2).measure (there p3).measure (there p4).measure
          (there p5).measure
          (there p6).measure (there p1).value (there p2).value (there p3).value (there p4).value (there p5).value
          (there p6).value (there_within p1 h.0) (there_within p2 h.1.0) (there_within p3 h.1.1.0)
          (there_within p4 h.1.1.1.0) (there_within p5 h.1.1.1.1.0) (there_within p6 h.1.1.1.1.1.0) q g in
          record {
            starts = ([], q) ∷ [];
            made = ap start_made g;
            new = ap (λ (r : Result Tracked Limit). with_start 0 r log) g;
            are = (
              record {
                going = record {
                  within =
                      six_within (there p1).value (there p2).value (there p3).value (there p4).value (there p5).value
                      (there p6).value q g;
                  keys = formed.keys;
                  degrees = degree_small n m size q.sum degree bounded;
                };
                row = (no_size names.rank, increasing_next [] tt);
              },
              tt,
            );
            ascend = tt;
            sections =
                starts_within n m size d 0 rank log.options.contract log.left (([], q) ∷ []) (formed, tt)
                (record { points = tt; keys = bounded }, tt);
          }

  pub begins : (instr : Instr) → point_of instr ≡ None → NamesEarlier (measures_of made) instr
      → HasNumbers (length names.free) (length names.params) instr → Fits names.rank (measures_of made) instr
      → (instr_measure names.rank (measures_of made) instr).degree ≤ 1000
      → (with_instr names.rank log (instr, (instr_measure names.rank (measures_of made) instr).step)).stop ≡ None
      → Begins names (instr_measure names.rank (measures_of made) instr) log instr
      (instr_measure names.rank (measures_of made) instr).step
  begins (Free i) o h c f degree e = cc
  begins (Join a b) o h c f degree e = begins_join a b h f degree e
  begins (Meet a b) o h c f degree e = begins_meet a b h f degree e
  begins (On a b s t) o h c f degree e = begins_on a b s t h c f degree e
  begins (Conic p1 p2 p3 p4 p5 p6) o h c f degree e = begins_conic p1 p2 p3 p4 p5 p6 h f degree e
