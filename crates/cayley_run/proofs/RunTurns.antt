-- The turns of a run, by its sections: each takes at most its turns, and leaves the rest of the budget to the next.
use Rattle.std.proofs.Common.{◌≡◌, ℕ, Bool, ◌+◌, ◌-◌, ◌<◌, ◌≤◌, ◌==◌, List, [], ◌∷◌, ◌++◌, cond, map, zip, length}
use Rattle.std.proofs.Common.{true, refl, sym, ap, ap₂, subst, ◌∙◌, arith}
use Rattle.std.specs.Prelude.{Option, Some, None, Result, Ok, Err}
use Rattle.std.specs.List.{AllByRecursion}
use Rattle.coordinate_model.specs.Sequences.{IsRank}
use Rattle.coordinate_model.specs.BracketPolynomial.{parameter_of}
use Rattle.coordinate_model.specs.Starts.{Product, join_products, meet_products, on_products}
use Rattle.coordinate_model.proofs.Hom.{map-append}
use Rattle.coordinate_model.proofs.Splits.{all_append}
use Rattle.coordinate_model.proofs.StartSizes.{IsSizedProduct}
use Rattle.step_types.specs.declared.measure.Measure.{Measure}
use Rattle.bracket_poly.specs.Sections.{Worked}
use Rattle.bracket_poly.specs.Tracked.{Tracked, Limit}
use Rattle.conic_points.specs.Makings.{made_conic}
use Rattle.shuffle_meet.specs.Stops.{first_stop, Start}
use Rattle.straightening.specs.Bounds.{TakesAtMost, turnable_keys}
use Rattle.straightening.specs.Runs.{Run, Stop, turns_stop, limit_stop}
use Rattle.cayley_terms.specs.declared.instr.Instr.{Instr}
use Rattle.cayley_terms.specs.declared.instr.Instr.TheVariants.{Free, Join, Meet, On, Conic}
use Rattle.cayley_terms.specs.Instrs.{instr_measure}
use Rattle.cayley_terms.specs.Programs.{NamesEarlier, EndsInOne}
use Rattle.cayley_run.specs.declared.answer.Options.{Options}
use Rattle.cayley_run.specs.Sections.{work, rewritten, Sections, run_starts}
use Rattle.shuffle_meet.specs.SectionStarts.{is_conclusion, section_starts}
use Rattle.cayley_run.specs.Runs.{Log, at_start, with_sections, with_object, with_start, with_instr, run_on, run_of}
use Rattle.cayley_run.specs.RunLaws.{AllEndWell}
use Rattle.cayley_run.specs.TurnBounds.{sections_turns, all_turns, HasFewTurns, RunTakesFewTurns}
use Rattle.cayley_run.proofs.InstrLaws.{Made, measures_of, values_of, IsMade, Adds, made_at, holds_at}
use Rattle.cayley_run.proofs.InstrLaws.{join_work, meet_work, on_work, made_of, plane_point, inner_instr}
use Rattle.cayley_run.proofs.ConicStarts.{conic_start}
use Rattle.cayley_run.proofs.ObjectLaws.{starts-are}
use Rattle.cayley_run.proofs.RunBounds.{Fits, inner_fits, last_fits}
use Rattle.cayley_run.proofs.RunMeaning.{made-new, with_steps, stopped, goes_on}
use Rattle.cayley_run.proofs.SectionLaws.{IsStart, starts_by}
use Rattle.cayley_run.proofs.WorkLaws.{IsWork, work_is}

-- ---- sections

-- sections that began with so many turns spend at most theirs, and stop for their turns only where these are fewer
record SpendsOn (d : ℕ) (contract : Bool) (budget : ℕ) (s : Sections) : Type 0 where
  each : AllByRecursion (HasFewTurns d contract) s.sections
  left : budget ≤ s.left + sections_turns d s.sections
  few : s.stop ≡ Some turns_stop → budget < sections_turns d s.sections

module _ (d a : ℕ) (rank : IsRank d) (contract : Bool) where
  starts_spend : (budget : ℕ) (starts : List Start) → AllByRecursion (IsStart d a) starts
      → SpendsOn d contract budget (run_starts contract budget starts)
  starts_spend budget [] h = record { each = tt; left = omega arith; few = λ e. cc }
  starts_spend budget (start ∷ starts) h =
      step (work contract budget start.1).turns.stop refl
      (starts_spend (budget - length (work contract budget start.1).turns.uses) starts h.1)
    where
      is : IsWork d 64 contract budget start.1 (work contract budget start.1)
      is = work_is d 64 contract budget start.1 rank h.0.keys

      bound : TakesAtMost (length (turnable_keys d start.1.sum)) budget (work contract budget start.1).turns
      bound = is.most

      few_here : HasFewTurns d contract (rewritten start (work contract budget start.1))
      few_here = record {
        start = start.1;
        same_start = refl;
        turns = (work contract budget start.1).turns.uses;
        uses = ap (λ (r : Run). r.uses ++ (work contract budget start.1).turns.uses) is.passes;
        few = bound.turns;
      }

      step : (o : Option Stop) → (work contract budget start.1).turns.stop ≡ o
          → SpendsOn d contract (budget - length (work contract budget start.1).turns.uses)
          (run_starts contract (budget - length (work contract budget start.1).turns.uses) starts)
          → SpendsOn d contract budget
          (starts_by d a rank contract (budget - length (work contract budget start.1).turns.uses) start
          (work contract budget start.1)
          (run_starts contract (budget - length (work contract budget start.1).turns.uses) starts) o)
      step (Some stop) e ih =
          let t : length (work contract budget start.1).turns.uses ≤ length (turnable_keys d start.1.sum) =
          bound.turns in
          record {
            each = (few_here, tt);
            left = omega arith;
            few = λ s.
                let never : length (turnable_keys d start.1.sum) ≤ budget → ⊥ = λ l. bound.enough l (e ∙ s) in
                omega (arith, never);
          }
      step None e ih =
          let t : length (work contract budget start.1).turns.uses ≤ length (turnable_keys d start.1.sum) =
          bound.turns in
          let others : Sections = run_starts contract (budget - length (work contract budget start.1).turns.uses)
          starts in
          let l : budget - length (work contract budget start.1).turns.uses ≤ others.left + sections_turns d
          others.sections = ih.left in
          record {
            each = (few_here, ih.each);
            left = omega arith;
            few = λ s.
                let m : budget - length (work contract budget start.1).turns.uses < sections_turns d others.sections =
                ih.few s in
                omega arith;
          }

-- ---- objects

-- the same of a log
record Spends (d : ℕ) (options : Options) (log : Log) : Type 0 where
  same : log.options ≡ options
  each : AllByRecursion (λ o. AllByRecursion (HasFewTurns d options.contract) o.sections) log.objects
  left : options.budget ≤ log.left + all_turns d log.objects
  few : log.stop ≡ Some turns_stop → options.budget < all_turns d log.objects

all_turns-append : (d : ℕ) (objects : List Worked) (o : Worked)
    → all_turns d (objects ++ o ∷ []) ≡ all_turns d objects + sections_turns d o.sections
all_turns-append d [] o = omega arith
all_turns-append d (p ∷ objects) o =
    let e : all_turns d (objects ++ o ∷ []) ≡ all_turns d objects + sections_turns d o.sections =
    all_turns-append d objects o in
    omega arith

module _ (d : ℕ) (options : Options) (a step : ℕ) (rank : IsRank d) (log : Log) (h : Spends d options log) where
  sections_spend : (s : Sections) → SpendsOn d log.options.contract log.left s → Spends d options
      (with_sections step log s)
  sections_spend s here =
      let g : SpendsOn d options.contract log.left s =
      subst (λ (o : Options). SpendsOn d o.contract log.left s) h.same here in
      let o : Worked = record { number = length log.objects + 1; step = step; sections = s.sections } in
      let e : all_turns d (log.objects ++ o ∷ []) ≡ all_turns d log.objects + sections_turns d s.sections =
      all_turns-append d log.objects o in
      let l : options.budget ≤ log.left + all_turns d log.objects = h.left in
      let k : log.left ≤ s.left + sections_turns d s.sections = g.left in
      record {
        same = h.same;
        each =
            all_append (λ (o : Worked). AllByRecursion (HasFewTurns d options.contract) o.sections) log.objects
            (o ∷ []) h.each (g.each, tt);
        left = omega arith;
        few = λ t. let f : log.left < sections_turns d s.sections = g.few t in omega arith;
      }

  object_spends : (ps : List Product) → AllByRecursion (IsSizedProduct d 64 a) ps → (is_conclusion d step ≡ true → a ≡ 0)
      → Spends d options (with_object d step ps log)
  object_spends ps sized none = by_limit (first_stop [] ps)
    where
      by_limit : (o : Option Limit) → Spends d options (elim o [
        | Some limit ↦ with_sections step log (record { sections = []; left = log.left; stop = Some (limit_stop limit) })
        | None ↦ with_sections step log (run_starts log.options.contract log.left (section_starts d step ps))
      ])
      by_limit (Some limit) =
          sections_spend (record { sections = []; left = log.left; stop = Some (limit_stop limit) })
          (record { each = tt; left = omega arith; few = λ e. cc })
      by_limit None =
          sections_spend (run_starts log.options.contract log.left (section_starts d step ps))
          (starts_spend d a rank log.options.contract log.left (section_starts d step ps)
          (starts-are d a step rank ps sized none))

-- a start that is made at once
module _ (d : ℕ) (options : Options) (rank : IsRank d) (made : Result Tracked Limit)
    (keys : (f : Tracked) → made ≡ Ok f → IsStart d 0 ([], f)) (log : Log) (h : Spends d options log) where
  made_spends : Spends d options (with_start 0 made log)
  made_spends = by_made made refl
    where
      by_made : (r : Result Tracked Limit) → made ≡ r → Spends d options (with_start 0 r log)
      by_made (Err limit) e =
          sections_spend d options 0 0 rank log h
          (record { sections = []; left = log.left; stop = Some (limit_stop limit) })
          (record { each = tt; left = omega arith; few = λ e. cc })
      by_made (Ok f) e =
          sections_spend d options 0 0 rank log h (run_starts log.options.contract log.left (([], f) ∷ []))
          (starts_spend d 0 rank log.options.contract log.left (([], f) ∷ []) (keys f e, tt))

-- ---- instructions

module _ (d : ℕ) (options : Options) (rank : IsRank d) (made : List Made) (log : Log)
    (all : AllByRecursion (IsMade d) made)
    (values : log.values ≡ values_of made) (spends : Spends d options log) where
  abbrev at : ℕ → Made
  at k = made_at made log values k

  is_at : (k : ℕ) → k < length (measures_of made) → IsMade d (made_at made log values k)
  is_at k h = holds_at made log values (IsMade d) all k h

  instr_spends : (instr : Instr) → NamesEarlier (measures_of made) instr → Fits d (measures_of made) instr
      → Spends d options (with_instr d log (instr, (instr_measure d (measures_of made) instr).step))
  instr_spends (Free i) h f = record { same = spends.same; each = spends.each; left = spends.left; few = spends.few }
  instr_spends (Join a b) h f =
      let x : IsMade d (at a) = is_at a h.0 in
      let y : IsMade d (at b) = is_at b h.1.0 in
      let e : (at a).measure.step + (at b).measure.step ≡ (at a).figure.step + (at b).figure.step = ap₂ ◌+◌ x.step y.step in
      let few : (at a).figure.step + (at b).figure.step ≤ d = subst (λ k. k ≤ d) e f in
      let w = join_work d rank (at a) (at b) x y few in
      object_spends d options (cond ((at a).figure.step + (at b).figure.step == d) 0
      ((at a).figure.step + (at b).figure.step))
      ((at a).measure.step + (at b).measure.step) rank log spends (join_products d (at a).value (at b).value) w.sized w.none
  instr_spends (Meet a b) h f =
      let x : IsMade d (at a) = is_at a h.0 in
      let y : IsMade d (at b) = is_at b h.1.0 in
      let e : (at a).measure.step + (at b).measure.step ≡ (at a).figure.step + (at b).figure.step = ap₂ ◌+◌ x.step y.step in
      let enough : d ≤ (at a).figure.step + (at b).figure.step = subst (λ k. d ≤ k) e f in
      let w = meet_work d rank (at a) (at b) x y enough in
      object_spends d options ((at a).figure.step + (at b).figure.step - d)
      ((at a).measure.step + (at b).measure.step - d)
      rank log spends (meet_products d (at a).value (at b).value) w.sized w.none
  instr_spends (On a b s t) h f =
      let x : IsMade d (at a) = is_at a h.0 in
      let y : IsMade d (at b) = is_at b h.1.0 in
      let w = on_work d rank (at a) (at b) x y s t f.2 f.3 (sym x.step ∙ f.0) (sym y.step ∙ f.1) in
      object_spends d options 1 1 rank log spends
      (on_products (parameter_of 64 s) (parameter_of 64 t) (at a).value (at b).value) w.sized w.none
  instr_spends (Conic p1 p2 p3 p4 p5 p6) h f =
      let t = f.1 in
      let x1 = plane_point d (at p1) (is_at p1 h.0) f.0 t.0 in
      let x2 = plane_point d (at p2) (is_at p2 h.1.0) f.0 t.1.0 in
      let x3 = plane_point d (at p3) (is_at p3 h.1.1.0) f.0 t.1.1.0 in
      let x4 = plane_point d (at p4) (is_at p4 h.1.1.1.0) f.0 t.1.1.1.0 in
      let x5 = plane_point d (at p5) (is_at p5 h.1.1.1.1.0) f.0 t.1.1.1.1.0 in
      let x6 = plane_point d (at p6) (is_at p6 h.1.1.1.1.1.0) f.0 t.1.1.1.1.1.0 in
      made_spends d options rank
      (made_conic (at p1).value (at p2).value (at p3).value (at p4).value (at p5).value (at p6).value)
      (λ q e. subst (λ k. IsStart k 0 ([], q)) (sym f.0)
      (conic_start (at p1).value (at p2).value (at p3).value (at p4).value (at p5).value (at p6).value (at p1).figure
      (at p2).figure (at p3).figure (at p4).figure (at p5).figure (at p6).figure x1 x2 x3 x4 x5 x6 q e))
      log spends

-- ---- runs

module _ (d : ℕ) (options : Options) (rank : IsRank d) where
  run_on_spends : (made : List Made) (log : Log) (instrs : List Instr) → AllByRecursion (IsMade d) made
      → log.values ≡ values_of made → AllEndWell d log.objects → Spends d options log → log.stop ≡ None
      → EndsInOne d (measures_of made) instrs
      → Spends d options (run_on d log (with_steps d (measures_of made) instrs))
  run_on_spends made log [] all values sections g e h = absurd h
  run_on_spends made log (instr ∷ []) all values sections g e h =
      subst (Spends d options) (sym (goes_on d log e (instr, (instr_measure d (measures_of made) instr).step) []))
      (instr_spends d options rank made log all values g instr h.earlier (last_fits d (measures_of made) instr h))
  run_on_spends made log (instr ∷ next ∷ instrs) all values sections g e h =
      subst (Spends d options) (sym (goes_on d log e (instr, size.step) rest))
      (by_stop new.stop refl
      (λ x log all values sections g e h. run_on_spends (made ++ x ∷ []) log (next ∷ instrs) all values sections g e h))
    where
      size : Measure
      size = instr_measure d (measures_of made) instr

      rest : List (Instr × ℕ)
      rest = with_steps d (measures_of made ++ size ∷ []) (next ∷ instrs)

      new : Log
      new = with_instr d log (instr, size.step)

      added : Adds d log (λ v. IsMade d (made_of d rank made log all values sections instr v)) new
      added = inner_instr d rank made log all values sections instr h.0

      x : Made
      x = made_of d rank made log all values sections instr added.value

      one : Spends d options new
      one =
          instr_spends d options rank made log all values g instr h.0.earlier
          (inner_fits d (measures_of made) instr h.0)

      -- the run from one more on
      Goes : Type 0
      Goes =
          (x : Made) (log : Log) → AllByRecursion (IsMade d) (made ++ x ∷ []) → log.values ≡ values_of (made ++ x ∷ [])
          → AllEndWell d log.objects → Spends d options log → log.stop ≡ None
          → EndsInOne d (measures_of (made ++ x ∷ [])) (next ∷ instrs)
          → Spends d options (run_on d log (with_steps d (measures_of (made ++ x ∷ [])) (next ∷ instrs)))

      by_stop : (o : Option Stop) → new.stop ≡ o → Goes → Spends d options (run_on d new rest)
      by_stop (Some stop) s ih = subst (Spends d options) (sym (stopped d new stop s rest)) one
      by_stop None s ih =
          let same : measures_of (made ++ x ∷ []) ≡ measures_of made ++ size ∷ [] =
          map-append (λ (y : Made). y.measure) made (x ∷ []) in
          subst (λ (ms : List Measure). Spends d options (run_on d new (with_steps d ms (next ∷ instrs)))) same
          (ih x new (all_append (IsMade d) made (x ∷ []) all (added.good s, tt))
          (added.values ∙ ap (λ vs. vs ++ added.value ∷ []) values ∙ sym (map-append (λ (y : Made). y.value) made (x ∷ [])))
          added.well one s (subst (λ (ms : List Measure). EndsInOne d ms (next ∷ instrs)) (sym same) h.1))

pub run_takes_few_turns : RunTakesFewTurns
unfolding run_of
run_takes_few_turns options p =
    let s : Spends p.rank options (run_on p.rank (at_start options) (zip p.instrs p.steps)) =
    subst (λ (ns : List ℕ). Spends p.rank options (run_on p.rank (at_start options) (zip p.instrs ns)))
    (sym (p.formed.stepped
    ∙ ap (λ (ms : List Measure). map (λ m. m.step) ms) (made-new (instr_measure p.rank) [] p.instrs)))
    (run_on_spends p.rank options p.formed.rank [] (at_start options) p.instrs tt refl tt
    (record { same = refl; each = tt; left = omega arith; few = λ e. cc }) refl p.formed.each) in
    record {
      sections = s.each;
      enough = λ l e.
          let f : options.budget < all_turns p.rank
          (run_on p.rank (at_start options) (zip p.instrs p.steps)).objects = s.few e in
          omega arith;
    }
