-- Runs that nothing stopped end alike: starts are made of ends, and ends are the only normal polynomials of their
-- values.
use Rattle.std.proofs.Common.{◌≡◌, ℕ, suc, ◌-◌, ◌+◌, Bool, cond, List, [], ◌∷◌, ◌++◌, map, zip, length, refl, sym}
use Rattle.std.proofs.Common.{ap, ap₂}
use Rattle.std.proofs.Common.{subst, ◌∙◌}
use Rattle.std.specs.Prelude.{Option, Some, None, Result, Ok, Err}
use Rattle.std.specs.List.{AllByRecursion, cons_option}
use Rattle.coordinate_model.proofs.Independence.{same_normal}
use Rattle.coordinate_model.proofs.Splits.{all_front, all_back}
use Rattle.coordinate_model.specs.BracketPolynomial.{BracketPolynomial}
use Rattle.coordinate_model.specs.Sequences.{IsRank}
use Rattle.coordinate_model.specs.Starts.{Entry, Product, has_term}
use Rattle.coordinate_model.specs.Value.{Value}
use Rattle.bracket_poly.specs.Sections.{Rewritten, Worked, value_from}
use Rattle.bracket_poly.specs.Tracked.{Tracked, Limit}
use Rattle.cayley_terms.specs.declared.instr.Instr.{Instr}
use Rattle.cayley_terms.specs.declared.instr.Instr.TheVariants.{Free, Join, Meet, On, Conic}
use Rattle.cayley_terms.specs.declared.program.Program.{Program}
use Rattle.cayley_terms.specs.Starts.{products_of, value_at, free_value}
use Rattle.cayley_terms.specs.Starts as operation
use Rattle.conic_points.specs.Makings.{made_of}
use Rattle.shuffle_meet.specs.SectionStarts.{section_starts}
use Rattle.shuffle_meet.specs.Stops.{first_stop, Start}
use Rattle.straightening.specs.Runs.{Stop, limit_stop}
use Rattle.cayley_run.specs.Alike.{AreSectionsAlike, AllSectionsAlike, AllObjectsAlike, RunsEndAlike}
use Rattle.cayley_run.specs.RunLaws.{IsEndOf, EndsWell, AllEndWell}
use Rattle.cayley_run.specs.Runs.{Log, at_start, with_sections, with_stop, with_starts, with_object, with_start}
use Rattle.cayley_run.specs.Runs.{with_instr}
use Rattle.cayley_run.specs.Runs.{run_on, run_of}
use Rattle.cayley_run.specs.Sections.{Work, work, rewritten, end_of, Sections, in_front, run_starts}
use Rattle.cayley_run.specs.declared.answer.Options.{Options}
use Rattle.cayley_run.proofs.LogEnds.{Extends, run_extends}
use Rattle.cayley_run.proofs.RunMeaning.{run_means, stopped, goes_on}

-- ---- sections

module _ (d : ℕ) (rank : IsRank d) where
  well_end : (start : Start) (w : Work) → w.turns.stop ≡ None → EndsWell d (rewritten start w)
      → IsEndOf d start.1.sum w.turns.last.sum
  well_end start w e h =
      subst (λ (o : Option Stop).
      elim (elim o as (λ _. Option BracketPolynomial) [ Some stop ↦ None | None ↦ Some w.turns.last.sum ])
      as (λ _. Type 0) [ None ↦ Unit {0} | Some end ↦ IsEndOf d start.1.sum end ]) e h

  end_is : (w : Work) → w.turns.stop ≡ None → end_of w.turns ≡ Some w.turns.last.sum
  end_is w e =
      ap (λ (o : Option Stop).
      elim o as (λ _. Option BracketPolynomial) [ Some stop ↦ None | None ↦ Some w.turns.last.sum ]) e

  same_end : (start : Start) (v w : Work) → v.turns.stop ≡ None → w.turns.stop ≡ None → EndsWell d (rewritten start v)
      → EndsWell d (rewritten start w) → end_of v.turns ≡ end_of w.turns
  same_end start v w e f h k =
      let x : IsEndOf d start.1.sum v.turns.last.sum = well_end start v e h in
      let y : IsEndOf d start.1.sum w.turns.last.sum = well_end start w f k in
      end_is v e
      ∙ ap Some (same_normal d 64 rank v.turns.last.sum w.turns.last.sum x.normal y.normal
      (x.same_value ∙ sym y.same_value))
      ∙ sym (end_is w f)

  -- sections of the same starts end alike
  starts_alike : (a b : Bool) (m n : ℕ) (starts : List Start) → (run_starts a m starts).stop ≡ None
      → (run_starts b n starts).stop ≡ None → AllByRecursion (EndsWell d) (run_starts a m starts).sections
      → AllByRecursion (EndsWell d) (run_starts b n starts).sections
      → AllSectionsAlike (run_starts a m starts).sections (run_starts b n starts).sections
  starts_alike a b m n [] e f h k = tt
  starts_alike a b m n (start ∷ starts) e f h k =
      step v.turns.stop w.turns.stop refl refl e f h k
      (starts_alike a b (m - length v.turns.uses) (n - length w.turns.uses) starts)
    where
      v : Work
      v = work a m start.1

      w : Work
      w = work b n start.1

      one : Option Stop → Sections
      one o = elim o [
        | Some stop ↦ record { sections = rewritten start v ∷ []; left = m - length v.turns.uses; stop = Some stop }
        | None ↦ in_front (rewritten start v) (run_starts a (m - length v.turns.uses) starts)
      ]

      two : Option Stop → Sections
      two o = elim o [
        | Some stop ↦ record { sections = rewritten start w ∷ []; left = n - length w.turns.uses; stop = Some stop }
        | None ↦ in_front (rewritten start w) (run_starts b (n - length w.turns.uses) starts)
      ]

      Others : Type 0
      Others =
          (run_starts a (m - length v.turns.uses) starts).stop ≡ None
          → (run_starts b (n - length w.turns.uses) starts).stop ≡ None
          → AllByRecursion (EndsWell d) (run_starts a (m - length v.turns.uses) starts).sections
          → AllByRecursion (EndsWell d) (run_starts b (n - length w.turns.uses) starts).sections
          → AllSectionsAlike (run_starts a (m - length v.turns.uses) starts).sections
          (run_starts b (n - length w.turns.uses) starts).sections

      step : (o p : Option Stop) → v.turns.stop ≡ o → w.turns.stop ≡ p → (one o).stop ≡ None → (two p).stop ≡ None
          → AllByRecursion (EndsWell d) (one o).sections → AllByRecursion (EndsWell d) (two p).sections → Others
          → AllSectionsAlike (one o).sections (two p).sections
      step (Some stop) p x y e f h k ih = absurd cc
      step None (Some stop) x y e f h k ih = absurd cc
      step None None x y e f h k ih = (
        record { scalar = refl; start = refl; end = same_end start v w x y h.0 k.0 },
        ih e f h.1 k.1,
      )

-- and have the same value
values_alike : (ss ts : List Rewritten) → AllSectionsAlike ss ts → value_from ss ≡ value_from ts
values_alike [] [] h = refl
values_alike [] (t ∷ ts) h = absurd h
values_alike (s ∷ ss) [] h = absurd h
values_alike (s ∷ ss) (t ∷ ts) h =
    ap₂ (λ (x : List ℕ) (o : Option BracketPolynomial).
    cons_option (elim o as (λ _. Option Entry) [
      | None ↦ None
      | Some f ↦ cond (has_term (x, f)) (Some (x, f)) None
    ]) (value_from ss)) h.0.scalar h.0.end
    ∙ ap (λ (v : Value).
    cons_option (elim t.end as (λ _. Option Entry) [
      | None ↦ None
      | Some f ↦ cond (has_term (t.scalar, f)) (Some (t.scalar, f)) None
    ]) v) (values_alike ss ts h.1)

-- ---- logs

-- two logs with the same values, and objects that are alike
record LogsAlike (a b : Log) : Type 0 where
  values : a.values ≡ b.values
  objects : AllObjectsAlike a.objects b.objects

same_count : (os ps : List Worked) → AllObjectsAlike os ps → length os ≡ length ps
same_count [] [] h = refl
same_count [] (p ∷ ps) h = absurd h
same_count (o ∷ os) [] h = absurd h
same_count (o ∷ os) (p ∷ ps) h = ap suc (same_count os ps h.1)

one_more : (os ps : List Worked) (n step : ℕ) (s t : List Rewritten) → AllObjectsAlike os ps → length os ≡ n
    → AllSectionsAlike s t
    → AllObjectsAlike (os ++ record { number = length os + 1; step = step; sections = s } ∷ [])
    (ps ++ record { number = n + 1; step = step; sections = t } ∷ [])
one_more os ps n step s t h e k = among os ps h
  where
    among : (xs ys : List Worked) → AllObjectsAlike xs ys
        → AllObjectsAlike (xs ++ record { number = length os + 1; step = step; sections = s } ∷ [])
        (ys ++ record { number = n + 1; step = step; sections = t } ∷ [])
    among [] [] h = (record { number = ap (λ i. i + 1) e; step = refl; sections = k }, tt)
    among [] (y ∷ ys) h = absurd h
    among (x ∷ xs) [] h = absurd h
    among (x ∷ xs) (y ∷ ys) h = (h.0, among xs ys h.1)

sections_alike : (step : ℕ) (a b : Log) (s t : Sections) → LogsAlike a b → AllSectionsAlike s.sections t.sections
    → LogsAlike (with_sections step a s) (with_sections step b t)
sections_alike step a b s t h k = record {
  values =
      ap₂ (λ (vs : List Value) (v : Value). vs ++ v ∷ []) h.values (values_alike s.sections t.sections k);
  objects =
      one_more a.objects b.objects (length b.objects) step s.sections t.sections h.objects
      (same_count a.objects b.objects h.objects) k;
}

module _ (d : ℕ) (rank : IsRank d) where
  -- the sections of the last object end well
  last_well : (log : Log) (o : Worked) → AllEndWell d (log.objects ++ o ∷ []) → AllByRecursion (EndsWell d) o.sections
  last_well log o h = (all_back (λ (o : Worked). AllByRecursion (EndsWell d) o.sections) log.objects (o ∷ []) h).0

  -- two logs go on alike, where nothing stops them
  abbrev GoAlike : Log → Log → Type 0
  GoAlike a b = a.stop ≡ None → b.stop ≡ None → AllEndWell d a.objects → AllEndWell d b.objects → LogsAlike a b

  module _ (a b : Log) (h : LogsAlike a b) where
    with_starts_alike : (step : ℕ) (starts : List Start) → GoAlike (with_starts step starts a)
        (with_starts step starts b)
    with_starts_alike step starts e f k l =
        sections_alike step a b (run_starts a.options.contract a.left starts)
        (run_starts b.options.contract b.left starts) h
        (starts_alike d rank a.options.contract b.options.contract a.left b.left starts e f (last_well a _ k)
        (last_well b _ l))

    object_alike : (step : ℕ) (ps : List Product) → GoAlike (with_object d step ps a) (with_object d step ps b)
    object_alike step ps = by_limit (first_stop [] ps)
      where
        log_by : Log → Option Limit → Log
        log_by log o = elim o [
          | Some limit ↦ with_stop step (limit_stop limit) log
          | None ↦ with_starts step (section_starts d step ps) log
        ]

        by_limit : (o : Option Limit) → GoAlike (log_by a o) (log_by b o)
        by_limit (Some limit) e f k l = absurd cc
        by_limit None e f k l = with_starts_alike step (section_starts d step ps) e f k l

    start_alike : (step : ℕ) (made : Result Tracked Limit) → GoAlike (with_start step made a) (with_start step made b)
    start_alike step (Err limit) e f k l = absurd cc
    start_alike step (Ok start) e f k l = with_starts_alike step (([], start) ∷ []) e f k l

    instr_alike : (instr : Instr) (step : ℕ) → GoAlike (with_instr d a (instr, step)) (with_instr d b (instr, step))
    instr_alike (Free i) step = λ e f k l.
        record { values = ap (λ (vs : List Value). vs ++ free_value 64 i ∷ []) h.values; objects = h.objects }
    instr_alike (Join x y) step =
        subst (λ (vs : List Value). GoAlike (with_object d step (products_of operation.Join d a.values x y) a)
        (with_object d step (products_of operation.Join d vs x y) b)) h.values
        (object_alike step (products_of operation.Join d a.values x y))
    instr_alike (Meet x y) step =
        subst (λ (vs : List Value). GoAlike (with_object d step (products_of operation.Meet d a.values x y) a)
        (with_object d step (products_of operation.Meet d vs x y) b)) h.values
        (object_alike step (products_of operation.Meet d a.values x y))
    instr_alike (On x y s t) step =
        subst (λ (vs : List Value). GoAlike (with_object d step (products_of (operation.On s t) d a.values x y) a)
        (with_object d step (products_of (operation.On s t) d vs x y) b)) h.values
        (object_alike step (products_of (operation.On s t) d a.values x y))
    instr_alike (Conic p1 p2 p3 p4 p5 p6) step =
        let six : List ℕ = p1 ∷ p2 ∷ p3 ∷ p4 ∷ p5 ∷ p6 ∷ [] in
        subst (λ (vs : List Value). GoAlike (with_start step (made_of (map (value_at a.values) six)) a)
        (with_start step (made_of (map (value_at vs) six)) b)) h.values
        (start_alike step (made_of (map (value_at a.values) six)))

  -- ---- runs

  -- where the whole run was not stopped, it was not stopped before
  not_before : (log : Log) (instrs : List (Instr × ℕ)) → (run_on d log instrs).stop ≡ None → log.stop ≡ None
  not_before log instrs e = by_stop log.stop refl
    where
      by_stop : (o : Option Stop) → log.stop ≡ o → log.stop ≡ None
      by_stop None k = k
      by_stop (Some stop) k =
          let same : log.stop ≡ None = ap (λ (l : Log). l.stop) (sym (stopped d log stop k instrs)) ∙ e in same

  well_before : (log : Log) (instrs : List (Instr × ℕ)) → AllEndWell d (run_on d log instrs).objects
      → AllEndWell d log.objects
  well_before log instrs h =
      let e : Extends log (run_on d log instrs) = run_extends d log instrs in
      all_front (λ (o : Worked). AllByRecursion (EndsWell d) o.sections) log.objects e.more
      (subst (AllEndWell d) e.objects h)

  run_alike : (a b : Log) (instrs : List (Instr × ℕ)) → LogsAlike a b → a.stop ≡ None → b.stop ≡ None
      → GoAlike (run_on d a instrs) (run_on d b instrs)
  run_alike a b [] h x y = λ e f k l. h
  run_alike a b (instr ∷ instrs) h x y =
      subst (λ (r : Log). GoAlike r (run_on d b (instr ∷ instrs))) (sym (goes_on d a x instr instrs))
      (subst (λ (r : Log). GoAlike (run_on d new_a instrs) r) (sym (goes_on d b y instr instrs))
      (both (λ g p q. run_alike (with_instr d a instr) (with_instr d b instr) instrs g p q)))
    where
      new_a : Log
      new_a = with_instr d a instr

      new_b : Log
      new_b = with_instr d b instr

      Later : Type 0
      Later =
          LogsAlike new_a new_b → new_a.stop ≡ None → new_b.stop ≡ None
          → GoAlike (run_on d new_a instrs) (run_on d new_b instrs)

      both : Later → GoAlike (run_on d new_a instrs) (run_on d new_b instrs)
      both later e f k l =
          let p : new_a.stop ≡ None = not_before new_a instrs e in
          let q : new_b.stop ≡ None = not_before new_b instrs f in
          later (instr_alike a b h instr.0 instr.1 p q (well_before new_a instrs k) (well_before new_b instrs l)) p q e f
          k l

pub runs_end_alike : RunsEndAlike
unfolding run_of
runs_end_alike a b p e f =
    (run_alike p.rank p.formed.rank (at_start a) (at_start b) (zip p.instrs p.steps)
    (record { values = refl; objects = tt }) refl refl e f (well a) (well b)).objects
  where
    well : (o : Options) → AllEndWell p.rank (run_on p.rank (at_start o) (zip p.instrs p.steps)).objects
    well o = (run_means o p).sections
