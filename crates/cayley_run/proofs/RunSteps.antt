-- A run that is done step by step in the code is the run of the program.
use Rattle.std.proofs.Common.{◌≡◌, ℕ, ◌+◌, ◌^◌, ◌<◌, ◌≤◌, List, [], ◌∷◌, ◌++◌, map, zip, drop, length, get_or, refl}
use Rattle.std.proofs.Common.{sym, ap, subst, ◌∙◌}
use Rattle.std.proofs.Common.{arith}
use Rattle.std.specs.Prelude.{Some, None}
use Rattle.std.proofs.Math.ListN.{drop_of_length-le}
use Rattle.std.proofs.lemmas.List.{drop_more, length-map}
use Rattle.step_types.specs.declared.measure.Measure.{Measure}
use Rattle.straightening.specs.Runs.{Stop}
use Rattle.cayley_terms.specs.declared.instr.Instr.{Instr}
use Rattle.cayley_terms.specs.declared.instr.Instr.TheVariants.{Free}
use Rattle.cayley_terms.specs.declared.program.Program.{Program}
use Rattle.cayley_terms.specs.Instrs.{instr_measure}
use Rattle.cayley_run.specs.declared.answer.Options.{Options}
use Rattle.cayley_run.specs.Runs.{Log, at_start, with_instr, run_on, run_of}
use Rattle.cayley_run.specs.Ready.{IsReady}
use Rattle.cayley_run.proofs.InstrLaws.{measures_of}
use Rattle.cayley_run.proofs.LogEnds.{LastIs, conclusion_last}
use Rattle.cayley_run.proofs.RunMeaning.{made-new, length-new, stopped, goes_on}
use Rattle.cayley_run.proofs.RunReady.{IsOnWay, is_ready, has_room, goes_further, begins}

-- what holds on the way, as long as there is an instruction to do, and behind the last one
abbrev pub IsWay : ℕ → Log → List ℕ → List Instr → List ℕ → Type 0
IsWay d log steps [] later = LastIs log
IsWay d log steps (instr ∷ instrs) later = IsOnWay d log steps (instr ∷ instrs) later

-- the run goes on so from this log, which has these steps, with these instructions and their steps
pub record IsRunFrom (options : Options) (p : Program) (log : Log) (steps : List ℕ) (instrs : List Instr)
    (later : List ℕ) : Type 0 where
  pub same : run_of options p ≡ run_on p.rank log (zip instrs later)
  pub way : IsWay p.rank log steps instrs later
  pub running : log.stop ≡ None

way_of : (d : ℕ) (log : Log) (steps : List ℕ) (instrs : List Instr) (later : List ℕ) → IsOnWay d log steps instrs later
    → IsWay d log steps instrs later
way_of d log steps [] later w = absurd w.ends
way_of d log steps (instr ∷ instrs) later w = w

from_start : (options : Options) (p : Program) → run_of options p ≡ run_on p.rank (at_start options)
    (zip p.instrs p.steps)
unfolding run_of
from_start options p = refl

pub run_begins : (options : Options) (p : Program) (log : Log) (steps : List ℕ)
    → log ≡ at_start options → steps ≡ [] → IsRunFrom options p log steps p.instrs p.steps
run_begins options p log steps e f =
    subst (λ l. IsRunFrom options p l steps p.instrs p.steps) (sym e)
    (subst (λ ns. IsRunFrom options p (at_start options) ns p.instrs p.steps) (sym f)
    (record {
      same = from_start options p;
      way = way_of p.rank (at_start options) [] p.instrs p.steps (begins options p);
      running = refl;
    }))

-- each instruction has its step
pub length-steps : (p : Program) → length p.steps ≡ length p.instrs
length-steps p =
    ap (λ (ns : List ℕ). length ns)
    (p.formed.stepped ∙ ap (λ (ms : List Measure). map (λ m. m.step) ms) (made-new (instr_measure p.rank) [] p.instrs))
    ∙ length-map _ (λ m. m.step) ∙ length-new (instr_measure p.rank) [] p.instrs

-- the code's lists of the instructions and their steps, and the number of the next one
module _ (options : Options) (p : Program) (d : ℕ) (rank : p.rank ≡ d) (log : Log) (steps : List ℕ) (k : ℕ)
    (instrs : List Instr)
    (later : List ℕ) (same_instrs : instrs ≡ p.instrs) (same_steps : later ≡ p.steps) (below : k < length instrs)
    (h : IsRunFrom options p log steps (drop k p.instrs) (drop k p.steps)) where
  abbrev instr : Instr
  instr = get_or instrs k (Free 0)

  abbrev step : ℕ
  step = get_or later k 0

  -- it has a step
  pub step_below : k < length later
  step_below =
      let a : length later ≡ length p.steps = ap (λ (ns : List ℕ). length ns) same_steps in
      let b : length instrs ≡ length p.instrs = ap (λ (xs : List Instr). length xs) same_instrs in
      let c = length-steps p in
      omega arith

  instr_there : drop k p.instrs ≡ instr ∷ drop (k + 1) p.instrs
  instr_there =
      subst (λ (xs : List Instr). drop k xs ≡ instr ∷ drop (k + 1) xs) same_instrs (drop_more instrs k (Free 0) below)

  later_there : drop k p.steps ≡ step ∷ drop (k + 1) p.steps
  later_there =
      subst (λ (ns : List ℕ). drop k ns ≡ step ∷ drop (k + 1) ns) same_steps (drop_more later k 0 step_below)

  -- it comes first
  pub next_there : zip (drop k p.instrs) (drop k p.steps)
      ≡ (instr, step) ∷ zip (drop (k + 1) p.instrs) (drop (k + 1) p.steps)
  next_there =
      ap (λ (xs : List Instr). zip xs (drop k p.steps)) instr_there
      ∙ ap (λ (ns : List ℕ). zip (instr ∷ drop (k + 1) p.instrs) ns) later_there

  there : IsRunFrom options p log steps (instr ∷ drop (k + 1) p.instrs) (step ∷ drop (k + 1) p.steps)
  there =
      subst (λ xs. IsRunFrom options p log steps xs (step ∷ drop (k + 1) p.steps)) instr_there
      (subst (λ ns. IsRunFrom options p log steps (drop k p.instrs) ns) later_there h)

  -- it can be run
  pub next_ready : IsReady d steps log.values instr step
  next_ready =
      subst (λ n. IsReady n steps log.values instr step) rank
      (is_ready p.rank p.formed.rank log steps instr (drop (k + 1) p.instrs) step (drop (k + 1) p.steps) there.way)

  -- and there is room for its object
  pub next_room : length log.objects + 1 < 2 ^ 32
  next_room =
      has_room p.rank p.formed.rank log steps instr (drop (k + 1) p.instrs) step (drop (k + 1) p.steps) there.way

  module _ (new : Log) (new_steps : List ℕ) (made : new ≡ with_instr d log (instr, step))
      (stepped : new_steps ≡ steps ++ step ∷ []) where
    made_here : new ≡ with_instr p.rank log (instr, step)
    made_here = made ∙ ap (λ n. with_instr n log (instr, step)) (sym rank)

    pub run_new : run_of options p ≡ run_on p.rank new (zip (drop (k + 1) p.instrs) (drop (k + 1) p.steps))
    run_new =
        there.same
        ∙ goes_on p.rank log there.running (instr, step) (zip (drop (k + 1) p.instrs) (drop (k + 1) p.steps))
        ∙ ap (λ l. run_on p.rank l (zip (drop (k + 1) p.instrs) (drop (k + 1) p.steps))) (sym made_here)

    way_new : (others : List Instr) → IsOnWay p.rank log steps (instr ∷ others) (step ∷ drop (k + 1) p.steps)
        → new.stop ≡ None → IsWay p.rank new new_steps others (drop (k + 1) p.steps)
    way_new [] w e =
        subst (λ l. LastIs l) (sym made_here) (conclusion_last p.rank (measures_of w.made) log instr step w.ends)
    way_new (next ∷ others) w e =
        subst (λ l. IsOnWay p.rank l new_steps (next ∷ others) (drop (k + 1) p.steps)) (sym made_here)
        (subst (λ ns. IsOnWay p.rank (with_instr p.rank log (instr, step)) ns (next ∷ others) (drop (k + 1) p.steps))
        (sym stepped)
        (goes_further p.rank p.formed.rank log steps instr next others step (drop (k + 1) p.steps) w
        (ap (λ (l : Log). l.stop) (sym made_here) ∙ e)))

    -- the run goes on behind it
    pub run_goes_on : new.stop ≡ None → IsRunFrom options p new new_steps (drop (k + 1) p.instrs) (drop (k + 1) p.steps)
    run_goes_on e = record {
      same = run_new;
      way = way_new (drop (k + 1) p.instrs) there.way e;
      running = e;
    }

    -- or it has stopped there
    pub run_stops : (stop : Stop) → new.stop ≡ Some stop → run_of options p ≡ new
    run_stops stop e =
        run_new ∙ stopped p.rank new stop e (zip (drop (k + 1) p.instrs) (drop (k + 1) p.steps))

-- where no instruction is left, this is the whole run
pub run_ends : (options : Options) (p : Program) (log : Log) (steps : List ℕ) (k : ℕ)
    → IsRunFrom options p log steps (drop k p.instrs) (drop k p.steps) → length p.instrs ≤ k → run_of options p ≡ log
run_ends options p log steps k h e =
    h.same ∙ ap (λ (xs : List Instr). run_on p.rank log (zip xs (drop k p.steps))) (drop_of_length-le p.instrs e)

-- and its last value is that of its last object
pub run_last : (options : Options) (p : Program) (log : Log) (steps : List ℕ) (k : ℕ)
    → IsRunFrom options p log steps (drop k p.instrs) (drop k p.steps) → length p.instrs ≤ k → LastIs log
run_last options p log steps k h e =
    subst (λ (xs : List Instr). IsWay p.rank log steps xs (drop k p.steps)) (drop_of_length-le p.instrs e) h.way
