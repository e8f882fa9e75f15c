-- The program of a good construction, and the steps of the objects of a program.
use Rattle.std.proofs.Common.{◌≡◌, ℕ, suc, ◌+◌, ◌-◌, ◌<◌, ◌≤◌, List, [], ◌∷◌, ◌++◌, map, zip, length, drop}
use Rattle.std.proofs.Common.{get_or, append_assoc, append-nil}
use Rattle.std.proofs.Common.{refl, sym, ap, subst, ◌∙◌, arith}
use Rattle.std.specs.Prelude.{sum_by}
use Rattle.std.specs.List.{AllByRecursion}
use Rattle.std.proofs.Math.ListN.{drop_of_length-le}
use Rattle.std.proofs.lemmas.List.{drop_more}
use Rattle.std.proofs.lemmas.List.Elements.{filter_map-append}
use Rattle.construction_reader.specs.Said.{Account, sentences_of}
use Rattle.construction_reader.specs.Grammar.{IsAccount, conclusions}
use Rattle.construction_reader.proofs.ConclusionLaws.{one_conclusion}
use Rattle.step_types.specs.declared.measure.Measure.{Measure}
use Rattle.step_types.specs.Checks.{IsGood}
use Rattle.cayley_terms.specs.declared.instr.Instr.{Instr}
use Rattle.cayley_terms.specs.declared.instr.Instr.TheVariants.{Free, Join, Meet, On, Conic}
use Rattle.cayley_terms.specs.declared.program.Program.{Program}
use Rattle.cayley_terms.specs.Instrs.{instr_measure, measures}
use Rattle.cayley_terms.specs.Kept.{IsStraight}
use Rattle.cayley_terms.specs.Programs.{EndsInOne, IsLast}
use Rattle.cayley_terms.specs.Straight.{lowered}
use Rattle.cayley_terms.proofs.ProgramLaws.{program_rule}
use Rattle.cayley_run.proofs.RunMeaning.{made-new, with_steps}
use Rattle.cayley_run.proofs.RunSteps.{length-steps}
use Rattle.proof_text.specs.Outcome.{AreSteps}
use Rattle.log_checker.specs.Objects.{object_step, object_steps, program_steps}
use Rattle.log_checker.proofs.Instructions.{last_makes, steps_next}
use Rattle.prover.specs.Runs.{instructions}

-- ---- steps of objects

-- what holds of the steps of all instructions holds of those of the objects
all_steps : (d : ℕ) (instrs : List (Instr × ℕ)) → AllByRecursion (λ x. x.1 ≤ d) instrs
    → AllByRecursion (λ step. step ≤ d) (object_steps instrs)
all_steps d [] all = tt
all_steps d ((Free i, step) ∷ instrs) all = all_steps d instrs all.1
all_steps d ((Join a b, step) ∷ instrs) all = (all.0, all_steps d instrs all.1)
all_steps d ((Meet a b, step) ∷ instrs) all = (all.0, all_steps d instrs all.1)
all_steps d ((On a b s t, step) ∷ instrs) all = (all.0, all_steps d instrs all.1)
all_steps d ((Conic p1 p2 p3 p4 p5 p6, step) ∷ instrs) all = (all.0, all_steps d instrs all.1)

few_steps : (instrs : List (Instr × ℕ)) → length (object_steps instrs) ≤ length instrs
few_steps [] = omega arith
few_steps ((Free i, step) ∷ instrs) = let few = few_steps instrs in omega arith
few_steps ((Join a b, step) ∷ instrs) = let few = few_steps instrs in omega arith
few_steps ((Meet a b, step) ∷ instrs) = let few = few_steps instrs in omega arith
few_steps ((On a b s t, step) ∷ instrs) = let few = few_steps instrs in omega arith
few_steps ((Conic p1 p2 p3 p4 p5 p6, step) ∷ instrs) = let few = few_steps instrs in omega arith

no_fewer : (instr : Instr) (step : ℕ) (instrs : List (Instr × ℕ))
    → length (object_steps instrs) ≤ length (object_steps ((instr, step) ∷ instrs))
no_fewer (Free i) step instrs = omega arith
no_fewer (Join a b) step instrs = omega arith
no_fewer (Meet a b) step instrs = omega arith
no_fewer (On a b s t) step instrs = omega arith
no_fewer (Conic p1 p2 p3 p4 p5 p6) step instrs = omega arith

few_pairs : {A B : Type 0} (xs : List A) (ys : List B) → length (zip xs ys) ≤ length xs
few_pairs [] ys = omega arith
few_pairs (x ∷ xs) [] = omega arith
few_pairs (x ∷ xs) (y ∷ ys) = let few = few_pairs xs ys in omega arith

-- ---- the instructions of a program

last_step : (d : ℕ) (before : List Measure) (instr : Instr) → IsLast d before instr
    → (instr_measure d before instr).step ≤ d
last_step d before (Free i) last = absurd last.steps
last_step d before (Join a b) last = let steps = last.steps in omega arith
last_step d before (Meet a b) last = let steps = last.steps in omega arith
last_step d before (On a b s t) last = absurd last.steps
last_step d before (Conic p1 p2 p3 p4 p5 p6) last = omega arith

steps_within : (d : ℕ) (before : List Measure) (instrs : List Instr) → EndsInOne d before instrs
    → AllByRecursion (λ x. x.1 ≤ d) (with_steps d before instrs)
steps_within d before [] ends = absurd ends
steps_within d before (instr ∷ []) ends = (last_step d before instr ends, tt)
steps_within d before (instr ∷ next ∷ instrs) ends =
    let below = ends.0.sized.below in
    (omega arith, steps_within d (before ++ instr_measure d before instr ∷ []) (next ∷ instrs) ends.1)

some_step : (d : ℕ) (before : List Measure) (instrs : List Instr) → EndsInOne d before instrs
    → 0 < length (object_steps (with_steps d before instrs))
some_step d before [] ends = absurd ends
some_step d before (instr ∷ []) ends =
    let one = steps_next instr (instr_measure d before instr).step [] (last_makes d before instr ends) in
    omega (arith, one)
some_step d before (instr ∷ next ∷ instrs) ends =
    let behind = before ++ instr_measure d before instr ∷ [] in
    let some = some_step d behind (next ∷ instrs) ends.1 in
    let more = no_fewer instr (instr_measure d before instr).step (with_steps d behind (next ∷ instrs)) in
    omega (arith, some, more)

-- the instructions of a program with their steps
stepped : (p : Program) → zip p.instrs p.steps ≡ with_steps p.rank [] p.instrs
stepped p =
    ap (λ (ss : List ℕ). zip p.instrs ss) (p.formed.stepped
    ∙ ap (λ (ms : List Measure). map (λ m. m.step) ms) (made-new (instr_measure p.rank) [] p.instrs))

pub are_steps : (p : Program) → AreSteps p.rank (program_steps p)
are_steps p =
    let same = stepped p in
    let few = few_steps (zip p.instrs p.steps) in
    let pairs = few_pairs p.instrs p.steps in
    let all = p.formed.few in
    record {
      some = subst (λ (xs : List (Instr × ℕ)). 0 < length (object_steps xs)) (sym same)
          (some_step p.rank [] p.instrs p.formed.each);
      few = omega (arith, few, pairs, all);
      within = all_steps p.rank (zip p.instrs p.steps)
          (subst (AllByRecursion (λ x. x.1 ≤ p.rank)) (sym same) (steps_within p.rank [] p.instrs p.formed.each));
    }

-- ---- the steps, one after another

-- the code's lists of the instructions and their steps, and the number of the next one
module _ (p : Program) (k : ℕ) (instrs : List Instr) (steps : List ℕ) (same_instrs : instrs ≡ p.instrs)
    (same_steps : steps ≡ p.steps) (below : k < length instrs) where
  pub step_there : k < length steps
  step_there =
      let a : length steps ≡ length p.steps = ap (λ (ns : List ℕ). length ns) same_steps in
      let b : length instrs ≡ length p.instrs = ap (λ (xs : List Instr). length xs) same_instrs in
      let c = length-steps p in omega arith

  abbrev next : Instr × ℕ
  next = (get_or instrs k (Free 0), get_or steps k 0)

  next_first : zip (drop k p.instrs) (drop k p.steps) ≡ next ∷ zip (drop (k + 1) p.instrs) (drop (k + 1) p.steps)
  next_first =
      ap (λ (xs : List Instr). zip xs (drop k p.steps))
      (subst (λ (xs : List Instr). drop k xs ≡ next.0 ∷ drop (k + 1) xs) same_instrs (drop_more instrs k (Free 0) below))
      ∙ ap (λ (ns : List ℕ). zip (next.0 ∷ drop (k + 1) p.instrs) ns)
      (subst (λ (ns : List ℕ). drop k ns ≡ next.1 ∷ drop (k + 1) ns) same_steps (drop_more steps k 0 step_there))

  pub steps_go_on : (old new : List ℕ) → old ++ object_steps (zip (drop k p.instrs) (drop k p.steps)) ≡ program_steps p
      → new ≡ old ++ object_steps (next ∷ [])
      → new ++ object_steps (zip (drop (k + 1) p.instrs) (drop (k + 1) p.steps)) ≡ program_steps p
  steps_go_on old new so_far is =
      let rest = zip (drop (k + 1) p.instrs) (drop (k + 1) p.steps) in
      ap (λ (ns : List ℕ). ns ++ object_steps rest) is ∙ append_assoc old (object_steps (next ∷ [])) (object_steps rest)
      ∙ ap (λ (ns : List ℕ). old ++ ns)
      (sym (filter_map-append object_step (next ∷ []) rest) ∙ ap object_steps (sym next_first))
      ∙ so_far

pub steps_end : (p : Program) (k : ℕ) (all : List ℕ)
    → all ++ object_steps (zip (drop k p.instrs) (drop k p.steps)) ≡ program_steps p → length p.instrs ≤ k
    → all ≡ program_steps p
steps_end p k all so_far e =
    sym (append-nil all)
    ∙ ap (λ (xs : List Instr). all ++ object_steps (zip xs (drop k p.steps))) (sym (drop_of_length-le p.instrs e)) ∙ so_far

-- ---- constructions

-- the instructions of a straight list are those of its construction
pub same_instructions : (c : Account) (p : Program) → IsStraight c p → p.rank ≡ c.rank
    → zip p.instrs p.steps ≡ instructions c
same_instructions c p straight rank =
    let alike : p.steps ≡ map (λ m. m.step) (measures c.rank (lowered c).instrs) =
    p.formed.stepped ∙ ap (λ (instrs : List Instr). map (λ m. m.step) (measures p.rank instrs)) straight.instrs
    ∙ ap (λ d. map (λ m. m.step) (measures d (lowered c).instrs)) rank in
    ap (λ (instrs : List Instr). zip instrs p.steps) straight.instrs
    ∙ ap (λ (ss : List ℕ). zip (lowered c).instrs ss) alike

module _ (c : Account) (good : IsGood c) (given : IsAccount c.rank (sentences_of c.rows)) where
  -- the program of a good construction
  abbrev pub program_of : Program
  program_of =
      let steps = map (λ m. m.step) (measures c.rank (lowered c).instrs) in
      record {
        rank = c.rank;
        instrs = (lowered c).instrs;
        steps = steps;
        lines = (lowered c).lines;
        defined = (lowered c).defined;
        formed = program_rule c (lowered c) steps good given (one_conclusion (sentences_of c.rows) given.ends) refl refl;
      }

  pub its_instructions : zip program_of.instrs program_of.steps ≡ instructions c
  its_instructions = refl
