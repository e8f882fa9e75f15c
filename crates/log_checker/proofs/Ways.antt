-- Each instruction of a program is made of points, lines and planes, and has the step that its place requires.
use Rattle.std.proofs.Common.{◌≡◌, ℕ, zero, suc, ◌+◌, ◌-◌, ◌<◌, ◌≤◌, List, [], ◌∷◌, ◌++◌, map, length}
use Rattle.std.proofs.Common.{get_or, refl, sym, ap, ap₂, subst, ◌∙◌, arith}
use Rattle.std.proofs.lemmas.List.{length-map}
use Rattle.std.specs.List.{AllByRecursion}
use Rattle.coordinate_model.proofs.Hom.{map-append}
use Rattle.coordinate_model.proofs.Splits.{all_append}
use Rattle.step_types.specs.declared.measure.Measure.{Measure}
use Rattle.step_types.specs.Good.{IsSized}
use Rattle.cayley_terms.specs.declared.instr.Instr.{Instr}
use Rattle.cayley_terms.specs.declared.instr.Instr.TheVariants.{Free, Join, Meet, On, Conic}
use Rattle.cayley_terms.specs.declared.program.Program.{Program}
use Rattle.cayley_terms.specs.Instrs.{no_measure, instr_measure}
use Rattle.cayley_terms.specs.Programs.{NamesEarlier, EndsInOne, IsInner, IsLast}
use Rattle.log_checker.specs.Ready.{IsOperand, IsPoint, Makes, step_at}
use Rattle.log_checker.proofs.ProgramMeaning.{new_behind, made-new}

-- ---- one instruction

-- the steps of earlier ones are as it requires
abbrev pub HasSteps : ℕ → List ℕ → Instr → Type 0
HasSteps d steps (Free i) = Unit {0}
HasSteps d steps (Join a b) = step_at steps a + step_at steps b ≤ d
HasSteps d steps (Meet a b) = d ≤ step_at steps a + step_at steps b
HasSteps d steps (On a b s t) = (step_at steps a ≡ 1) × (step_at steps b ≡ 1) × (s < 64) × (t < 64)
HasSteps d steps (Conic p1 p2 p3 p4 p5 p6) =
    (d ≡ 3) × AllByRecursion (λ n. step_at steps n ≡ 1) (p1 ∷ p2 ∷ p3 ∷ p4 ∷ p5 ∷ p6 ∷ [])

-- what the next instruction needs of the steps, and the step of what it makes
pub record IsNext (d : ℕ) (before : List Measure) (instr : Instr) : Type 0 where
  pub earlier : NamesEarlier before instr
  pub steps : HasSteps d (map (λ m. m.step) before) instr

step_same : (before : List Measure) (k : ℕ) → step_at (map (λ m. m.step) before) k ≡ (get_or before k no_measure).step
step_same [] k = refl
step_same (m ∷ before) zero = refl
step_same (m ∷ before) (suc k) = step_same before k

module _ (d : ℕ) (before : List Measure) where
  abbrev earlier_steps : List ℕ
  earlier_steps = map (λ m. m.step) before

  both_same : (a b : ℕ) → step_at earlier_steps a + step_at earlier_steps b
      ≡ (get_or before a no_measure).step + (get_or before b no_measure).step
  both_same a b = ap₂ ◌+◌ (step_same before a) (step_same before b)

  inner_steps : (instr : Instr) → IsInner d before instr → HasSteps d earlier_steps instr
  inner_steps (Free i) h = tt
  inner_steps (Join a b) h =
      let l : (get_or before a no_measure).step + (get_or before b no_measure).step < d = h.steps in
      subst (λ n. n ≤ d) (sym (both_same a b)) (omega arith)
  inner_steps (Meet a b) h =
      let l : d < (get_or before a no_measure).step + (get_or before b no_measure).step = h.steps in
      subst (λ n. d ≤ n) (sym (both_same a b)) (omega arith)
  inner_steps (On a b s t) h =
      (step_same before a ∙ h.steps.0, step_same before b ∙ h.steps.1, h.steps.2, h.steps.3)
  inner_steps (Conic p1 p2 p3 p4 p5 p6) h = absurd h.steps

  last_steps : (instr : Instr) → IsLast d before instr → HasSteps d earlier_steps instr
  last_steps (Free i) h = tt
  last_steps (Join a b) h =
      let l : (get_or before a no_measure).step + (get_or before b no_measure).step ≡ d = h.steps in
      subst (λ n. n ≤ d) (sym (both_same a b)) (omega arith)
  last_steps (Meet a b) h =
      let l : (get_or before a no_measure).step + (get_or before b no_measure).step ≡ d = h.steps in
      subst (λ n. d ≤ n) (sym (both_same a b)) (omega arith)
  last_steps (On a b s t) h = absurd h.steps
  last_steps (Conic p1 p2 p3 p4 p5 p6) h =
      let t = h.steps.1 in (
        h.steps.0,
        (
          step_same before p1 ∙ t.0,
          (
            step_same before p2 ∙ t.1.0,
            (
              step_same before p3 ∙ t.1.1.0,
              (
                step_same before p4 ∙ t.1.1.1.0,
                (step_same before p5 ∙ t.1.1.1.1.0, (step_same before p6 ∙ t.1.1.1.1.1.0, tt)),
              ),
            ),
          ),
        ),
      )

  next_is : (instr : Instr) (instrs : List Instr) → EndsInOne d before (instr ∷ instrs) → IsNext d before instr
  next_is instr [] h = record { earlier = h.earlier; steps = last_steps instr h }
  next_is instr (next ∷ instrs) h = record { earlier = h.0.earlier; steps = inner_steps instr h.0 }

  module _ (sized : AllByRecursion (IsSized d) before) where
    sized_at : (ms : List Measure) (k : ℕ) → AllByRecursion (IsSized d) ms → k < length ms
        → IsSized d (get_or ms k no_measure)
    sized_at [] k h l = absurd (omega arith)
    sized_at (m ∷ ms) zero h l = h.0
    sized_at (m ∷ ms) (suc k) h l = sized_at ms k h.1 (omega arith)

    operand : (k : ℕ) → k < length before → IsOperand d earlier_steps k
    operand k l =
        let x = sized_at before k sized l in
        let e = step_same before k in
        let n : length earlier_steps ≡ length before = length-map before (λ m. m.step) in
        record {
          earlier = omega arith;
          least = subst (λ s. 1 ≤ s) (sym e) x.least;
          below = subst (λ s. s < d) (sym e) x.below;
        }

    point : (k : ℕ) → k < length before → step_at earlier_steps k ≡ 1 → IsPoint earlier_steps k
    point k l e =
        let n : length earlier_steps ≡ length before = length-map before (λ m. m.step) in
        record { earlier = omega arith; one = e }

    pub makes : (instr : Instr) → IsNext d before instr
        → Makes d earlier_steps instr (instr_measure d before instr).step
    makes (Free i) n = refl
    makes (Join a b) n = record {
      pair = record { first = operand a n.earlier.0; second = operand b n.earlier.1.0 };
      few = n.steps;
      step = sym (both_same a b);
    }
    makes (Meet a b) n = record {
      pair = record { first = operand a n.earlier.0; second = operand b n.earlier.1.0 };
      many = n.steps;
      step = sym (ap (λ k. k - d) (both_same a b));
    }
    makes (On a b s t) n = record {
      pair = record { first = operand a n.earlier.0; second = operand b n.earlier.1.0 };
      first = n.steps.0;
      second = n.steps.1;
      first_parameter = n.steps.2;
      second_parameter = n.steps.3;
      step = refl;
    }
    makes (Conic p1 p2 p3 p4 p5 p6) n =
        let l = n.earlier in
        let t = n.steps.1 in
        record {
          rank = n.steps.0;
          points = (
            point p1 l.0 t.0,
            (
              point p2 l.1.0 t.1.0,
              (
                point p3 l.1.1.0 t.1.1.0,
                (
                  point p4 l.1.1.1.0 t.1.1.1.0,
                  (point p5 l.1.1.1.1.0 t.1.1.1.1.0, (point p6 l.1.1.1.1.1.0 t.1.1.1.1.1.0, tt)),
                ),
              ),
            ),
          );
          step = refl;
        }

-- ---- on the way

-- behind instructions with these steps, there are these others to do, with their own
pub record IsOnWay (d : ℕ) (steps : List ℕ) (instrs : List Instr) (later : List ℕ) : Type 0 where
  pub before : List Measure
  pub sized : AllByRecursion (IsSized d) before
  pub stepped : steps ≡ map (λ m. m.step) before
  pub ends : EndsInOne d before instrs
  pub rest : later ≡ map (λ m. m.step) (new_behind (instr_measure d) before instrs)

-- so it is as long as there is an instruction to do
abbrev pub IsWay : ℕ → List ℕ → List Instr → List ℕ → Type 0
IsWay d steps [] later = Unit {0}
IsWay d steps (instr ∷ instrs) later = IsOnWay d steps (instr ∷ instrs) later

way_of : (d : ℕ) (steps : List ℕ) (instrs : List Instr) (later : List ℕ) → IsOnWay d steps instrs later
    → IsWay d steps instrs later
way_of d steps [] later w = tt
way_of d steps (instr ∷ instrs) later w = w

pub way_begins : (p : Program) → IsWay p.rank [] p.instrs p.steps
way_begins p =
    way_of p.rank [] p.instrs p.steps
    (record {
      before = [];
      sized = tt;
      stepped = refl;
      ends = p.formed.each;
      rest =
          p.formed.stepped
          ∙ ap (λ (ms : List Measure). map (λ m. m.step) ms) (made-new (instr_measure p.rank) [] p.instrs);
    })

module _ (d : ℕ) (steps : List ℕ) (instr : Instr) (instrs : List Instr) (step : ℕ) (later : List ℕ)
    (w : IsOnWay d steps (instr ∷ instrs) (step ∷ later)) where
  here : (instr_measure d w.before instr).step ≡ step
  here = sym (ap (λ (ns : List ℕ). get_or ns 0 0) w.rest)

  -- the next instruction makes something of this step
  pub next_makes : Makes d steps instr step
  next_makes =
      subst (λ ns. Makes d ns instr step) (sym w.stepped)
      (subst (Makes d (map (λ m. m.step) w.before) instr) here
      (makes d w.before w.sized instr (next_is d w.before instr instrs w.ends)))

  way_on : (others : List Instr) → IsOnWay d steps (instr ∷ others) (step ∷ later)
      → IsWay d (steps ++ step ∷ []) others later
  way_on [] v = tt
  way_on (next ∷ others) v =
      let size = instr_measure d v.before instr in
      let e : size.step ≡ step = sym (ap (λ (ns : List ℕ). get_or ns 0 0) v.rest) in
      record {
        before = v.before ++ size ∷ [];
        sized = all_append (IsSized d) v.before (size ∷ []) v.sized (v.ends.0.sized, tt);
        stepped =
            ap₂ (λ (ns : List ℕ) n. ns ++ n ∷ []) v.stepped (sym e)
            ∙ sym (map-append (λ (m : Measure). m.step) v.before (size ∷ []));
        ends = v.ends.1;
        rest = ap (λ (ns : List ℕ). drop_first ns) v.rest;
      }
    where
      drop_first : List ℕ → List ℕ
      drop_first [] = []
      drop_first (n ∷ ns) = ns

  -- and behind it the others are to do
  pub way_goes_on : IsWay d (steps ++ step ∷ []) instrs later
  way_goes_on = way_on instrs w
