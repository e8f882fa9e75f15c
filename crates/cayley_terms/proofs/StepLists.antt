-- The steps of what instructions make can be computed from the steps of the earlier ones.
use Rattle.std.proofs.Common.{◌≡◌, ℕ, zero, suc, ◌+◌, ◌<◌, ◌≤◌, List, [], ◌∷◌, ◌++◌, length, map, take, drop, get_or, sym, ap, ◌∙◌, subst, refl, arith, add-one}
use Rattle.std.proofs.lemmas.List.{length-map}
use Rattle.std.proofs.lemmas.List.{take_more, take_all, map_push}
use Rattle.coordinate_model.specs.Sequences.{IsRank}
use Rattle.step_types.specs.declared.measure.Measure.{Measure}
use Rattle.cayley_terms.specs.declared.instr.Instr.{Instr}
use Rattle.cayley_terms.specs.declared.instr.Instr.TheVariants as instr
use Rattle.cayley_terms.specs.Instrs.{made_behind, measure_at, instr_measure, measures}
use Rattle.cayley_terms.specs.Programs.{IsInner, IsLast, EndsInOne}
use Rattle.cayley_terms.specs.Steps.{step_made, IsComputed}
use Rattle.cayley_terms.proofs.Made.{made-push}

abbrev pub steps_of : List Measure → List ℕ
steps_of ms = map (λ m. m.step) ms

step-at : (ms : List Measure) (n : ℕ) → get_or (steps_of ms) n 0 ≡ (measure_at ms n).step
step-at [] n = refl
step-at (m ∷ ms) zero = refl
step-at (m ∷ ms) (suc n) = step-at ms n

-- the step that is computed is that of the measure
pub step_is : (d : ℕ) (ms : List Measure) (i : Instr) → step_made d (steps_of ms) i ≡ (instr_measure d ms i).step
step_is d ms (instr.Free k) = refl
step_is d ms (instr.Join a b) = omega (arith, step-at ms a, step-at ms b)
step_is d ms (instr.Meet a b) = omega (arith, step-at ms a, step-at ms b)
step_is d ms (instr.On a b s t) = refl
step_is d ms (instr.Conic p1 p2 p3 p4 p5 p6) = refl

-- each can be computed, behind those of these measures
abbrev pub AreComputed : ℕ → List Measure → List Instr → Type 0
AreComputed d ms [] = Unit {0}
AreComputed d ms (i ∷ instrs) =
    IsComputed d (steps_of ms) i × AreComputed d (ms ++ instr_measure d ms i ∷ []) instrs

computed_inner : (d : ℕ) (ms : List Measure) (i : Instr) → IsRank d → IsInner d ms i → IsComputed d (steps_of ms) i
computed_inner d ms (instr.Free k) rank inner = tt
computed_inner d ms (instr.Join a b) rank inner =
    let steps = inner.steps in
    record {
      first = omega (arith, inner.earlier.0, length-map ms (λ (m : Measure). m.step));
      second = omega (arith, inner.earlier.1.0, length-map ms (λ (m : Measure). m.step));
      fits = omega (arith, rank.1, steps, step-at ms a, step-at ms b);
    }
computed_inner d ms (instr.Meet a b) rank inner =
    let steps = inner.steps in
    let below = inner.sized.below in (
      record {
        first = omega (arith, inner.earlier.0, length-map ms (λ (m : Measure). m.step));
        second = omega (arith, inner.earlier.1.0, length-map ms (λ (m : Measure). m.step));
        fits = omega (arith, rank.1, steps, below, step-at ms a, step-at ms b);
      },
      omega (arith, steps, step-at ms a, step-at ms b),
    )
computed_inner d ms (instr.On a b s t) rank inner = tt
computed_inner d ms (instr.Conic p1 p2 p3 p4 p5 p6) rank inner = tt

computed_last : (d : ℕ) (ms : List Measure) (i : Instr) → IsRank d → IsLast d ms i → IsComputed d (steps_of ms) i
computed_last d ms (instr.Free k) rank last = tt
computed_last d ms (instr.Join a b) rank last =
    let steps = last.steps in
    record {
      first = omega (arith, last.earlier.0, length-map ms (λ (m : Measure). m.step));
      second = omega (arith, last.earlier.1.0, length-map ms (λ (m : Measure). m.step));
      fits = omega (arith, rank.1, steps, step-at ms a, step-at ms b);
    }
computed_last d ms (instr.Meet a b) rank last =
    let steps = last.steps in (
      record {
        first = omega (arith, last.earlier.0, length-map ms (λ (m : Measure). m.step));
        second = omega (arith, last.earlier.1.0, length-map ms (λ (m : Measure). m.step));
        fits = omega (arith, rank.1, steps, step-at ms a, step-at ms b);
      },
      omega (arith, steps, step-at ms a, step-at ms b),
    )
computed_last d ms (instr.On a b s t) rank last = tt
computed_last d ms (instr.Conic p1 p2 p3 p4 p5 p6) rank last = tt

pub computed : (d : ℕ) (ms : List Measure) (instrs : List Instr) → IsRank d → EndsInOne d ms instrs
    → AreComputed d ms instrs
computed d ms [] rank ends = tt
computed d ms (i ∷ []) rank ends = (computed_last d ms i rank ends, tt)
computed d ms (i ∷ next ∷ instrs) rank ends =
    (computed_inner d ms i rank ends.0, computed d (ms ++ instr_measure d ms i ∷ []) (next ∷ instrs) rank ends.1)

-- ---- from one to the next

computed-at : (d : ℕ) (ms : List Measure) (instrs : List Instr) (n : ℕ) (i : Instr) → n < length instrs
    → i ≡ get_or instrs n i → AreComputed d ms (drop n instrs)
    → IsComputed d (steps_of ms) i × AreComputed d (ms ++ instr_measure d ms i ∷ []) (drop (suc n) instrs)
computed-at d ms [] n i less at all = absurd (omega arith)
computed-at d ms (first ∷ instrs) zero i less at all =
    subst (λ x. IsComputed d (steps_of ms) x × AreComputed d (ms ++ instr_measure d ms x ∷ []) instrs) (sym at) all
computed-at d ms (first ∷ instrs) (suc n) i less at all = computed-at d ms instrs n i (omega arith) at all

-- the steps so far, and that those behind them can be computed
pub record IsSoFar (d : ℕ) (instrs : List Instr) (n : ℕ) (steps : List ℕ) : Type 0 where
  pub steps_are : steps ≡ steps_of (measures d (take n instrs))
  pub behind : AreComputed d (measures d (take n instrs)) (drop n instrs)

pub so_far_computed : (d : ℕ) (instrs : List Instr) (n : ℕ) (steps : List ℕ) (i : Instr) → n < length instrs
    → i ≡ get_or instrs n i → IsSoFar d instrs n steps → IsComputed d steps i
so_far_computed d instrs n steps i less at so_far =
    subst (λ ss. IsComputed d ss i) (sym so_far.steps_are)
    (computed-at d (measures d (take n instrs)) instrs n i less at so_far.behind).0

pub so_far_next : (d : ℕ) (instrs : List Instr) (n : ℕ) (steps : List ℕ) (i : Instr) → n < length instrs
    → i ≡ get_or instrs n i → IsSoFar d instrs n steps
    → IsSoFar d instrs (n + 1) (steps ++ step_made d steps i ∷ [])
so_far_next d instrs n steps i less at so_far =
    let front = take n instrs in
    let before = measures d front in
    let grown : measures d (take (n + 1) instrs) ≡ before ++ instr_measure d before i ∷ [] =
    ap (measures d) (take_more instrs n i less ∙ ap (λ x. front ++ x ∷ []) (sym at))
    ∙ made-push (instr_measure d) [] front i in
    record {
      steps_are =
          ap (λ ss. ss ++ step_made d ss i ∷ []) so_far.steps_are
          ∙ ap (λ k. steps_of before ++ k ∷ []) (step_is d before i)
          ∙ sym (map_push (λ (m : Measure). m.step) before (instr_measure d before i)) ∙ ap steps_of (sym grown);
      behind =
          rw (grown, add-one n) (computed-at d before instrs n i less at so_far.behind).1;
    }

pub so_far_none : (d : ℕ) (instrs : List Instr) (steps : List ℕ) → IsRank d → EndsInOne d [] instrs → steps ≡ []
    → IsSoFar d instrs 0 steps
unfolding made_behind
so_far_none d instrs steps rank ends none =
    record { steps_are = none; behind = computed d [] instrs rank ends }

pub so_far_all : (d : ℕ) (instrs : List Instr) (n : ℕ) (steps : List ℕ) → length instrs ≤ n
    → IsSoFar d instrs n steps → steps ≡ steps_of (measures d instrs)
so_far_all d instrs n steps over so_far =
    so_far.steps_are ∙ ap (λ xs. steps_of (measures d xs)) (take_all n instrs over)
