-- What each instruction of a program needs of the earlier ones.
use Rattle.std.proofs.Common.{◌≡◌, refl, sym, ap, ap₂, ◌∙◌, subst, ℕ, zero, suc, ◌+◌, ◌-◌, ◌<◌, ◌≤◌, List, [], ◌∷◌}
use Rattle.std.proofs.Common.{map, length}
use Rattle.std.proofs.Common.{get_or, take, arith, Bool, true, false, eqb, eqb→eq, eq-eqb, T, true≢false, ◌≢◌}
use Rattle.std.specs.Prelude.{slice_get, Some}
use Rattle.std.specs.List.{AllByRecursion}
use Rattle.std.proofs.lemmas.List.{get_or-take, length-take-le}
use Rattle.std.proofs.lemmas.Option.{slice_get-get_or, slice_get_within}
use Rattle.coordinate_model.specs.Sequences.{IsRank, subsets}
use Rattle.coordinate_model.proofs.Ranks.{by_rank}
use Rattle.step_types.specs.declared.measure.Measure.{Measure}
use Rattle.cayley_terms.specs.declared.instr.Instr.{Instr}
use Rattle.cayley_terms.specs.declared.instr.Instr.TheVariants.{Free, Join, Meet, On, Conic}
use Rattle.cayley_terms.specs.declared.program.Program.{Program}
use Rattle.cayley_terms.specs.Instrs.{no_measure, instr_measure, measures, measure_at}
use Rattle.cayley_terms.specs.Programs.{NamesEarlier, IsInner, IsLast}
use Rattle.cayley_terms.proofs.Made.{length-made}
use Rattle.cayley_terms.proofs.Places.{made-take, made-at, inner_at, last_at}
use Rattle.placement.specs.Ready.{IsOperand, CanMake}

some_same : {A : Type 0} (x y : A) → Some x ≡ Some y → x ≡ y
some_same x y e = cc

step_same : (ms : List Measure) (k : ℕ) → get_or (map (λ m. m.step) ms) k 0 ≡ (get_or ms k no_measure).step
step_same [] k = refl
step_same (m ∷ ms) zero = refl
step_same (m ∷ ms) (suc k) = step_same ms k

-- the steps of the operands are as it requires
HasSteps : ℕ → List Measure → Instr → Type 0
HasSteps d before (Free i) = Unit {0}
HasSteps d before (Join a b) = (measure_at before a).step + (measure_at before b).step ≤ d
HasSteps d before (Meet a b) = d ≤ (measure_at before a).step + (measure_at before b).step
HasSteps d before (On a b s t) = ((measure_at before a).step ≡ 1) × ((measure_at before b).step ≡ 1)
HasSteps d before (Conic p1 p2 p3 p4 p5 p6) =
    (d ≡ 3) × AllByRecursion (λ n. (measure_at before n).step ≡ 1) (p1 ∷ p2 ∷ p3 ∷ p4 ∷ p5 ∷ p6 ∷ [])

inner_steps : (d : ℕ) (before : List Measure) (i : Instr) → IsInner d before i → HasSteps d before i
unfolding HasSteps
inner_steps d before (Free i) h = tt
inner_steps d before (Join a b) h = let l = h.steps in omega arith
inner_steps d before (Meet a b) h = let l = h.steps in omega arith
inner_steps d before (On a b s t) h = (h.steps.0, h.steps.1)
inner_steps d before (Conic p1 p2 p3 p4 p5 p6) h = absurd h.steps

last_steps : (d : ℕ) (before : List Measure) (i : Instr) → IsLast d before i → HasSteps d before i
unfolding HasSteps
last_steps d before (Free i) h = tt
last_steps d before (Join a b) h = let l = h.steps in omega arith
last_steps d before (Meet a b) h = let l = h.steps in omega arith
last_steps d before (On a b s t) h = absurd h.steps
last_steps d before (Conic p1 p2 p3 p4 p5 p6) h = h.steps

last_coordinate : (d : ℕ) → IsRank d → (before : List Measure) (i : Instr) → IsLast d before i
    → length (subsets d (instr_measure d before i).step) ≡ 1
last_coordinate d rank before (Free i) h = absurd h.steps
last_coordinate d rank before (Join a b) h =
    ap (λ k. length (subsets d k)) h.steps ∙ by_rank (λ d. length (subsets d d) ≡ 1) refl refl refl d rank
last_coordinate d rank before (Meet a b) h =
    let l = h.steps in
    let none : (measure_at before a).step + (measure_at before b).step - d ≡ 0 = omega arith in
    ap (λ k. length (subsets d k)) none
last_coordinate d rank before (On a b s t) h = absurd h.steps
last_coordinate d rank before (Conic p1 p2 p3 p4 p5 p6) h = refl

module _ (p : Program) where
  ms : List Measure
  ms = measures p.rank p.instrs

  long : length ms ≡ length p.instrs
  unfolding ms
  long = let l = length-made (instr_measure p.rank) [] p.instrs in omega arith

  step_of : (k : ℕ) → get_or p.steps k 0 ≡ (get_or ms k no_measure).step
  unfolding ms
  step_of k = ap (λ (ns : List ℕ). get_or ns k 0) p.formed.stepped ∙ step_same ms k

  step_before : (k n : ℕ) → k < n → (measure_at (take n ms) k).step ≡ get_or p.steps k 0
  step_before k n h = ap (λ (m : Measure). m.step) (get_or-take n ms k no_measure h) ∙ sym (step_of k)

  inner : (n : ℕ) (i : Instr) → n + 1 < length p.instrs → slice_get p.instrs n ≡ Some i → IsInner p.rank (take n ms) i
  unfolding ms
  inner n i h at =
      subst (λ before. IsInner p.rank before i) (made-take (instr_measure p.rank) p.instrs n (omega arith))
      (inner_at p.rank [] p.instrs n i p.formed.each h at)

  last : (n : ℕ) (i : Instr) → n + 1 ≡ length p.instrs → slice_get p.instrs n ≡ Some i → IsLast p.rank (take n ms) i
  unfolding ms
  last n i h at =
      subst (λ before. IsLast p.rank before i) (made-take (instr_measure p.rank) p.instrs n (omega arith))
      (last_at p.rank [] p.instrs n i p.formed.each h at)

  -- an operand is a point, a line or a plane
  operand : (k n : ℕ) → k < n → n < length p.instrs → IsOperand p.rank p.steps n k
  unfolding ms
  operand k n h within =
      let i : Instr = get_or p.instrs k (Free 0) in
      let at : slice_get p.instrs k ≡ Some i = slice_get-get_or p.instrs k (Free 0) (omega arith) in
      let size : Measure = instr_measure p.rank (take k ms) i in
      let sized = (inner k i (omega arith) at).sized in
      let here : get_or ms k no_measure ≡ size =
      some_same _ _ (sym (slice_get-get_or ms k no_measure (omega (arith, long)))
      ∙ made-at (instr_measure p.rank) p.instrs k i at) in
      let step : get_or p.steps k 0 ≡ size.step = step_of k ∙ ap (λ (m : Measure). m.step) here in
      record {
        earlier = h;
        least = subst (λ s. 1 ≤ s) (sym step) sized.least;
        below = subst (λ s. s < p.rank) (sym step) sized.below;
      }

  makes : (n : ℕ) (i : Instr) → n < length p.instrs → NamesEarlier (take n ms) i → HasSteps p.rank (take n ms) i
      → CanMake p.rank p.steps n i
  unfolding HasSteps
  makes n i within names steps = by_instr i names steps
    where
      count : length (take n ms) ≡ n
      count = length-take-le n ms (omega (arith, long))

      same : (k : ℕ) → k < length (take n ms) → (measure_at (take n ms) k).step ≡ get_or p.steps k 0
      same k h = step_before k n (omega (arith, count))

      there : (k : ℕ) → k < length (take n ms) → IsOperand p.rank p.steps n k
      there k h = operand k n (omega (arith, count)) within

      one : (k : ℕ) → k < length (take n ms) → (measure_at (take n ms) k).step ≡ 1
          → (k < n) × (get_or p.steps k 0 ≡ 1)
      one k h e = (omega (arith, count), sym (same k h) ∙ e)

      by_instr : (i : Instr) → NamesEarlier (take n ms) i → HasSteps p.rank (take n ms) i
          → CanMake p.rank p.steps n i
      by_instr (Free i) names steps = tt
      by_instr (Join a b) names steps = (
        there a names.0,
        there b names.1.0,
        subst (λ k. k ≤ p.rank) (ap₂ ◌+◌ (same a names.0) (same b names.1.0)) steps,
      )
      by_instr (Meet a b) names steps = (
        there a names.0,
        there b names.1.0,
        subst (λ k. p.rank ≤ k) (ap₂ ◌+◌ (same a names.0) (same b names.1.0)) steps,
      )
      by_instr (On a b s t) names steps = (one a names.0 steps.0, one b names.1.0 steps.1)
      by_instr (Conic p1 p2 p3 p4 p5 p6) names steps =
          let n1 = names.1 in
          let n2 = n1.1 in
          let n3 = n2.1 in
          let n4 = n3.1 in
          let n5 = n4.1 in
          let s1 = steps.1.1 in
          let s2 = s1.1 in
          let s3 = s2.1 in
          let s4 = s3.1 in
          let s5 = s4.1 in (
            steps.0,
            (
              one p1 names.0 steps.1.0,
              (
                one p2 n1.0 s1.0,
                (
                  one p3 n2.0 s2.0,
                  (one p4 n3.0 s3.0, (one p5 n4.0 s4.0, (one p6 n5.0 s5.0, tt))),
                ),
              ),
            ),
          )

  -- what the instruction of this number needs
  pub can_make : (n : ℕ) (i : Instr) → slice_get p.instrs n ≡ Some i → CanMake p.rank p.steps n i
  can_make n i at = by_place (eqb (n + 1) (length p.instrs)) refl
    where
      within : n < length p.instrs
      within = slice_get_within p.instrs n i at

      by_place : (b : Bool) → eqb (n + 1) (length p.instrs) ≡ b → CanMake p.rank p.steps n i
      by_place true e =
          let h = last n i (eqb→eq (n + 1) (length p.instrs) (subst T (sym e) tt)) at in
          makes n i within h.earlier (last_steps p.rank (take n ms) i h)
      by_place false e =
          let different : n + 1 ≢ length p.instrs = λ same. true≢false
          (sym (eq-eqb (n + 1) (length p.instrs) same) ∙ e) in
          let h = inner n i (omega (arith, within, different)) at in
          makes n i within h.earlier (inner_steps p.rank (take n ms) i h)

  -- the conclusion has one coordinate
  pub one_coordinate : (n : ℕ) (i : Instr) → n + 1 ≡ length p.instrs → slice_get p.instrs n ≡ Some i
      → length (subsets p.rank (get_or p.steps n 0)) ≡ 1
  unfolding ms
  one_coordinate n i h at =
      let size : Measure = instr_measure p.rank (take n ms) i in
      let here : get_or ms n no_measure ≡ size =
      some_same _ _ (sym (slice_get-get_or ms n no_measure (omega (arith, long)))
      ∙ made-at (instr_measure p.rank) p.instrs n i at) in
      ap (λ k. length (subsets p.rank k)) (step_of n ∙ ap (λ (m : Measure). m.step) here)
      ∙ last_coordinate p.rank p.formed.rank (take n ms) i (last n i h at)
