-- The six-point polynomial of six points that were lowered.
use Rattle.std.proofs.Common.{◌≡◌, ℕ, ◌+◌, ◌*◌, ◌<◌, ◌≤◌, List, [], ◌∷◌, length, None, refl, sym, ap, subst, ◌∙◌, arith, length-append}
use Rattle.std.specs.List.{AllByRecursion}
use Rattle.step_types.specs.declared.measure.Measure.{Measure}
use Rattle.cayley_terms.specs.declared.instr.Instr.TheVariants as instr
use Rattle.cayley_terms.specs.Figures.{Figure, conic}
use Rattle.cayley_terms.specs.Meaning.{Frame, conic_figure}
use Rattle.cayley_terms.specs.Instrs.{measure_at, instr_measure, measures}
use Rattle.cayley_terms.specs.Straight.{Lowered, pushed, conic_lowered}
use Rattle.cayley_terms.proofs.Made.{length-made}
use Rattle.cayley_terms.proofs.Sound.{keeps_pushed, IsSound, IsAt}
use Rattle.cayley_terms.proofs.Chains.{rows_in, degrees_in, AreAt, Concludes, ended_push}

-- a list of six
record AreSix {A : Type 0} (xs : List A) : Type 0 where
  p1 : A
  p2 : A
  p3 : A
  p4 : A
  p5 : A
  p6 : A
  same : xs ≡ p1 ∷ p2 ∷ p3 ∷ p4 ∷ p5 ∷ p6 ∷ []

are_six : {A : Type 0} (xs : List A) → length xs ≡ 6 → AreSix xs
are_six (a ∷ b ∷ c ∷ d ∷ e ∷ f ∷ []) h = record { p1 = a; p2 = b; p3 = c; p4 = d; p5 = e; p6 = f; same = refl }
are_six xs h = absurd (omega arith)

module _ (F : Frame) (d used : ℕ) (line : ℕ) (s : Lowered) (fs : List (ℕ × Figure F.ring)) (ms : List (ℕ × Measure))
    (sound : IsSound F d used s fs ms) (rank : d ≡ 3) where
  within : (n : ℕ) (m : Measure) (x : Figure F.ring) → IsAt F d used s.instrs n m x → n < length (measures d s.instrs)
  within n m x at = let l = length-made (instr_measure d) [] s.instrs in let b = at.below in omega arith

  rows_at : (n : ℕ) (m : Measure) (x : Figure F.ring) → IsAt F d used s.instrs n m x
      → (measure_at (measures d s.instrs) n).rows ≡ m.rows
  rows_at n m x at = ap (λ (k : Measure). k.rows) at.measure

  degree_at : (n : ℕ) (m : Measure) (x : Figure F.ring) → IsAt F d used s.instrs n m x
      → (measure_at (measures d s.instrs) n).degree ≡ m.degree
  degree_at n m x at = ap (λ (k : Measure). k.degree) at.measure

  step_at : (n : ℕ) (m : Measure) (x : Figure F.ring) → IsAt F d used s.instrs n m x → m.step ≡ 1
      → (measure_at (measures d s.instrs) n).step ≡ 1
  step_at n m x at one = ap (λ (k : Measure). k.step) at.measure ∙ one

  -- six points, each made by an instruction
  six_conclude : (n1 n2 n3 n4 n5 n6 : ℕ) (m1 m2 m3 m4 m5 m6 : Measure) (x1 x2 x3 x4 x5 x6 : Figure F.ring)
      → AreAt F d used s.instrs (n1 ∷ n2 ∷ n3 ∷ n4 ∷ n5 ∷ n6 ∷ []) (m1 ∷ m2 ∷ m3 ∷ m4 ∷ m5 ∷ m6 ∷ [])
      (x1 ∷ x2 ∷ x3 ∷ x4 ∷ x5 ∷ x6 ∷ []) → AllByRecursion (λ m. m.step ≡ 1) (m1 ∷ m2 ∷ m3 ∷ m4 ∷ m5 ∷ m6 ∷ [])
      → 2 * rows_in (m1 ∷ m2 ∷ m3 ∷ m4 ∷ m5 ∷ m6 ∷ []) + 4 ≤ 64
      → 2 * degrees_in (m1 ∷ m2 ∷ m3 ∷ m4 ∷ m5 ∷ m6 ∷ []) ≤ 1000
      → Concludes F d used s fs ms (pushed line None (instr.Conic n1 n2 n3 n4 n5 n6) s).0
      (conic F.ring x1 x2 x3 x4 x5 x6) 1
  six_conclude n1 n2 n3 n4 n5 n6 m1 m2 m3 m4 m5 m6 x1 x2 x3 x4 x5 x6 each steps rows degree =
      let a1 = each.0 in
      let a2 = each.1.0 in
      let a3 = each.1.1.0 in
      let a4 = each.1.1.1.0 in
      let a5 = each.1.1.1.1.0 in
      let a6 = each.1.1.1.1.1.0 in
      let i = instr.Conic n1 n2 n3 n4 n5 n6 in
      let r1 = rows_at n1 m1 x1 a1 in
      let r2 = rows_at n2 m2 x2 a2 in
      let r3 = rows_at n3 m3 x3 a3 in
      let r4 = rows_at n4 m4 x4 a4 in
      let r5 = rows_at n5 m5 x5 a5 in
      let r6 = rows_at n6 m6 x6 a6 in
      let g1 = degree_at n1 m1 x1 a1 in
      let g2 = degree_at n2 m2 x2 a2 in
      let g3 = degree_at n3 m3 x3 a3 in
      let g4 = degree_at n4 m4 x4 a4 in
      let g5 = degree_at n5 m5 x5 a5 in
      let g6 = degree_at n6 m6 x6 a6 in
      record {
        ended =
            ended_push F d used line i s fs ms (conic F.ring x1 x2 x3 x4 x5 x6) sound
            (record {
              earlier = (
                within n1 m1 x1 a1,
                (
                  within n2 m2 x2 a2,
                  (within n3 m3 x3 a3, (within n4 m4 x4 a4, (within n5 m5 x5 a5, (within n6 m6 x6 a6, tt)))),
                ),
              );
              steps = (
                rank,
                (
                  step_at n1 m1 x1 a1 steps.0,
                  (
                    step_at n2 m2 x2 a2 steps.1.0,
                    (
                      step_at n3 m3 x3 a3 steps.1.1.0,
                      (
                        step_at n4 m4 x4 a4 steps.1.1.1.0,
                        (step_at n5 m5 x5 a5 steps.1.1.1.1.0, (step_at n6 m6 x6 a6 steps.1.1.1.1.1.0, tt)),
                      ),
                    ),
                  ),
                ),
              );
              rows = omega arith;
              degree = omega arith;
            })
            tt (λ j. conic F.ring (a1.figure j) (a2.figure j) (a3.figure j) (a4.figure j) (a5.figure j) (a6.figure j));
        keeps = keeps_pushed line None i s;
        few = omega (arith, length-append s.instrs (i ∷ []));
      }

  -- so it is for their lists
  pub conic_concludes : (ns : List ℕ) (all : List Measure) (xs : List (Figure F.ring)) → AreAt F d used s.instrs ns all xs
      → length ns ≡ 6 → length all ≡ 6 → length xs ≡ 6 → AllByRecursion (λ m. m.step ≡ 1) all → 2 * rows_in all + 4 ≤ 64
      → 2 * degrees_in all ≤ 1000
      → Concludes F d used s fs ms (conic_lowered line ns s).0 (conic_figure F xs) 1
  conic_concludes ns all xs each l k h steps rows degree =
      let n = are_six ns l in
      let m = are_six all k in
      let x = are_six xs h in
      let Goal : List ℕ → List Measure → List (Figure F.ring) → Type 0 = λ (ns : List ℕ) (all : List Measure) (xs : List (Figure F.ring)).
      AreAt F d used s.instrs ns all xs → AllByRecursion (λ m. m.step ≡ 1) all → 2 * rows_in all + 4 ≤ 64
      → 2 * degrees_in all ≤ 1000 → Concludes F d used s fs ms (conic_lowered line ns s).0 (conic_figure F xs) 1 in
      subst (λ (ys : List ℕ). Goal ys all xs) (sym n.same)
      (subst (λ (ys : List Measure). Goal (n.p1 ∷ n.p2 ∷ n.p3 ∷ n.p4 ∷ n.p5 ∷ n.p6 ∷ []) ys xs) (sym m.same)
      (subst (λ (ys : List (Figure F.ring)). Goal (n.p1 ∷ n.p2 ∷ n.p3 ∷ n.p4 ∷ n.p5 ∷ n.p6 ∷ [])
      (m.p1 ∷ m.p2 ∷ m.p3 ∷ m.p4 ∷ m.p5 ∷ m.p6 ∷ []) ys) (sym x.same)
      (six_conclude n.p1 n.p2 n.p3 n.p4 n.p5 n.p6 m.p1 m.p2 m.p3 m.p4 m.p5 m.p6 x.p1 x.p2 x.p3 x.p4 x.p5 x.p6))) each steps
      rows degree
