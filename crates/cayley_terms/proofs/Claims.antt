-- Lowered claims are those of the text.
use Rattle.std.proofs.Common.{◌≡◌, ℕ, ◌+◌, ◌-◌, ◌*◌, ◌≤◌, true, List, [], ◌∷◌, length, map, Some, ap, ◌∙◌, refl, arith}
use Rattle.std.specs.List.{AllByRecursion}
use Rattle.std.proofs.lemmas.Bool.{eqb-true}
use Rattle.std.proofs.lemmas.List.{length-map}
use Rattle.construction_reader.specs.Said.{Object, Claim}
use Rattle.construction_reader.specs.Grammar.{IsClaim}
use Rattle.step_types.specs.declared.measure.Measure.{Measure}
use Rattle.step_types.specs.Measures.{both, none_of}
use Rattle.step_types.specs.Forms.{measure_at, total, point_and_hyperplane, claim_measure}
use Rattle.step_types.specs.Rules.{claim_fits}
use Rattle.cayley_terms.specs.declared.instr.Instr.{Instr}
use Rattle.cayley_terms.specs.declared.instr.Instr.TheVariants as instr
use Rattle.cayley_terms.specs.Figures.{Figure, joined, met, from_left}
use Rattle.cayley_terms.specs.Meaning.{Frame, object_figure, conic_figure, claim_figure}
use Rattle.cayley_terms.specs.Straight.{Lowered, objects_lowered, from_left_lowered, conic_lowered, claim_lowered}
use Rattle.cayley_terms.proofs.Measured.{some_then, some_same, at_step}
use Rattle.cayley_terms.proofs.Sound.{keeps_on, IsSound}
use Rattle.cayley_terms.proofs.Objects.{AreTied}
use Rattle.cayley_terms.proofs.SixPoints.{conic_concludes}
use Rattle.cayley_terms.proofs.Chains.{steps_in, rows_in, degrees_in, AreMeasured, AreAt, makes_objects, Concludes, joins_conclude, meets_conclude}

-- objects of this step, with their rows and degrees
pub record HasParts (d : ℕ) (made : List (List ℕ × Measure)) (step : ℕ) (os : List Object) (rows degree : ℕ) : Type 0 where
  pub all : List Measure
  pub measured : AreMeasured d made os all
  pub steps : AllByRecursion (λ m. m.step ≡ step) all
  pub rows_are : rows_in all ≡ rows
  pub degree_is : degrees_in all ≡ degree
  pub count : length all ≡ length os

pub total_parts : (d : ℕ) (made : List (List ℕ × Measure)) (step : ℕ) (os : List Object) (m : Measure)
    → total d made step os ≡ Some m → HasParts d made step os m.rows m.degree
unfolding total
total_parts d made step [] m e =
    let same : none_of step ≡ m = some_same _ m e in
    record {
      all = [];
      measured = tt;
      steps = tt;
      rows_are = ap (λ (k : Measure). k.rows) same;
      degree_is = ap (λ (k : Measure). k.degree) same;
      count = refl;
    }
total_parts d made step (o ∷ os) m e =
    let first = some_then (measure_at d made step o) _ m e in
    let others = some_then (total d made step os) _ m first.1.1 in
    let same : both first.0 others.0 ≡ m = some_same _ m others.1.1 in
    let one = at_step d made step o first.0 first.1.0 in
    let rest = total_parts d made step os others.0 others.1.0 in
    let rows_same : first.0.rows + others.0.rows ≡ m.rows = ap (λ (k : Measure). k.rows) same in
    let degree_same : first.0.degree + others.0.degree ≡ m.degree = ap (λ (k : Measure). k.degree) same in
    record {
      all = first.0 ∷ rest.all;
      measured = (one.0, rest.measured);
      steps = (one.1, rest.steps);
      rows_are = let r = rest.rows_are in omega arith;
      degree_is = let r = rest.degree_is in omega arith;
      count = let r = rest.count in omega arith;
    }

-- objects of one step have it together as often as they are
steps_alike : (step : ℕ) (all : List Measure) → AllByRecursion (λ m. m.step ≡ step) all → steps_in all ≡ length all * step
steps_alike step [] steps = omega arith
steps_alike step (m ∷ all) steps = let one = steps.0 in let rest = steps_alike step all steps.1 in omega arith

-- a point and a hyperplane
pub record ArePointAndHyperplane (d : ℕ) (made : List (List ℕ × Measure)) (os : List Object) (rows degree : ℕ)
    : Type 0 where
  pub all : List Measure
  pub measured : AreMeasured d made os all
  pub steps : steps_in all ≡ d
  pub rows_are : rows_in all ≡ rows
  pub degree_is : degrees_in all ≡ degree
  pub count : length all ≡ 2

one_step : (step : ℕ) (all : List Measure) → length all ≡ 1 → AllByRecursion (λ m. m.step ≡ step) all
    → steps_in all ≡ step
one_step step [] one steps = absurd (omega arith)
one_step step (m ∷ []) one steps = let e = steps.0 in omega arith
one_step step (m ∷ n ∷ all) one steps = absurd (omega arith)

incident_parts : (d : ℕ) (made : List (List ℕ × Measure)) (os : List Object) (m : Measure) → 1 ≤ d → length os ≡ 2
    → point_and_hyperplane d made os ≡ Some m → ArePointAndHyperplane d made os m.rows m.degree
unfolding point_and_hyperplane
incident_parts d made [] m some two e = absurd cc
incident_parts d made (o ∷ os) m some two e =
    let first = some_then (measure_at d made 1 o) _ m e in
    let others = some_then (total d made (d - 1) os) _ m first.1.1 in
    let same : both first.0 others.0 ≡ m = some_same _ m others.1.1 in
    let one = at_step d made 1 o first.0 first.1.0 in
    let rest = total_parts d made (d - 1) os others.0 others.1.0 in
    let rows_same : first.0.rows + others.0.rows ≡ m.rows = ap (λ (k : Measure). k.rows) same in
    let degree_same : first.0.degree + others.0.degree ≡ m.degree = ap (λ (k : Measure). k.degree) same in
    let count = rest.count in
    let step = one_step (d - 1) rest.all (omega arith) rest.steps in
    let point : first.0.step ≡ 1 = one.1 in
    record {
      all = first.0 ∷ rest.all;
      measured = (one.0, rest.measured);
      steps = omega arith;
      rows_are = let r = rest.rows_are in omega arith;
      degree_is = let r = rest.degree_is in omega arith;
      count = omega arith;
    }

-- hyperplanes have steps of at most 3
planes_low : (d : ℕ) (all : List Measure) → d ≤ 4 → AllByRecursion (λ m. m.step + 1 ≡ d) all → steps_in all ≤ 3 * length all
planes_low d [] low planes = omega arith
planes_low d (m ∷ all) low planes = let one = planes.0 in let rest = planes_low d all low planes.1 in omega arith

planes_of : (d step : ℕ) (all : List Measure) → step + 1 ≡ d → AllByRecursion (λ m. m.step ≡ step) all
    → AllByRecursion (λ m. m.step + 1 ≡ d) all
planes_of d step [] same steps = tt
planes_of d step (m ∷ all) same steps = (let one = steps.0 in omega arith, planes_of d step all same steps.1)

module _ (F : Frame) (d used : ℕ) where
  same_length : (instrs : List Instr) (ns : List ℕ) (all : List Measure) (xs : List (Figure F.ring))
      → AreAt F d used instrs ns all xs → length ns ≡ length all
  same_length instrs [] [] [] each = refl
  same_length instrs [] [] (x ∷ xs) each = absurd each
  same_length instrs [] (m ∷ all) xs each = absurd each
  same_length instrs (n ∷ ns) [] xs each = absurd each
  same_length instrs (n ∷ ns) (m ∷ all) [] each = absurd each
  same_length instrs (n ∷ ns) (m ∷ all) (x ∷ xs) each = let e = same_length instrs ns all xs each.1 in omega arith

  joins_from_left : (line : ℕ) (s : Lowered) (fs : List (ℕ × Figure F.ring)) (ms : List (ℕ × Measure)) (ns : List ℕ)
      (all : List Measure) (xs : List (Figure F.ring)) → IsSound F d used s fs ms → AreAt F d used s.instrs ns all xs
      → 2 ≤ length all → steps_in all ≡ d → rows_in all + 1 ≤ 64 → degrees_in all ≤ 1000
      → Concludes F d used s fs ms (from_left_lowered instr.Join line ns s).0 (from_left F.ring (joined F.ring) xs)
      (length all)
  joins_from_left line s fs ms [] [] xs sound each two steps rows degree = absurd (omega arith)
  joins_from_left line s fs ms [] (m ∷ all) xs sound each two steps rows degree = absurd each
  joins_from_left line s fs ms (n ∷ ns) [] xs sound each two steps rows degree = absurd each
  joins_from_left line s fs ms (n ∷ ns) (m ∷ all) [] sound each two steps rows degree = absurd each
  joins_from_left line s fs ms (n ∷ ns) (m ∷ all) (x ∷ xs) sound each two steps rows degree =
      let same = same_length s.instrs ns all xs each.1 in
      let r = joins_conclude F d used line s fs ms n m x ns all xs sound each.0 each.1 (omega arith) (omega arith) (omega arith)
      (omega arith) in
      record { ended = r.ended; keeps = r.keeps; few = let f = r.few in omega arith }

  meets_from_left : (line : ℕ) (s : Lowered) (fs : List (ℕ × Figure F.ring)) (ms : List (ℕ × Measure)) (ns : List ℕ)
      (all : List Measure) (xs : List (Figure F.ring)) → IsSound F d used s fs ms → AreAt F d used s.instrs ns all xs
      → 2 ≤ length all → length all ≡ d → AllByRecursion (λ m. m.step + 1 ≡ d) all
      → rows_in all + (length all - 1) ≤ 64 → degrees_in all ≤ 1000
      → Concludes F d used s fs ms (from_left_lowered instr.Meet line ns s).0 (from_left F.ring (met F.ring d) xs)
      (length all)
  meets_from_left line s fs ms [] [] xs sound each two count planes rows degree = absurd (omega arith)
  meets_from_left line s fs ms [] (m ∷ all) xs sound each two count planes rows degree = absurd each
  meets_from_left line s fs ms (n ∷ ns) [] xs sound each two count planes rows degree = absurd each
  meets_from_left line s fs ms (n ∷ ns) (m ∷ all) [] sound each two count planes rows degree = absurd each
  meets_from_left line s fs ms (n ∷ ns) (m ∷ all) (x ∷ xs) sound each two count planes rows degree =
      let same = same_length s.instrs ns all xs each.1 in
      let plane = planes.0 in
      let r = meets_conclude F d used line s fs ms n m x ns all xs sound each.0 each.1 (omega arith) (omega arith) planes.1
      (omega arith) (omega arith) in
      record { ended = r.ended; keeps = r.keeps; few = let f = r.few in omega arith }

  module _ (made : List (List ℕ × Measure)) (objects : List (List ℕ × Figure F.ring)) (fs : List (ℕ × Figure F.ring))
      (ms : List (ℕ × Measure)) (low : d ≤ 4) where
    -- objects, and behind them their joins from the left
    pub joins_claim : (line : ℕ) (os : List Object) (s : Lowered) (all : List Measure) → IsSound F d used s fs ms
        → AreTied F d used s.instrs s.numbers made objects → AreMeasured d made os all → 2 ≤ length all → length all ≤ 6
        → steps_in all ≡ d → rows_in all + 1 ≤ 64 → degrees_in all ≤ 1000
        → Concludes F d used s fs ms
        (let r = objects_lowered line os s in from_left_lowered instr.Join line r.1 r.0).0
        (from_left F.ring (joined F.ring) (map (object_figure F d objects) os)) 300
    joins_claim line os s all sound tied measured two six steps rows degree =
        let r = objects_lowered line os s in
        let parts = makes_objects F d used made objects fs ms low line os s all sound tied measured (omega arith) degree in
        let whole = joins_from_left line r.0 fs ms r.1 all (map (object_figure F d objects) os) parts.sound parts.each two
        steps rows degree in
        record {
          ended = whole.ended;
          keeps = keeps_on s r.0 _ parts.keeps whole.keeps;
          few = let f = parts.few in let g = whole.few in omega arith;
        }

    -- and their meets from the left
    pub meets_claim : (line : ℕ) (os : List Object) (s : Lowered) (all : List Measure) → IsSound F d used s fs ms
        → AreTied F d used s.instrs s.numbers made objects → AreMeasured d made os all → 2 ≤ length all → length all ≡ d
        → AllByRecursion (λ m. m.step + 1 ≡ d) all → rows_in all + (length all - 1) ≤ 64 → degrees_in all ≤ 1000
        → Concludes F d used s fs ms
        (let r = objects_lowered line os s in from_left_lowered instr.Meet line r.1 r.0).0
        (from_left F.ring (met F.ring d) (map (object_figure F d objects) os)) 300
    meets_claim line os s all sound tied measured two count planes rows degree =
        let r = objects_lowered line os s in
        let parts = makes_objects F d used made objects fs ms low line os s all sound tied measured (omega arith) degree in
        let whole = meets_from_left line r.0 fs ms r.1 all (map (object_figure F d objects) os) parts.sound parts.each two
        count planes rows degree in
        let steps = planes_low d all low planes in
        record {
          ended = whole.ended;
          keeps = keeps_on s r.0 _ parts.keeps whole.keeps;
          few = let f = parts.few in let g = whole.few in omega arith;
        }

    -- a join of objects of one step, which make up the rank together
    alike_claim : (line step : ℕ) (os : List Object) (s : Lowered) (rows degree : ℕ) → IsSound F d used s fs ms
        → AreTied F d used s.instrs s.numbers made objects → HasParts d made step os rows degree → 2 ≤ length os
        → length os ≤ 6 → length os * step ≡ d → rows + 1 ≤ 64 → degree ≤ 1000
        → Concludes F d used s fs ms
        (let r = objects_lowered line os s in from_left_lowered instr.Join line r.1 r.0).0
        (from_left F.ring (joined F.ring) (map (object_figure F d objects) os)) 300
    alike_claim line step os s rows degree sound tied parts two six whole many large =
        let count = parts.count in
        let rows_are = parts.rows_are in
        let degree_is = parts.degree_is in
        joins_claim line os s parts.all sound tied parts.measured (omega arith) (omega arith)
        (steps_alike step parts.all parts.steps ∙ ap (λ n. n * step) count ∙ whole) (omega arith) (omega arith)

    -- the six-point polynomial of six points of rank 3
    conic_claim : (line : ℕ) (os : List Object) (s : Lowered) (rows degree : ℕ) → IsSound F d used s fs ms
        → AreTied F d used s.instrs s.numbers made objects → HasParts d made 1 os rows degree → length os ≡ 6 → d ≡ 3
        → 2 * rows + 4 ≤ 64 → 2 * degree ≤ 1000
        → Concludes F d used s fs ms
        (let r = objects_lowered line os s in conic_lowered line r.1 r.0).0
        (conic_figure F (map (object_figure F d objects) os)) 300
    conic_claim line os s rows degree sound tied parts six rank many large =
        let all = parts.all in
        let count = parts.count in
        let rows_are = parts.rows_are in
        let degree_is = parts.degree_is in
        let steps = steps_alike 1 all parts.steps in
        let r = objects_lowered line os s in
        let xs = map (object_figure F d objects) os in
        let made_all = makes_objects F d used made objects fs ms low line os s all sound tied parts.measured (omega arith)
        (omega arith) in
        let figures_many : length xs ≡ 6 = length-map os (object_figure F d objects) ∙ six in
        let whole = conic_concludes F d used line r.0 fs ms made_all.sound rank r.1 all xs made_all.each
        (same_length r.0.instrs r.1 all xs made_all.each ∙ count ∙ six) (count ∙ six) figures_many parts.steps (omega arith)
        (omega arith) in
        record {
          ended = whole.ended;
          keeps = keeps_on s r.0 _ made_all.keeps whole.keeps;
          few = let f = made_all.few in let g = whole.few in omega arith;
        }

    -- a claim
    pub concludes_claim : 2 ≤ d → (line : ℕ) (claim : Claim) (s : Lowered) (m : Measure) → IsSound F d used s fs ms
        → AreTied F d used s.instrs s.numbers made objects → IsClaim claim → claim_fits d claim ≡ true
        → claim_measure d made claim ≡ Some m → m.rows ≤ 64 → m.degree ≤ 1000
        → Concludes F d used s fs ms (claim_lowered line claim s).0 (claim_figure F d objects claim) 300
    unfolding claim_measure claim_lowered
    concludes_claim least line (Claim.Collinear args) s m sound tied formed fits e rows degree =
        let sum = some_then (total d made 1 args) _ m e in
        let same = some_same _ m sum.1.1 in
        let rows_same : sum.0.rows + 1 ≡ m.rows = ap (λ (k : Measure). k.rows) same in
        let degree_same : sum.0.degree ≡ m.degree = ap (λ (k : Measure). k.degree) same in
        let rank : d ≡ 3 = eqb-true d 3 fits in
        let long = formed.0 in
        alike_claim line 1 args s sum.0.rows sum.0.degree sound tied (total_parts d made 1 args sum.0 sum.1.0) (omega arith)
        (omega arith) (omega arith) (omega arith) (omega arith)
    concludes_claim least line (Claim.Concurrent args) s m sound tied formed fits e rows degree =
        let sum = some_then (total d made (d - 1) args) _ m e in
        let same = some_same _ m sum.1.1 in
        let rows_same : sum.0.rows + (length args - 1) ≡ m.rows = ap (λ (k : Measure). k.rows) same in
        let degree_same : sum.0.degree ≡ m.degree = ap (λ (k : Measure). k.degree) same in
        let parts = total_parts d made (d - 1) args sum.0 sum.1.0 in
        let many : length args ≡ d = eqb-true (length args) d fits in
        let count = parts.count in
        let rows_are = parts.rows_are in
        let degree_is = parts.degree_is in
        meets_claim line args s parts.all sound tied parts.measured (omega arith) (omega arith)
        (planes_of d (d - 1) parts.all (omega arith) parts.steps) (omega arith) (omega arith)
    concludes_claim least line (Claim.Coplanar args) s m sound tied formed fits e rows degree =
        let sum = some_then (total d made 1 args) _ m e in
        let same = some_same _ m sum.1.1 in
        let rows_same : sum.0.rows + 1 ≡ m.rows = ap (λ (k : Measure). k.rows) same in
        let degree_same : sum.0.degree ≡ m.degree = ap (λ (k : Measure). k.degree) same in
        let rank : d ≡ 4 = eqb-true d 4 fits in
        let long = formed.0 in
        alike_claim line 1 args s sum.0.rows sum.0.degree sound tied (total_parts d made 1 args sum.0 sum.1.0) (omega arith)
        (omega arith) (omega arith) (omega arith) (omega arith)
    concludes_claim least line (Claim.Meeting args) s m sound tied formed fits e rows degree =
        let sum = some_then (total d made 2 args) _ m e in
        let same = some_same _ m sum.1.1 in
        let rows_same : sum.0.rows + 1 ≡ m.rows = ap (λ (k : Measure). k.rows) same in
        let degree_same : sum.0.degree ≡ m.degree = ap (λ (k : Measure). k.degree) same in
        let rank : d ≡ 4 = eqb-true d 4 fits in
        let long = formed.0 in
        alike_claim line 2 args s sum.0.rows sum.0.degree sound tied (total_parts d made 2 args sum.0 sum.1.0) (omega arith)
        (omega arith) (omega arith) (omega arith) (omega arith)
    concludes_claim least line (Claim.Incident args) s m sound tied formed fits e rows degree =
        let sum = some_then (point_and_hyperplane d made args) _ m e in
        let same = some_same _ m sum.1.1 in
        let rows_same : sum.0.rows + 1 ≡ m.rows = ap (λ (k : Measure). k.rows) same in
        let degree_same : sum.0.degree ≡ m.degree = ap (λ (k : Measure). k.degree) same in
        let parts = incident_parts d made args sum.0 (omega arith) formed.0 sum.1.0 in
        let count = parts.count in
        let rows_are = parts.rows_are in
        let degree_is = parts.degree_is in
        joins_claim line args s parts.all sound tied parts.measured (omega arith) (omega arith) parts.steps (omega arith)
        (omega arith)
    concludes_claim least line (Claim.Conic args) s m sound tied formed fits e rows degree =
        let sum = some_then (total d made 1 args) _ m e in
        let same = some_same _ m sum.1.1 in
        let rows_same : 2 * sum.0.rows + 4 ≡ m.rows = ap (λ (k : Measure). k.rows) same in
        let degree_same : 2 * sum.0.degree ≡ m.degree = ap (λ (k : Measure). k.degree) same in
        let rank : d ≡ 3 = eqb-true d 3 fits in
        let six : length args ≡ 6 = formed.0 in
        conic_claim line args s sum.0.rows sum.0.degree sound tied (total_parts d made 1 args sum.0 sum.1.0) six rank
        (omega arith) (omega arith)
