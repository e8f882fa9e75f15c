-- What it says that the step rules give a measure.
use Rattle.std.proofs.Common.{◌≡◌, ℕ, ◌+◌, ◌-◌, ◌<◌, Bool, true, false, cond, List, Option, None, Some, sym, ap, ◌∙◌, refl, nat_lt}
use Rattle.std.specs.Prelude.{◌==◌, ◌&&◌}
use Rattle.std.proofs.lemmas.Bool.{ltb-true, eqb-true}
use Rattle.construction_reader.specs.Said.{Object}
use Rattle.step_types.specs.declared.measure.Measure.{Measure}
use Rattle.step_types.specs.Outcome.{◌>>=◌}
use Rattle.step_types.specs.Measures.{joined, met, of_step, mixed, crossing, pascal}
use Rattle.step_types.specs.Forms.{measure_of, measure_at}
use Rattle.cayley_terms.specs.Instrs.{on_measure}

-- what is behind a step that may end early
pub some_then : {A B : Type 0} (o : Option A) (f : A → Option B) (y : B) → (o >>= f) ≡ Some y
    → (x : A) × ((o ≡ Some x) × (f x ≡ Some y))
some_then None f y e = absurd cc
some_then (Some x) f y e = (x, (refl, e))

pub some_same : {A : Type 0} (x y : A) → Some x ≡ Some y → x ≡ y
some_same x y e = cc

some_if : {A : Type 0} (b : Bool) (x y : A) → cond b (Some x) None ≡ Some y → (b ≡ true) × (x ≡ y)
some_if true x y e = (refl, cc)
some_if false x y e = absurd cc

pub both_true : (a b : Bool) → (a && b) ≡ true → (a ≡ true) × (b ≡ true)
both_true true b e = (refl, e)
both_true false b e = absurd cc

-- a join has a measure where its steps add up to less than the rank
pub joined_is : (d : ℕ) (a b m : Measure) → joined d a b ≡ Some m → (a.step + b.step < d)
    × (record { step = a.step + b.step; rows = a.rows + b.rows; degree = a.degree + b.degree } ≡ m)
unfolding joined
joined_is d a b m e =
    let two = some_if (nat_lt (a.step + b.step) d) _ m e in
    (ltb-true (a.step + b.step) d two.0, two.1)

-- a meet has one where they add up to more
pub met_is : (d : ℕ) (a b m : Measure) → met d a b ≡ Some m → (d < a.step + b.step)
    × (record { step = a.step + b.step - d; rows = a.rows + b.rows + 1; degree = a.degree + b.degree } ≡ m)
unfolding met
met_is d a b m e =
    let two = some_if (nat_lt d (a.step + b.step)) _ m e in
    (ltb-true d (a.step + b.step) two.0, two.1)

-- a point by two parameters has one of two points
pub mixed_is : (a b m : Measure) → mixed a b ≡ Some m → (a.step ≡ 1) × (b.step ≡ 1) × (on_measure a b ≡ m)
unfolding mixed
mixed_is a b m e =
    let two = some_if (a.step == 1 && b.step == 1) _ m e in
    let points = both_true (a.step == 1) (b.step == 1) two.0 in
    (eqb-true a.step 1 points.0, eqb-true b.step 1 points.1, two.1)

-- where the line through a and b meets the line through c and d
pub record Crosses (rank : ℕ) (a b c d m : Measure) : Type 0 where
  pub first : Measure
  pub second : Measure
  pub joined_first : joined rank a b ≡ Some first
  pub joined_second : joined rank c d ≡ Some second
  pub met_there : met rank first second ≡ Some m

pub crossing_is : (rank : ℕ) (a b c d m : Measure) → crossing rank a b c d ≡ Some m → Crosses rank a b c d m
unfolding crossing
crossing_is rank a b c d m e =
    let one = some_then (joined rank a b) _ m e in
    let two = some_then (joined rank c d) _ m one.1.1 in
    record {
      first = one.0;
      second = two.0;
      joined_first = one.1.0;
      joined_second = two.1.0;
      met_there = two.1.1;
    }

-- the crossings of Pascal's theorem
pub record Hexagon (rank : ℕ) (a b c d e q m : Measure) : Type 0 where
  pub x : Measure
  pub y : Measure
  pub z : Measure
  pub is_x : crossing rank a b d e ≡ Some x
  pub is_y : crossing rank a q c d ≡ Some y
  pub is_z : crossing rank b c x y ≡ Some z
  pub last : crossing rank a q e z ≡ Some m

pub pascal_is : (rank : ℕ) (a b c d e q m : Measure) → pascal rank a b c d e q ≡ Some m → Hexagon rank a b c d e q m
unfolding pascal
pascal_is rank a b c d e q m h =
    let x = some_then (crossing rank a b d e) _ m h in
    let y = some_then (crossing rank a q c d) _ m x.1.1 in
    let z = some_then (crossing rank b c x.0 y.0) _ m y.1.1 in
    record { x = x.0; y = y.0; z = z.0; is_x = x.1.0; is_y = y.1.0; is_z = z.1.0; last = z.1.1 }

pub of_step_is : (step : ℕ) (a m : Measure) → of_step step a ≡ Some m → (a.step ≡ step) × (a ≡ m)
unfolding of_step
of_step_is step a m e =
    let two = some_if (a.step == step) a m e in
    (eqb-true a.step step two.0, two.1)

-- the parts of an object that has a measure
pub join_parts : (d : ℕ) (made : List (List ℕ × Measure)) (a b : Object) (m : Measure)
    → measure_of d made (Object.Join a b) ≡ Some m → (x : Measure) × ((measure_of d made a ≡ Some x)
    × ((y : Measure) × ((measure_of d made b ≡ Some y) × (joined d x y ≡ Some m))))
unfolding measure_of
join_parts d made a b m e =
    let first = some_then (measure_of d made a) _ m e in
    let second = some_then (measure_of d made b) _ m first.1.1 in
    (first.0, (first.1.0, (second.0, (second.1.0, second.1.1))))

pub meet_parts : (d : ℕ) (made : List (List ℕ × Measure)) (a b : Object) (m : Measure)
    → measure_of d made (Object.Meet a b) ≡ Some m → (x : Measure) × ((measure_of d made a ≡ Some x)
    × ((y : Measure) × ((measure_of d made b ≡ Some y) × (met d x y ≡ Some m))))
unfolding measure_of
meet_parts d made a b m e =
    let first = some_then (measure_of d made a) _ m e in
    let second = some_then (measure_of d made b) _ m first.1.1 in
    (first.0, (first.1.0, (second.0, (second.1.0, second.1.1))))

-- an object of this step
pub at_step : (d : ℕ) (made : List (List ℕ × Measure)) (step : ℕ) (o : Object) (m : Measure)
    → measure_at d made step o ≡ Some m → (measure_of d made o ≡ Some m) × (m.step ≡ step)
unfolding measure_at
at_step d made step o m e =
    let one = some_then (measure_of d made o) (of_step step) m e in
    let is_step = of_step_is step one.0 m one.1.1 in
    (one.1.0 ∙ ap Some is_step.1, ap (λ x. x.step) (sym is_step.1) ∙ is_step.0)
