-- Straight lists that are programs.
use Rattle.std.specs.Prelude.{◌≡◌, ℕ, ◌+◌, ◌^◌, ◌<◌, ◌≤◌, List, [], ◌∷◌, ◌++◌, map, length, Option}
use Rattle.std.specs.Coded.{le_prop, Coded-set, coded_list, coded_ℕ}
use Rattle.std.proofs.Math.Nat.{ℕ_set}
use Rattle.std.specs.List.{AllByRecursion, AllByRecursion-prop}
use Rattle.coordinate_model.specs.Sequences.{IsRank}
use Rattle.step_types.specs.declared.measure.Measure.{Measure}
use Rattle.step_types.specs.Good.{IsSized}
use Rattle.cayley_terms.specs.declared.instr.Instr.{Instr}
use Rattle.cayley_terms.specs.declared.instr.Instr.TheVariants.{Free, Join, Meet, On, Conic}
use Rattle.cayley_terms.specs.Instrs.{measure_at, instr_measure, measures}

-- the numbers of instructions that an instruction names
abbrev pub operands : Instr → List ℕ
operands (Free i) = []
operands (Join a b) = a ∷ b ∷ []
operands (Meet a b) = a ∷ b ∷ []
operands (On a b s t) = a ∷ b ∷ []
operands (Conic p1 p2 p3 p4 p5 p6) = p1 ∷ p2 ∷ p3 ∷ p4 ∷ p5 ∷ p6 ∷ []

-- it names earlier instructions alone
abbrev pub NamesEarlier : List Measure → Instr → Type 0
NamesEarlier before instr = AllByRecursion (λ n. n < length before) (operands instr)

-- the sum of the steps of two earlier ones
abbrev pub steps_together : List Measure → ℕ → ℕ → ℕ
steps_together before a b = (measure_at before a).step + (measure_at before b).step

-- the steps are as an instruction requires that makes a point, a line or a plane
abbrev pub HasStepsWithin : ℕ → List Measure → Instr → Type 0
HasStepsWithin d before (Free i) = i < 200
HasStepsWithin d before (Join a b) = steps_together before a b < d
HasStepsWithin d before (Meet a b) = d < steps_together before a b
HasStepsWithin d before (On a b s t) =
    ((measure_at before a).step ≡ 1) × ((measure_at before b).step ≡ 1) × (s < 64) × (t < 64)
HasStepsWithin d before (Conic p1 p2 p3 p4 p5 p6) = ⊥

-- the steps are as the conclusion requires: two that add up to the rank, or six points of rank 3
abbrev pub HasStepsAtEnd : ℕ → List Measure → Instr → Type 0
HasStepsAtEnd d before (Free i) = ⊥
HasStepsAtEnd d before (Join a b) = steps_together before a b ≡ d
HasStepsAtEnd d before (Meet a b) = steps_together before a b ≡ d
HasStepsAtEnd d before (On a b s t) = ⊥
HasStepsAtEnd d before (Conic p1 p2 p3 p4 p5 p6) =
    (d ≡ 3) × AllByRecursion (λ n. (measure_at before n).step ≡ 1) (operands (Conic p1 p2 p3 p4 p5 p6))

-- an instruction that makes a point, a line or a plane, behind those of these measures
pub record IsInner (d : ℕ) (before : List Measure) (instr : Instr) : Type 0 where
  pub earlier : NamesEarlier before instr
  pub steps : HasStepsWithin d before instr
  pub sized : IsSized d (instr_measure d before instr)

-- the conclusion, behind instructions of these measures
pub record IsLast (d : ℕ) (before : List Measure) (instr : Instr) : Type 0 where
  pub earlier : NamesEarlier before instr
  pub steps : HasStepsAtEnd d before instr
  pub rows : (instr_measure d before instr).rows ≤ 64
  pub degree : (instr_measure d before instr).degree ≤ 1000

-- behind those of these measures come instructions that make points, lines and planes, and then the conclusion
abbrev pub EndsInOne : ℕ → List Measure → List Instr → Type 0
EndsInOne d before [] = ⊥
EndsInOne d before (instr ∷ []) = IsLast d before instr
EndsInOne d before (instr ∷ next ∷ instrs) =
    IsInner d before instr × EndsInOne d (before ++ instr_measure d before instr ∷ []) (next ∷ instrs)

-- a program of rank d: its instructions, their steps, the lines of their statements, and for each that ends a
-- definition the definition's number
pub record IsProgram (d : ℕ) (instrs : List Instr) (steps lines : List ℕ) (defined : List (Option ℕ)) : Type 0 where
  pub rank : IsRank d
  pub few : length instrs < 2 ^ 32
  pub each : EndsInOne d [] instrs
  pub stepped : steps ≡ map (λ m. m.step) (measures d instrs)
  pub lined : length lines ≡ length instrs
  pub marked : length defined ≡ length instrs

-- ---- all this is so in one way at most

at_most : (n : ℕ) (before : List Measure) (ns : List ℕ) → IsProp (AllByRecursion (λ n. n < length before) ns)
at_most n before ns = AllByRecursion-prop (λ n. n < length before) (λ n. le_prop) ns

within-prop : (d : ℕ) (before : List Measure) (instr : Instr) → IsProp (HasStepsWithin d before instr)
within-prop d before (Free i) = le_prop
within-prop d before (Join a b) = le_prop
within-prop d before (Meet a b) = le_prop
within-prop d before (On a b s t) = hlevel (ℕ_set, le_prop)
within-prop d before (Conic p1 p2 p3 p4 p5 p6) = λ x y. absurd x

end-prop : (d : ℕ) (before : List Measure) (instr : Instr) → IsProp (HasStepsAtEnd d before instr)
end-prop d before (Free i) = λ x y. absurd x
end-prop d before (Join a b) = ℕ_set _ _
end-prop d before (Meet a b) = ℕ_set _ _
end-prop d before (On a b s t) = λ x y. absurd x
end-prop d before (Conic p1 p2 p3 p4 p5 p6) = hlevel ℕ_set

inner-prop : (d : ℕ) (before : List Measure) (instr : Instr) → IsProp (IsInner d before instr)
inner-prop d before instr = hlevel (at_most 0 before (operands instr), within-prop d before instr, le_prop)

last-prop : (d : ℕ) (before : List Measure) (instr : Instr) → IsProp (IsLast d before instr)
last-prop d before instr = hlevel (at_most 0 before (operands instr), end-prop d before instr, le_prop)

ends-prop : (d : ℕ) (before : List Measure) (instrs : List Instr) → IsProp (EndsInOne d before instrs)
ends-prop d before [] = λ x y. absurd x
ends-prop d before (instr ∷ []) = last-prop d before instr
ends-prop d before (instr ∷ next ∷ instrs) =
    hlevel (
      inner-prop d before instr,
      ends-prop d (before ++ instr_measure d before instr ∷ []) (next ∷ instrs),
    )

-- a program is one in one way
pub IsProgram-prop : (d : ℕ) (instrs : List Instr) (steps lines : List ℕ) (defined : List (Option ℕ))
    → IsProp (IsProgram d instrs steps lines defined)
IsProgram-prop d instrs steps lines defined =
    hlevel (ℕ_set, le_prop, ends-prop d [] instrs, Coded-set (coded_list coded_ℕ))
