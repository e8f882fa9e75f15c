-- What a program gives at a placement.
use Rattle.std.specs.Prelude.{◌≡◌, ℕ, ◌<◌, ℤ, List, [], ◌∷◌, ◌++◌, length, slice_index_or, Option, None}
use Rattle.std.specs.Prelude.{Contains}
use Rattle.std.specs.List.{AllByRecursion}
use Rattle.cayley_terms.specs.declared.instr.Instr.{Instr}
use Rattle.cayley_terms.specs.declared.instr.Instr.TheVariants.{Free, Join, Meet, On, Conic}
use Rattle.cayley_terms.specs.declared.program.Program.{Program}
use Rattle.placement.specs.declared.fault.PlaceFault.{PlaceFault}
use Rattle.placement.specs.declared.fault.PlaceFault.TheVariants.{Coefficient, Memory}
use Rattle.placement.specs.declared.program_values.Placed.{Placed}
use Rattle.placement.specs.Figures.{values, numbers}

-- the numbers are there for what the instruction names: d coordinates for the point, and the parameters
abbrev pub IsGiven : ℕ → List (List ℤ) → List ℤ → Instr → Type 0
IsGiven d points params (Free i) = (i < length points) × (length (slice_index_or points i []) ≡ d)
IsGiven d points params (Join a b) = Unit {0}
IsGiven d points params (Meet a b) = Unit {0}
IsGiven d points params (On a b s t) = (s < length params) × (t < length params)
IsGiven d points params (Conic p1 p2 p3 p4 p5 p6) = Unit {0}

-- each free point has as many coordinates as the rank says, and each parameter has a number
abbrev pub IsPlacementOf : Program → List (List ℤ) → List ℤ → Type 0
IsPlacementOf p points params = AllByRecursion (IsGiven p.rank points params) p.instrs

-- the coordinates of what each instruction makes but the last, and of the last the conclusion's value
abbrev pub HasValues : Program → List (List ℤ) → List ℤ → List (List ℤ) → ℤ → Type 0
HasValues p points params objects conclusion = objects ++ (conclusion ∷ []) ∷ [] ≡ values p points params

-- the answer has the values of the program
abbrev pub HasValuesOf : Program → List (List ℤ) → List ℤ → Placed → Type 0
HasValuesOf p points params placed = HasValues p points params placed.objects placed.conclusion

-- the coordinates of what an instruction makes, within the limit
abbrev pub numbers_at : Program → List (List ℤ) → List ℤ → ℕ → List (Option ℤ)
numbers_at p points params n = slice_index_or (numbers p points params) n []

-- no number that is computed passes the limit
abbrev pub StaysWithin : Program → List (List ℤ) → List ℤ → Type 0
StaysWithin p points params = (n : ℕ) → Contains (numbers_at p points params n) None → ⊥

-- the instructions of which the first n compute no number that passes the limit, and the next one does, on this line
pub record PassesAt (p : Program) (points : List (List ℤ)) (params : List ℤ) (line : ℕ) : Type 0 where
  pub number : ℕ
  pub within : number < length p.instrs
  pub line_of : slice_index_or p.lines number 0 ≡ line
  pub passes : Contains (numbers_at p points params number) None
  pub first : (m : ℕ) → m < number → Contains (numbers_at p points params m) None → ⊥

-- a fault that is not of memory names the line of the first instruction with a number that passes the limit
abbrev pub TellsLine : Program → List (List ℤ) → List ℤ → PlaceFault → Type 0
TellsLine p points params (Coefficient line) = PassesAt p points params line
TellsLine p points params Memory = Unit {0}
