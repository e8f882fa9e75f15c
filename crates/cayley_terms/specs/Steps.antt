-- The steps of what instructions make, by the steps of the earlier ones.
use Rattle.std.specs.Prelude.{ℕ, ◌+◌, ◌-◌, ◌^◌, ◌<◌, ◌≤◌, List, length, slice_index}
use Rattle.cayley_terms.specs.declared.instr.Instr.{Instr}
use Rattle.cayley_terms.specs.declared.instr.Instr.TheVariants.{Free, Join, Meet, On, Conic}

-- the step of what an instruction makes in rank d
abbrev pub step_made : ℕ → List ℕ → Instr → ℕ
step_made d before (Free i) = 1
step_made d before (Join a b) = slice_index before a + slice_index before b
step_made d before (Meet a b) = slice_index before a + slice_index before b - d
step_made d before (On a b s t) = 1
step_made d before (Conic p1 p2 p3 p4 p5 p6) = 0

-- both are earlier ones, and their steps add up within a byte
pub record HasRoomFor (before : List ℕ) (a b : ℕ) : Type 0 where
  pub first : a < length before
  pub second : b < length before
  pub fits : slice_index before a + slice_index before b < 2 ^ 8

-- the step can be computed
abbrev pub IsComputed : ℕ → List ℕ → Instr → Type 0
IsComputed d before (Free i) = Unit {0}
IsComputed d before (Join a b) = HasRoomFor before a b
IsComputed d before (Meet a b) = HasRoomFor before a b × (d ≤ slice_index before a + slice_index before b)
IsComputed d before (On a b s t) = Unit {0}
IsComputed d before (Conic p1 p2 p3 p4 p5 p6) = Unit {0}
