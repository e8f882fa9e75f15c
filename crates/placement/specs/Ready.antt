-- What an instruction needs of the steps of the earlier ones.
use Rattle.std.specs.Prelude.{◌≡◌, ℕ, ◌+◌, ◌<◌, ◌≤◌, List, [], ◌∷◌, length, map, slice_index_or, ℤ, Option, Result}
use Rattle.std.specs.Prelude.{Some, Vec}
use Rattle.std.specs.List.{AllByRecursion}
use Rattle.coordinate_model.specs.Sequences.{subsets}
use Rattle.coordinate_model.specs.Limited.{Limited}
use Rattle.cayley_terms.specs.Figures.{Figure, no_figure}
use Rattle.cayley_terms.specs.declared.program.Program.{Program}
use Rattle.placement.specs.Numbers.{Holds, MakesNumbers}
use Rattle.placement.specs.Figures.{coordinates_of, figures_before, made_of}
use Rattle.cayley_terms.specs.declared.instr.Instr.{Instr}
use Rattle.cayley_terms.specs.declared.instr.Instr.TheVariants.{Free, Join, Meet, On, Conic}

-- the step of the instruction of this number
abbrev pub step_at : List ℕ → ℕ → ℕ
step_at steps k = slice_index_or steps k 0

-- one of the first n instructions, which makes a point, a line or a plane of rank d
pub record IsOperand (d : ℕ) (steps : List ℕ) (n k : ℕ) : Type 0 where
  pub earlier : k < n
  pub least : 1 ≤ step_at steps k
  pub below : step_at steps k < d

-- one of the first n instructions, which makes a point
abbrev pub IsPoint : List ℕ → ℕ → ℕ → Type 0
IsPoint steps n k = (k < n) × (step_at steps k ≡ 1)

-- the instruction can make its object of those of the first n
abbrev pub CanMake : ℕ → List ℕ → ℕ → Instr → Type 0
CanMake d steps n (Free i) = Unit {0}
CanMake d steps n (Join a b) =
    IsOperand d steps n a × IsOperand d steps n b × (step_at steps a + step_at steps b ≤ d)
CanMake d steps n (Meet a b) =
    IsOperand d steps n a × IsOperand d steps n b × (d ≤ step_at steps a + step_at steps b)
CanMake d steps n (On a b s t) = IsPoint steps n a × IsPoint steps n b
CanMake d steps n (Conic p1 p2 p3 p4 p5 p6) =
    (d ≡ 3) × AllByRecursion (IsPoint steps n) (p1 ∷ p2 ∷ p3 ∷ p4 ∷ p5 ∷ p6 ∷ [])

-- each object has a coordinate for each set of as many columns as its step says
abbrev pub AreSized : ℕ → List ℕ → List (List ℤ) → Type 0
AreSized d steps objects =
    (k : ℕ) → k < length objects → length (slice_index_or objects k []) ≡ length (subsets d (step_at steps k))

-- the objects have these steps, and the coordinates of these figures
pub record AreMade (d : ℕ) (steps : List ℕ) (objects : List (List ℤ)) (figures : List (Figure Limited)) : Type 0 where
  pub steps_of : (k : ℕ) → k < length objects → step_at steps k ≡ (slice_index_or figures k (no_figure Limited)).step
  pub coordinates : (k : ℕ) → k < length objects
      → Holds d (step_at steps k) (slice_index_or figures k (no_figure Limited)).coordinates
      (slice_index_or objects k [])

-- the objects are what the first n instructions make, and no number passes the limit
abbrev pub AreSoFar : Program → List (List ℤ) → List ℤ → ℕ → List (List ℤ) → Type 0
AreSoFar p points params n objects =
    map (λ zs. map (λ z. Some z) zs) objects ≡ map (coordinates_of Limited p.rank) (figures_before p n points params)

-- whatever figures the objects are of, the answer has the numbers of what the instruction makes of them
abbrev pub Makes : {Z E : Type 0} → ℕ → List ℕ → List (List ℤ) → List (List ℤ) → List ℤ → Instr
    → Result (Option (Vec ℤ Z)) E → Type 0
Makes d steps objects points params i result =
    (figures : List (Figure Limited)) → AreMade d steps objects figures
    → MakesNumbers (made_of d points params figures i) result
