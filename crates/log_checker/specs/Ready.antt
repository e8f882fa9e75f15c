-- What must hold before an object is made: of the values of earlier instructions, and of their steps.
use Rattle.std.specs.Prelude.{◌≡◌, ℕ, [], ◌∷◌, ◌+◌, ◌-◌, ◌<◌, ◌≤◌, T, List, length, slice_index_or}
use Rattle.std.specs.FinMap.{is_sorted}
use Rattle.std.specs.List.{AllByRecursion}
use Rattle.coordinate_model.specs.Key.{row_cmp}
use Rattle.coordinate_model.specs.Value.{Value}
use Rattle.bracket_terms.specs.declared.extensor.Extensor.{Extensor}
use Rattle.bracket_poly.specs.Kept.{TrackedOf}
use Rattle.bracket_poly.specs.Products.{HasDegree}
use Rattle.bracket_poly.specs.Values.{extensor_size, value_of}
use Rattle.cayley_terms.specs.declared.instr.Instr.{Instr}
use Rattle.cayley_terms.specs.declared.instr.Instr.TheVariants.{Free, Join, Meet, On, Conic}

-- no exponent of the value passes 1,000
abbrev pub IsSmall : Value → Type 0
IsSmall v = AllByRecursion (λ e. HasDegree 1000 e.1) v

-- the step of the value of this number
abbrev pub step_at : List ℕ → ℕ → ℕ
step_at steps n = slice_index_or steps n 0

-- a value of a point, a line or a plane of rank d
pub record IsOperand (d : ℕ) (steps : List ℕ) (n : ℕ) : Type 0 where
  pub earlier : n < length steps
  pub least : 1 ≤ step_at steps n
  pub below : step_at steps n < d

-- two such values
pub record ArePair (d : ℕ) (steps : List ℕ) (a b : ℕ) : Type 0 where
  pub first : IsOperand d steps a
  pub second : IsOperand d steps b

-- two values that are joined, and the step of their join
pub record IsJoin (d : ℕ) (steps : List ℕ) (a b made : ℕ) : Type 0 where
  pub pair : ArePair d steps a b
  pub few : step_at steps a + step_at steps b ≤ d
  pub step : made ≡ step_at steps a + step_at steps b

-- two values that meet, and the step of their meet
pub record IsMeet (d : ℕ) (steps : List ℕ) (a b made : ℕ) : Type 0 where
  pub pair : ArePair d steps a b
  pub many : d ≤ step_at steps a + step_at steps b
  pub step : made ≡ step_at steps a + step_at steps b - d

-- two points, of which one is made by the parameters s and t
pub record IsMixed (d : ℕ) (steps : List ℕ) (a b s t made : ℕ) : Type 0 where
  pub pair : ArePair d steps a b
  pub first : step_at steps a ≡ 1
  pub second : step_at steps b ≡ 1
  pub first_parameter : s < 64
  pub second_parameter : t < 64
  pub step : made ≡ 1

-- a point of this number
pub record IsPoint (steps : List ℕ) (n : ℕ) : Type 0 where
  pub earlier : n < length steps
  pub one : step_at steps n ≡ 1

-- six points of rank 3
pub record IsConic (d : ℕ) (steps six : List ℕ) (made : ℕ) : Type 0 where
  pub rank : d ≡ 3
  pub points : AllByRecursion (IsPoint steps) six
  pub step : made ≡ 0

-- the instruction makes something of this step
abbrev pub Makes : ℕ → List ℕ → Instr → ℕ → Type 0
Makes d steps (Free i) step = step ≡ 1
Makes d steps (Join a b) step = IsJoin d steps a b step
Makes d steps (Meet a b) step = IsMeet d steps a b step
Makes d steps (On a b s t) step = IsMixed d steps a b s t step
Makes d steps (Conic p1 p2 p3 p4 p5 p6) step = IsConic d steps (p1 ∷ p2 ∷ p3 ∷ p4 ∷ p5 ∷ p6 ∷ []) step

-- the object of the instruction can be made of these values, which have these steps
pub record IsReady (d : ℕ) (steps : List ℕ) (values : List Value) (instr : Instr) (step : ℕ) : Type 0 where
  pub small : AllByRecursion IsSmall values
  pub makes : Makes d steps instr step

-- the extensors of entries are those of an object of rank d and this step, and strictly ascend
pub record AreScalars (d step : ℕ) (v : Value) : Type 0 where
  pub within : step ≤ d
  pub sizes : AllByRecursion (λ e. length e.0 ≡ extensor_size d step) v
  pub ascending : T (is_sorted row_cmp v)

-- and so are those of starts of the code
abbrev pub AreStarts : (d step : ℕ) → List (Extensor × TrackedOf d) → Type 0
AreStarts d step starts = AreScalars d step (value_of starts)
