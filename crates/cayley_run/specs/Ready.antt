-- What must hold before an instruction is run: of the values so far, of their steps, and of its starts.
use Rattle.std.specs.Prelude.{◌≡◌, ℕ, Ok, [], ◌∷◌, ◌+◌, ◌-◌, ◌<◌, ◌≤◌, T, List, map, length, slice_index_or}
use Rattle.std.specs.FinMap.{is_sorted}
use Rattle.std.specs.List.{AllByRecursion}
use Rattle.coordinate_model.specs.Key.{row_cmp}
use Rattle.coordinate_model.specs.Starts.{Entry, Product}
use Rattle.coordinate_model.specs.Value.{Value}
use Rattle.bracket_poly.specs.Products.{HasDegree}
use Rattle.bracket_poly.specs.Sections.{Rewritten}
use Rattle.bracket_poly.specs.Tracked.{Tracked}
use Rattle.bracket_poly.specs.Values.{extensor_size}
use Rattle.cayley_terms.specs.declared.instr.Instr.{Instr}
use Rattle.cayley_terms.specs.declared.instr.Instr.TheVariants.{Free, Join, Meet, On, Conic}
use Rattle.cayley_terms.specs.Starts.{products_of, value_at}
use Rattle.cayley_terms.specs.Starts as operation
use Rattle.conic_points.specs.Makings.{made_of}
use Rattle.shuffle_meet.specs.Stops.{tracked_entries, Start}

-- no exponent of the starts passes 1,000
abbrev pub AreSmall : List Start → Type 0
AreSmall starts = AllByRecursion (λ start. HasDegree 1000 start.1.sum) starts

-- the step of the value of this number
abbrev pub step_at : List ℕ → ℕ → ℕ
step_at steps n = slice_index_or steps n 0

-- a value of a point, a line or a plane of rank d
pub record IsOperand (d : ℕ) (steps : List ℕ) (n : ℕ) : Type 0 where
  pub earlier : n < length steps
  pub least : 1 ≤ step_at steps n
  pub below : step_at steps n < d

-- two values, and products of them of which no start passes the degree
pub record ArePair (d : ℕ) (steps : List ℕ) (a b : ℕ) (products : List Product) : Type 0 where
  pub first : IsOperand d steps a
  pub second : IsOperand d steps b
  pub small : AreSmall (tracked_entries products)

-- two values that are joined, and the step of their join
pub record IsJoin (d : ℕ) (steps : List ℕ) (values : List Value) (a b made : ℕ) : Type 0 where
  pub pair : ArePair d steps a b (products_of operation.Join d values a b)
  pub few : step_at steps a + step_at steps b ≤ d
  pub step : made ≡ step_at steps a + step_at steps b

-- two values that meet, and the step of their meet
pub record IsMeet (d : ℕ) (steps : List ℕ) (values : List Value) (a b made : ℕ) : Type 0 where
  pub pair : ArePair d steps a b (products_of operation.Meet d values a b)
  pub many : d ≤ step_at steps a + step_at steps b
  pub step : made ≡ step_at steps a + step_at steps b - d

-- two points, of which one is made by the parameters s and t
pub record IsMixed (d : ℕ) (steps : List ℕ) (values : List Value) (a b s t made : ℕ) : Type 0 where
  pub pair : ArePair d steps a b (products_of (operation.On s t) d values a b)
  pub first : step_at steps a ≡ 1
  pub second : step_at steps b ≡ 1
  pub first_parameter : s < 64
  pub second_parameter : t < 64
  pub step : made ≡ 1

-- a point of this number
pub record IsPoint (steps : List ℕ) (n : ℕ) : Type 0 where
  pub earlier : n < length steps
  pub one : step_at steps n ≡ 1

-- six points of rank 3, of which the six-point polynomial has no exponent above 1,000
pub record IsConic (d : ℕ) (steps : List ℕ) (values : List Value) (six : List ℕ) (made : ℕ) : Type 0 where
  pub rank : d ≡ 3
  pub points : AllByRecursion (IsPoint steps) six
  pub small : (start : Tracked) → made_of (map (value_at values) six) ≡ Ok start → HasDegree 1000 start.sum
  pub step : made ≡ 0

-- the instruction makes something of this step
abbrev pub Makes : ℕ → List ℕ → List Value → Instr → ℕ → Type 0
Makes d steps values (Free i) step = step ≡ 1
Makes d steps values (Join a b) step = IsJoin d steps values a b step
Makes d steps values (Meet a b) step = IsMeet d steps values a b step
Makes d steps values (On a b s t) step = IsMixed d steps values a b s t step
Makes d steps values (Conic p1 p2 p3 p4 p5 p6) step = IsConic d steps values (p1 ∷ p2 ∷ p3 ∷ p4 ∷ p5 ∷ p6 ∷ []) step

-- the instruction can be run behind these values, which have these steps
pub record IsReady (d : ℕ) (steps : List ℕ) (values : List Value) (instr : Instr) (step : ℕ) : Type 0 where
  pub small : AllByRecursion (λ v. AllByRecursion (λ e. HasDegree 1000 e.1) v) values
  pub makes : Makes d steps values instr step

-- the extensor of a section with its start
abbrev pub start_entry : Rewritten → Entry
start_entry s = (s.scalar, s.start)

-- sections of an object of rank d and this step: their extensors strictly ascend, and have their number of points
pub record AreSections (d step : ℕ) (sections : List Rewritten) : Type 0 where
  pub sizes : AllByRecursion (λ s. length s.scalar ≡ extensor_size d step) sections
  pub ascending : T (is_sorted row_cmp (map start_entry sections))
