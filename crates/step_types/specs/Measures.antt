-- The step, rows and degree of each form, and the steps that it requires.
use Rattle.std.specs.Prelude.{ℕ, ◌+◌, ◌-◌, ◌*◌, max, ◌&&◌, ◌==◌, nat_lt, Option, Some, None, if◌then◌else◌}
use Rattle.construction_reader.specs.declared.types.ObjectKind.{ObjectKind}
use Rattle.construction_reader.specs.declared.types.ObjectKind.TheVariants.{Point, Line, Plane}
use Rattle.step_types.specs.declared.measure.Measure.{Measure}
use Rattle.step_types.specs.Outcome.{◌>>=◌}

-- how large its numbers are together, and one more: what sums of measures need room for
abbrev pub weight : Measure → ℕ
weight m = m.step + m.rows + m.degree + 1

-- a free point
abbrev pub free_point : Measure
free_point = record { step = 1; rows = 0; degree = 0 }

-- the join of two, where their steps add up to less than the rank
unfoldable pub joined : ℕ → Measure → Measure → Option Measure
joined rank a b =
    if nat_lt (a.step + b.step) rank
    then Some (record { step = a.step + b.step; rows = a.rows + b.rows; degree = a.degree + b.degree })
    else None

-- the meet of two, where their steps add up to more than the rank
unfoldable pub met : ℕ → Measure → Measure → Option Measure
met rank a b =
    if nat_lt rank (a.step + b.step)
    then Some (record { step = a.step + b.step - rank; rows = a.rows + b.rows + 1; degree = a.degree + b.degree })
    else None

-- the measure, where it is of this step
unfoldable pub of_step : ℕ → Measure → Option Measure
of_step step m = if m.step == step then Some m else None

-- a point on the line through two points, by two parameters
unfoldable pub mixed : Measure → Measure → Option Measure
mixed a b =
    if a.step == 1 && b.step == 1
    then Some (record { step = 1; rows = max a.rows b.rows; degree = max a.degree b.degree + 1 })
    else None

-- where the line through a and b meets the line through c and d
unfoldable pub crossing : ℕ → Measure → Measure → Measure → Measure → Option Measure
crossing rank a b c d = do
  first ← joined rank a b
  second ← joined rank c d
  met rank first second

-- the second point of the conic through the points a to e on the line through a and q: Pascal's theorem as joins
-- and meets
unfoldable pub pascal : ℕ → Measure → Measure → Measure → Measure → Measure → Measure → Option Measure
pascal rank a b c d e q = do
  x ← crossing rank a b d e
  y ← crossing rank a q c d
  z ← crossing rank b c x y
  crossing rank a q e z

-- rows and degree of both, added up
abbrev pub both : Measure → Measure → Measure
both a b = record { step = b.step; rows = a.rows + b.rows; degree = a.degree + b.degree }

-- no rows and no degree, at this step
abbrev pub none_of : ℕ → Measure
none_of step = record { step = step; rows = 0; degree = 0 }

-- the measure at this step, with so many rows more
abbrev pub with_rows : ℕ → ℕ → Measure → Measure
with_rows step more m = record { step = step; rows = m.rows + more; degree = m.degree }

-- the two products of four brackets that tell whether six points are on a conic
abbrev pub conic : Measure → Measure
conic m = record { step = 0; rows = 2 * m.rows + 4; degree = 2 * m.degree }

-- the step of a point, a line and a plane
abbrev pub kind_step : ObjectKind → ℕ
kind_step Point = 1
kind_step Line = 2
kind_step Plane = 3
