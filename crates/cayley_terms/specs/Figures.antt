-- Objects of the Grassmann-Cayley algebra with their steps (Sturmfels, Algorithms in Invariant Theory, section 3.3),
-- over the operations of any ring.
use Rattle.std.specs.Prelude.{ℕ, ◌+◌, ◌-◌, ◌==◌, if◌then◌else◌, List, [], ◌∷◌, fold}
use Rattle.coordinate_model.specs.Ring.{Ops}
use Rattle.coordinate_model.specs.Sequences.{columns}
use Rattle.coordinate_model.specs.Brackets.{Point, Coords, of_point, join, meet, on, six_point, join_bracket}

module _ (R : Ops) where
  -- an object: its step and its coordinates
  pub record Figure : Type 0 where
    pub step : ℕ
    pub coordinates : Coords R

  -- what stands where nothing is meant
  abbrev pub no_figure : Figure
  no_figure = record { step = 0; coordinates = λ K. R.𝟘 }

  -- a point
  abbrev pub point : Point R → Figure
  point p = record { step = 1; coordinates = of_point R p }

  -- the join of two
  abbrev pub joined : Figure → Figure → Figure
  joined a b = record { step = a.step + b.step; coordinates = join R a.step a.coordinates b.coordinates }

  -- the meet of two in rank d
  abbrev pub met : ℕ → Figure → Figure → Figure
  met d a b =
      record { step = a.step + b.step - d; coordinates = meet R d a.step b.step a.coordinates b.coordinates }

  -- the point s * a + t * b of two points
  abbrev pub mixed : R.carrier → R.carrier → Figure → Figure → Figure
  mixed s t a b = record { step = 1; coordinates = on R s t a.coordinates b.coordinates }

  -- the second point on the line through a and q of the conic through the points a to e, by Pascal's theorem: the
  -- points where opposite sides of a hexagon on a conic meet are on a line
  abbrev pub pascal : ℕ → (a b c d e q : Figure) → Figure
  pascal rank a b c d e q =
      let l = joined a q in
      let x = met rank (joined a b) (joined d e) in
      let y = met rank l (joined c d) in
      let z = met rank (joined b c) (joined x y) in
      met rank l (joined e z)

  -- what f makes of the objects, from the left
  abbrev pub from_left : (Figure → Figure → Figure) → List Figure → Figure
  from_left f [] = no_figure
  from_left f (a ∷ others) = fold f a others

  -- the six-point polynomial of six points, as an object of step 0
  abbrev pub conic : (p1 p2 p3 p4 p5 p6 : Figure) → Figure
  conic p1 p2 p3 p4 p5 p6 =
      record {
        step = 0;
        coordinates =
            λ K. six_point R (join_bracket R) p1.coordinates p2.coordinates p3.coordinates p4.coordinates p5.coordinates
            p6.coordinates;
      }

  -- the one coordinate of an object of step 0, at no columns, or of step d, at all columns
  abbrev pub scalar : ℕ → Figure → R.carrier
  scalar d a = a.coordinates (if a.step == 0 then [] else columns d)
