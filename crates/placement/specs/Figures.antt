-- What the instructions of a program make at a placement: in unbounded integers, and within the limit, in the order in
-- which it is computed.
use Rattle.std.specs.Prelude.{ℕ, ◌+◌, ◌-◌, ℤ, pos, Some, Option, List, [], map, take, slice_index_or}
use Rattle.coordinate_model.specs.Ring.{Ops, Integers}
use Rattle.coordinate_model.specs.Sequences.{subsets}
use Rattle.coordinate_model.specs.Brackets.{Coords}
use Rattle.coordinate_model.specs.Polynomial.{Variable, coordinate, parameter}
use Rattle.coordinate_model.specs.Limited.{Limited}
use Rattle.coordinate_model.specs.InOrder.{join_in_order, meet_in_order, conic_in_order}
use Rattle.coordinate_model.specs.PlacedPoints.{placed, placed_within}
use Rattle.cayley_terms.specs.declared.instr.Instr.{Instr}
use Rattle.cayley_terms.specs.declared.instr.Instr.TheVariants.{Free, Join, Meet, On, Conic}
use Rattle.cayley_terms.specs.declared.program.Program.{Program}
use Rattle.cayley_terms.specs.Figures.{Figure, point, mixed}
use Rattle.cayley_terms.specs.Meaning.{Frame}
use Rattle.cayley_terms.specs.Values.{At}
use Rattle.cayley_terms.specs.Instrs.{made_behind, figure_at, figures}

-- an object's coordinates, by the sets of columns in lexicographic order
abbrev pub coordinates_of : (R : Ops) → ℕ → Figure R → List R.carrier
coordinates_of R d x = map x.coordinates (subsets d x.step)

module _ (F : Frame) where
  -- the object that an instruction makes in rank d, computed in order
  abbrev pub instr_in_order : ℕ → List (Figure F.ring) → Instr → Figure F.ring
  instr_in_order d before (Free i) = point F.ring (F.free i)
  instr_in_order d before (Join a b) =
      let x = figure_at F before a in
      let y = figure_at F before b in
      record { step = x.step + y.step; coordinates = join_in_order F.ring x.step x.coordinates y.coordinates }
  instr_in_order d before (Meet a b) =
      let x = figure_at F before a in
      let y = figure_at F before b in
      record {
        step = x.step + y.step - d;
        coordinates = meet_in_order F.ring d x.step y.step x.coordinates y.coordinates;
      }
  instr_in_order d before (On a b s t) =
      mixed F.ring (F.param s) (F.param t) (figure_at F before a) (figure_at F before b)
  instr_in_order d before (Conic p1 p2 p3 p4 p5 p6) =
      let at : ℕ → Coords F.ring = λ n. (figure_at F before n).coordinates in
      record { step = 0; coordinates = λ K. conic_in_order F.ring (at p1) (at p2) (at p3) (at p4) (at p5) (at p6) }

  -- the objects that the instructions make in rank d, computed in order
  abbrev pub figures_in_order : ℕ → List Instr → List (Figure F.ring)
  figures_in_order d instrs = made_behind (instr_in_order d) [] instrs

-- the coordinates of the free points and the parameters, by their numbers
abbrev pub number_at : List (List ℤ) → List ℤ → Variable → ℤ
number_at points params (coordinate i j) = placed (slice_index_or points i []) j
number_at points params (parameter k) = slice_index_or params k (pos 0)

-- the integers at a placement
abbrev pub Placement : List (List ℤ) → List ℤ → Frame
Placement points params = At Integers (number_at points params)

-- the same, to compute with within the limit
abbrev pub WithinLimit : List (List ℤ) → List ℤ → Frame
WithinLimit points params =
    record {
      ring = Limited;
      free = λ i. placed_within (slice_index_or points i []);
      param = λ k. Some (slice_index_or params k (pos 0));
    }

-- the coordinates of what each instruction makes, in unbounded integers
abbrev pub values : Program → List (List ℤ) → List ℤ → List (List ℤ)
values p points params = map (coordinates_of Integers p.rank) (figures (Placement points params) p.rank p.instrs)

-- what the first n instructions make, within the limit
abbrev pub figures_before : Program → ℕ → List (List ℤ) → List ℤ → List (Figure Limited)
figures_before p n points params = figures_in_order (WithinLimit points params) p.rank (take n p.instrs)

-- the coordinates of what each instruction makes, within the limit
abbrev pub numbers : Program → List (List ℤ) → List ℤ → List (List (Option ℤ))
numbers p points params =
    map (coordinates_of Limited p.rank) (figures_in_order (WithinLimit points params) p.rank p.instrs)

-- the coordinates of what an instruction makes of these objects in rank d, within the limit
abbrev pub made_of : ℕ → List (List ℤ) → List ℤ → List (Figure Limited) → Instr → List (Option ℤ)
made_of d points params figures i =
    coordinates_of Limited d (instr_in_order (WithinLimit points params) d figures i)
