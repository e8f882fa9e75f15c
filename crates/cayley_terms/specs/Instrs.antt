-- What instructions make, each of what the earlier ones made: objects, and their sizes.
use Rattle.std.specs.Prelude.{ℕ, ◌+◌, ◌-◌, ◌*◌, ◌==◌, max, if◌then◌else◌, List, [], ◌∷◌, ◌++◌, fold, slice_index_or}
use Rattle.step_types.specs.declared.measure.Measure.{Measure}
use Rattle.step_types.specs.Measures.{free_point}
use Rattle.cayley_terms.specs.declared.instr.Instr.{Instr}
use Rattle.cayley_terms.specs.declared.instr.Instr.TheVariants.{Free, Join, Meet, On, Conic}
use Rattle.cayley_terms.specs.Figures.{Figure, no_figure, point, joined, met, mixed, conic}
use Rattle.cayley_terms.specs.Meaning.{Frame}

-- with what the instruction makes of all that was made before
abbrev pub one_more : {X : Type 0} → (List X → Instr → X) → List X → Instr → List X
one_more f before instr = before ++ f before instr ∷ []

-- what the instructions make, in order, behind what was made before
unfoldable pub made_behind : {X : Type 0} → (List X → Instr → X) → List X → List Instr → List X
made_behind f before instrs = fold (one_more f) before instrs

module _ (F : Frame) where
  -- the object of this number, among those of the instructions before
  abbrev pub figure_at : List (Figure F.ring) → ℕ → Figure F.ring
  figure_at before n = slice_index_or before n (no_figure F.ring)

  -- the object that an instruction makes in rank d
  abbrev pub instr_figure : ℕ → List (Figure F.ring) → Instr → Figure F.ring
  instr_figure d before (Free i) = point F.ring (F.free i)
  instr_figure d before (Join a b) = joined F.ring (figure_at before a) (figure_at before b)
  instr_figure d before (Meet a b) = met F.ring d (figure_at before a) (figure_at before b)
  instr_figure d before (On a b s t) =
      mixed F.ring (F.param s) (F.param t) (figure_at before a) (figure_at before b)
  instr_figure d before (Conic p1 p2 p3 p4 p5 p6) =
      let at = figure_at before in
      conic F.ring (at p1) (at p2) (at p3) (at p4) (at p5) (at p6)

  -- the objects that the instructions make in rank d, in order
  abbrev pub figures : ℕ → List Instr → List (Figure F.ring)
  figures d instrs = made_behind (instr_figure d) [] instrs

-- ---- steps, rows and degrees

-- of no object
abbrev pub no_measure : Measure
no_measure = record { step = 0; rows = 0; degree = 0 }

-- the measure of the instruction of this number, among those of the instructions before
abbrev pub measure_at : List Measure → ℕ → Measure
measure_at before n = slice_index_or before n no_measure

-- of the join of two: where their steps add up to the rank, it is a bracket, and so has one row more
abbrev pub join_measure : ℕ → Measure → Measure → Measure
join_measure d a b =
    record {
      step = a.step + b.step;
      rows = a.rows + b.rows + (if a.step + b.step == d then 1 else 0);
      degree = a.degree + b.degree;
    }

-- of the meet of two
abbrev pub meet_measure : ℕ → Measure → Measure → Measure
meet_measure d a b =
    record { step = a.step + b.step - d; rows = a.rows + b.rows + 1; degree = a.degree + b.degree }

-- of a point by two parameters
abbrev pub on_measure : Measure → Measure → Measure
on_measure a b = record { step = 1; rows = max a.rows b.rows; degree = max a.degree b.degree + 1 }

-- of the six-point polynomial: each point is in two of the four brackets of a product
abbrev pub conic_measure : (p1 p2 p3 p4 p5 p6 : Measure) → Measure
conic_measure p1 p2 p3 p4 p5 p6 =
    record {
      step = 0;
      rows = 2 * (p1.rows + p2.rows + p3.rows + p4.rows + p5.rows + p6.rows) + 4;
      degree = 2 * (p1.degree + p2.degree + p3.degree + p4.degree + p5.degree + p6.degree);
    }

-- the measure of what an instruction makes in rank d
abbrev pub instr_measure : ℕ → List Measure → Instr → Measure
instr_measure d before (Free i) = free_point
instr_measure d before (Join a b) = join_measure d (measure_at before a) (measure_at before b)
instr_measure d before (Meet a b) = meet_measure d (measure_at before a) (measure_at before b)
instr_measure d before (On a b s t) = on_measure (measure_at before a) (measure_at before b)
instr_measure d before (Conic p1 p2 p3 p4 p5 p6) =
    let at = measure_at before in
    conic_measure (at p1) (at p2) (at p3) (at p4) (at p5) (at p6)

-- the measures of what the instructions make in rank d, in order
abbrev pub measures : ℕ → List Instr → List Measure
measures d instrs = made_behind (instr_measure d) [] instrs
