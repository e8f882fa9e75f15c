-- How large a run grows: its points and parameters are those of the program, and its rows and exponents are at most
-- those of the object that is worked out.
use Rattle.std.specs.Prelude.{◌≡◌, ℕ, ◌+◌, ◌<◌, ◌≤◌, List, [], ◌∷◌, length, slice_index, IfSome}
use Rattle.std.specs.List.{AllByRecursion}
use Rattle.coordinate_model.specs.Key.{Key}
use Rattle.coordinate_model.specs.BracketPolynomial.{BracketPolynomial, AllKeys}
use Rattle.coordinate_model.specs.Syzygy.{Use}
use Rattle.bracket_poly.specs.Sections.{Rewritten, Worked}
use Rattle.straightening.specs.RunLaws.{use_points}
use Rattle.step_types.specs.declared.measure.Measure.{Measure}
use Rattle.cayley_terms.specs.declared.instr.Instr.{Instr}
use Rattle.cayley_terms.specs.declared.instr.Instr.TheVariants.{Free, Join, Meet, On, Conic}
use Rattle.cayley_terms.specs.declared.program.Program.{Program}
use Rattle.cayley_terms.specs.Instrs.{measures}
use Rattle.cayley_run.specs.Runs.{Log, run_of}
use Rattle.cayley_run.specs.declared.answer.Options.{Options}

-- the instruction has free points below n and parameters below m alone
abbrev pub HasNumbers : ℕ → ℕ → Instr → Type 0
HasNumbers n m (Free i) = i < n
HasNumbers n m (Join a b) = Unit {0}
HasNumbers n m (Meet a b) = Unit {0}
HasNumbers n m (On a b s t) = (s < m) × (t < m)
HasNumbers n m (Conic p1 p2 p3 p4 p5 p6) = Unit {0}

-- points below n
abbrev pub ArePoints : ℕ → List ℕ → Type 0
ArePoints n points = AllByRecursion (λ p. p < n) points

-- exponents of parameters below m alone, of which none passes the degree
pub record AreExponents (m degree : ℕ) (exponents : List ℕ) : Type 0 where
  pub parameters : (i : ℕ) → m ≤ i → slice_index exponents i ≡ 0
  pub small : AllByRecursion (λ e. e ≤ degree) exponents

-- a key of points below n and of parameters below m, with at most the rows and the degree of the measure
pub record IsKeyWithin (n m : ℕ) (size : Measure) (k : Key) : Type 0 where
  pub points : AllByRecursion (ArePoints n) k.rows
  pub exponents : AreExponents m size.degree k.exponents
  pub few : length k.rows ≤ size.rows

-- a polynomial of such keys
abbrev pub IsPolynomialWithin : ℕ → ℕ → Measure → BracketPolynomial → Type 0
IsPolynomialWithin n m size f = AllKeys (IsKeyWithin n m size) f

-- a use within the same: its rows are its rest and two more
pub record IsUseWithin (n m : ℕ) (size : Measure) (u : Use) : Type 0 where
  pub points : ArePoints n (use_points u)
  pub exponents : AreExponents m size.degree u.exponents
  pub few : length u.rest + 2 ≤ size.rows

-- a section within the same, with its extensor, its start, its uses and its end
pub record IsSectionWithin (n m : ℕ) (size : Measure) (s : Rewritten) : Type 0 where
  pub extensor : ArePoints n s.scalar
  pub start : IsPolynomialWithin n m size s.start
  pub uses : AllByRecursion (IsUseWithin n m size) s.uses
  pub end : IfSome s.end (IsPolynomialWithin n m size)

-- the measures of the objects among instructions: of all but free points
abbrev pub object_measures : List Instr → List Measure → List Measure
object_measures [] sizes = []
object_measures (instr ∷ instrs) [] = []
object_measures (Free i ∷ instrs) (size ∷ sizes) = object_measures instrs sizes
object_measures (Join a b ∷ instrs) (size ∷ sizes) = size ∷ object_measures instrs sizes
object_measures (Meet a b ∷ instrs) (size ∷ sizes) = size ∷ object_measures instrs sizes
object_measures (On a b s t ∷ instrs) (size ∷ sizes) = size ∷ object_measures instrs sizes
object_measures (Conic p1 p2 p3 p4 p5 p6 ∷ instrs) (size ∷ sizes) = size ∷ object_measures instrs sizes

-- the sections of each object are within its measure; there may be fewer objects than measures
abbrev pub AreWithin : ℕ → ℕ → List Worked → List Measure → Type 0
AreWithin n m [] sizes = Unit {0}
AreWithin n m (o ∷ objects) [] = ⊥
AreWithin n m (o ∷ objects) (size ∷ sizes) =
    AllByRecursion (IsSectionWithin n m size) o.sections × AreWithin n m objects sizes

-- the objects of a log, all or those before a stop, are within the measures of the program, and have its points and
-- parameters alone
abbrev pub IsWithinProgram : Program → Log → Type 0
IsWithinProgram p log =
    (n m : ℕ) → AllByRecursion (HasNumbers n m) p.instrs
    → AreWithin n m log.objects (object_measures p.instrs (measures p.rank p.instrs))

-- the run of a program is within it
abbrev pub RunIsWithin : Type 0
RunIsWithin = (options : Options) (p : Program) → IsWithinProgram p (run_of options p)
