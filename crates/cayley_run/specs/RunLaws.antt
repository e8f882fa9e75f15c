-- What the run of a program means, as the contracts cite it.
use Rattle.std.specs.Prelude.{◌≡◌, ℕ, ◌<◌, List, [], ◌∷◌, ◌++◌, length, slice_index_or, Some, None, All}
use Rattle.std.specs.List.{AllByRecursion}
use Rattle.coordinate_model.specs.Sequences.{subsets}
use Rattle.coordinate_model.specs.BracketPolynomial.{BracketPolynomial, IsNormal, value}
use Rattle.coordinate_model.specs.Polynomial.{Polynomials}
use Rattle.coordinate_model.specs.Value.{Value, coordinates}
use Rattle.bracket_poly.specs.Sections.{Rewritten, Worked}
use Rattle.cayley_terms.specs.declared.program.Program.{Program}
use Rattle.cayley_terms.specs.Figures.{Figure, no_figure}
use Rattle.cayley_terms.specs.Kept.{objects, polynomial_of}
use Rattle.cayley_run.specs.Runs.{Log, run_of}
use Rattle.cayley_run.specs.declared.answer.Options.{Options}

-- the polynomial is normal, and has the value of the start
pub record IsEndOf (d : ℕ) (start end : BracketPolynomial) : Type 0 where
  pub normal : IsNormal d 64 end
  pub same_value : value end ≡ value start

-- a section that has an end ends so
abbrev pub EndsWell : ℕ → Rewritten → Type 0
EndsWell d s = elim s.end [ None ↦ Unit {0} | Some end ↦ IsEndOf d s.start end ]

-- each section of the run does
abbrev pub AllEndWell : ℕ → List Worked → Type 0
AllEndWell d objects = AllByRecursion (λ o. AllByRecursion (EndsWell d) o.sections) objects

-- a value has the coordinates of an object of rank d
abbrev pub IsValueOf : ℕ → Value → Figure Polynomials → Type 0
IsValueOf d v figure = All (λ K. coordinates v K ≡ figure.coordinates K) (subsets d figure.step)

-- the last section of the run ends with this polynomial
pub record LastEnds (log : Log) (end : BracketPolynomial) : Type 0 where
  pub front : List Worked
  pub number : ℕ
  pub step : ℕ
  pub section : Rewritten
  pub last : log.objects ≡ front ++ record { number = number; step = step; sections = section ∷ [] } ∷ []
  pub ends : section.end ≡ Some end

-- what a run of a program means: each section ends well; where nothing stopped it, the value of
-- each instruction has the coordinates of its object, and the last section, the only one of the conclusion, ends with a
-- polynomial whose value is the conclusion's
pub record MeansProgram (p : Program) (log : Log) : Type 0 where
  pub sections : AllEndWell p.rank log.objects
  pub values : log.stop ≡ None → (n : ℕ) → n < length p.instrs
      → IsValueOf p.rank (slice_index_or log.values n []) (slice_index_or (objects p) n (no_figure Polynomials))
  pub conclusion : log.stop ≡ None
      → (end : BracketPolynomial) × LastEnds log end × (value end ≡ polynomial_of p)

abbrev pub RunMeans : Type 0
RunMeans = (options : Options) (p : Program) → MeansProgram p (run_of options p)
