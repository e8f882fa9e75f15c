-- What a program keeps of the construction that it was made of.
use Rattle.std.specs.Prelude.{◌≡◌, ℕ, ◌-◌, ◌<◌, List, [], ◌∷◌, map, length, slice_index_or}
use Rattle.std.specs.Prelude.{Option, Some, None, unwrap_or}
use Rattle.std.specs.List.{flat_map, enumerate_from, AllByRecursion}
use Rattle.construction_reader.specs.Said.{Sentence, Account, sentences_of}
use Rattle.coordinate_model.specs.Polynomial.{Polynomials, Polynomial}
use Rattle.step_types.specs.declared.measure.Measure.{Measure}
use Rattle.step_types.specs.declared.names.Names.{Names}
use Rattle.step_types.specs.Known.{found}
use Rattle.step_types.specs.Checks.{objects_of, names_of}
use Rattle.cayley_terms.specs.declared.instr.Instr.{Instr}
use Rattle.cayley_terms.specs.declared.instr.Instr.TheVariants.{Free, Join, Meet, On, Conic}
use Rattle.cayley_terms.specs.declared.program.Program.{Program}
use Rattle.cayley_terms.specs.Figures.{Figure, no_figure, scalar}
use Rattle.cayley_terms.specs.Meaning.{Variables, definitions}
use Rattle.cayley_terms.specs.Instrs.{figures, no_measure, measures}
use Rattle.cayley_terms.specs.Straight.{lowered}

-- what stands at the places that end a definition, in order, each with the definition's number
abbrev pub ends : {X : Type 0} → List (Option ℕ) → List X → List (ℕ × X)
ends [] xs = []
ends (mark ∷ marks) [] = []
ends (None ∷ marks) (x ∷ xs) = ends marks xs
ends (Some k ∷ marks) (x ∷ xs) = (k, x) ∷ ends marks xs

-- the objects that the instructions make, in order
abbrev pub objects : Program → List (Figure Polynomials)
objects p = figures Variables p.rank p.instrs

-- the one coordinate of what the last instruction makes
abbrev pub polynomial_of : Program → Polynomial
polynomial_of p = scalar Polynomials p.rank (slice_index_or (objects p) (length p.instrs - 1) (no_figure Polynomials))

-- the instructions that end definitions make the objects of the definitions, the first the first, and so on
abbrev pub KeepsDefinitions : Account → Program → Type 0
KeepsDefinitions c p = ends p.defined (objects p) ≡ enumerate_from 0 (definitions Variables c)

-- the name that a sentence defines
abbrev pub defined_in : Sentence → List (List ℕ)
defined_in (Sentence.Free names) = []
defined_in (Sentence.Define kind name recipe) = name ∷ []
defined_in (Sentence.Conclude claim) = []

-- the steps, rows and degrees of the objects of the definitions, in order
abbrev pub definition_measures : Account → List Measure
definition_measures c =
    map (λ name. unwrap_or (found name (objects_of c)) no_measure) (flat_map defined_in (sentences_of c.rows))

-- the instructions that end definitions have the steps, rows and degrees of the definitions
abbrev pub KeepsMeasures : Account → Program → Type 0
KeepsMeasures c p = ends p.defined (measures p.rank p.instrs) ≡ enumerate_from 0 (definition_measures c)

-- points and parameters are numbers of names
abbrev pub IsNamed : Names → Instr → Type 0
IsNamed names (Free i) = i < length names.free
IsNamed names (Join a b) = Unit {0}
IsNamed names (Meet a b) = Unit {0}
IsNamed names (On a b s t) = (s < length names.params) × (t < length names.params)
IsNamed names (Conic p1 p2 p3 p4 p5 p6) = Unit {0}

-- the rank is that of the construction, and points and parameters are numbers of its names
abbrev pub KeepsNames : Account → Program → Type 0
KeepsNames c p = (p.rank ≡ c.rank) × AllByRecursion (IsNamed (names_of c)) p.instrs

-- the program is the straight list of the construction
pub record IsStraight (c : Account) (p : Program) : Type 0 where
  pub instrs : p.instrs ≡ (lowered c).instrs
  pub lines : p.lines ≡ (lowered c).lines
  pub defined : p.defined ≡ (lowered c).defined
