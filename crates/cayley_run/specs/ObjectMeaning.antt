-- What the run of one object means, as the contracts cite it.
use Rattle.std.specs.Prelude.{◌≡◌, ℕ, ◌+◌, ◌<◌, List, [], length, slice_index_or, None}
use Rattle.std.specs.List.{AllByRecursion}
use Rattle.coordinate_model.specs.Polynomial.{Polynomials}
use Rattle.coordinate_model.specs.Value.{Value}
use Rattle.coordinate_model.proofs.StartSizes.{IsEntry}
use Rattle.bracket_poly.specs.Sections.{value_from}
use Rattle.cayley_terms.specs.Figures.{no_figure}
use Rattle.cayley_terms.specs.Kept.{objects}
use Rattle.cayley_terms.specs.Starts.{free_value}
use Rattle.cayley_terms.specs.declared.instr.Instr.{Instr}
use Rattle.cayley_terms.specs.declared.instr.Instr.TheVariants.{Free, Join, Meet, On, Conic}
use Rattle.cayley_terms.specs.declared.program.Program.{Program}
use Rattle.cayley_run.specs.Objects.{run_of_object}
use Rattle.cayley_run.specs.RunLaws.{EndsWell, IsValueOf}
use Rattle.cayley_run.specs.Sections.{Sections}
use Rattle.cayley_run.specs.declared.answer.Options.{Options}

-- the instruction of this number, with its step
abbrev pub instr_at : Program → ℕ → Instr × ℕ
instr_at p n = (slice_index_or p.instrs n (Free 0), slice_index_or p.steps n 0)

-- the value of an instruction of which the object was run so
abbrev pub value_made : Instr → Sections → Value
value_made (Free i) s = free_value 64 i
value_made (Join a b) s = value_from s.sections
value_made (Meet a b) s = value_from s.sections
value_made (On a b s' t) s = value_from s.sections
value_made (Conic p1 p2 p3 p4 p5 p6) s = value_from s.sections

-- the value is that of the instruction of this number: it has the coordinates of its object, and its extensors have as many
-- points as its step
pub record IsValueAt (p : Program) (n : ℕ) (v : Value) : Type 0 where
  pub coordinates : IsValueOf p.rank v (slice_index_or (objects p) n (no_figure Polynomials))
  pub entries : AllByRecursion (IsEntry p.rank 64 (slice_index_or p.steps n 0)) v

-- the values are those of the first instructions
abbrev pub AreValues : Program → List Value → Type 0
AreValues p values = (n : ℕ) → n < length values → IsValueAt p n (slice_index_or values n [])

-- the run of the next object from these values: each section ends well, and where nothing stopped it, the value is that of
-- the instruction
pub record IsRunOf (p : Program) (n : ℕ) (s : Sections) : Type 0 where
  pub sections : AllByRecursion (EndsWell p.rank) s.sections
  pub value : s.stop ≡ None → IsValueAt p n (value_made (instr_at p n).0 s)

-- so it is for each object but the conclusion, whatever the options are
abbrev pub ObjectMeans : Type 0
ObjectMeans =
    (options : Options) (p : Program) (values : List Value) → length values + 1 < length p.instrs → AreValues p values
    → IsRunOf p (length values) (run_of_object p.rank options values (instr_at p (length values)))
