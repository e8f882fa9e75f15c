-- Which instructions of a program make objects.
use Rattle.std.specs.Prelude.{ℕ, List, zip, filter_map, Option, Some, None}
use Rattle.cayley_terms.specs.declared.instr.Instr.{Instr}
use Rattle.cayley_terms.specs.declared.instr.Instr.TheVariants.{Free, Join, Meet, On, Conic}
use Rattle.cayley_terms.specs.declared.program.Program.{Program}

-- the free point of an instruction, if it is one
abbrev pub point_of : Instr → Option ℕ
point_of (Free i) = Some i
point_of (Join a b) = None
point_of (Meet a b) = None
point_of (On a b s t) = None
point_of (Conic p1 p2 p3 p4 p5 p6) = None

-- the step of the object that an instruction makes, if it makes one
abbrev pub object_step : Instr × ℕ → Option ℕ
object_step (Free i, step) = None
object_step (Join a b, step) = Some step
object_step (Meet a b, step) = Some step
object_step (On a b s t, step) = Some step
object_step (Conic p1 p2 p3 p4 p5 p6, step) = Some step

-- the steps of the objects that instructions make
abbrev pub object_steps : List (Instr × ℕ) → List ℕ
object_steps instrs = filter_map object_step instrs

-- the steps of the objects of a program
abbrev pub program_steps : Program → List ℕ
program_steps p = object_steps (zip p.instrs p.steps)
