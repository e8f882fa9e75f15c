-- The laws of programs, as the contracts cite them.
use Rattle.std.specs.Prelude.{◌≡◌, ℕ, ◌+◌, ◌<◌, map, length, take, Some, slice_get}
use Rattle.cayley_terms.specs.declared.instr.Instr.{Instr}
use Rattle.cayley_terms.specs.declared.program.Program.{Program}
use Rattle.cayley_terms.specs.Meaning.{Variables}
use Rattle.cayley_terms.specs.Instrs.{instr_figure, measures, instr_measure}
use Rattle.cayley_terms.specs.Programs.{IsInner, IsLast}
use Rattle.cayley_terms.specs.Kept.{objects}

-- the instruction of this number
abbrev pub IsInstr : Program → ℕ → Instr → Type 0
IsInstr p n i = slice_get p.instrs n ≡ Some i

-- every instruction but the last makes a point, a line or a plane of earlier ones
abbrev pub EachIsInner : Type 0
EachIsInner =
    (p : Program) (n : ℕ) (i : Instr) → n + 1 < length p.instrs → IsInstr p n i
    → IsInner p.rank (take n (measures p.rank p.instrs)) i

-- the last makes what the conclusion says to be zero
abbrev pub LastIsLast : Type 0
LastIsLast =
    (p : Program) (n : ℕ) (i : Instr) → n + 1 ≡ length p.instrs → IsInstr p n i
    → IsLast p.rank (take n (measures p.rank p.instrs)) i

-- each instruction has its measure by those of the earlier ones
abbrev pub EachHasMeasure : Type 0
EachHasMeasure =
    (p : Program) (n : ℕ) (i : Instr) → IsInstr p n i → slice_get (measures p.rank p.instrs) n
    ≡ Some (instr_measure p.rank (take n (measures p.rank p.instrs)) i)

-- each instruction makes its object of those of the earlier ones
abbrev pub EachHasObject : Type 0
EachHasObject =
    (p : Program) (n : ℕ) (i : Instr) → IsInstr p n i → slice_get (objects p) n
    ≡ Some (instr_figure Variables p.rank (take n (objects p)) i)

-- the steps are those of the objects
abbrev pub StepsAgree : Type 0
StepsAgree = (p : Program) → p.steps ≡ map (λ x. x.step) (objects p)
