-- Instructions that make an object of two.
use Rattle.std.specs.Prelude.{ℕ, List}
use Rattle.construction_reader.specs.Said.{Object}
use Rattle.cayley_terms.specs.declared.instr.Instr.{Instr}
use Rattle.cayley_terms.specs.declared.instr.Instr.TheVariants as instr
use Rattle.cayley_terms.specs.declared.pair.Pair.{Pair}
use Rattle.cayley_terms.specs.declared.pair.Pair.TheVariants.{Join, Meet}
use Rattle.cayley_terms.specs.Straight.{Lowered, objects_lowered, from_left_lowered, conic_lowered}

-- the join or the meet of these two
abbrev pub pair_instr : Pair → ℕ → ℕ → Instr
pair_instr Join a b = instr.Join a b
pair_instr Meet a b = instr.Meet a b

-- objects, and behind them what the joins or meets from the left make of them
abbrev pub objects_from_left : Pair → ℕ → List Object → Lowered → Lowered
objects_from_left pair line objects s =
    let r = objects_lowered line objects s in
    (from_left_lowered (pair_instr pair) line r.1 r.0).0

-- objects, and behind them the six-point polynomial of them
abbrev pub objects_conic : ℕ → List Object → Lowered → Lowered
objects_conic line objects s =
    let r = objects_lowered line objects s in
    (conic_lowered line r.1 r.0).0
