use Rattle.std.proofs.Common.{◌≡◌, drop}
use Rattle.cayley_terms.specs.Pairs.{pair_instr}
use Rattle.cayley_terms.specs.Straight.{from_left_lowered, chain_lowered}
use Rattle.cayley_terms.proofs.lowering.Lowering.from_left.Given as goal

abbrev pub invariant-loop-other : goal.invariant-loop-other
invariant-loop-other l =
    from_left_lowered (pair_instr l.pair) l.line l.fn.numbers l.fn.self
    ≡ chain_lowered (pair_instr l.pair) l.line l.made (drop l.other-index l.others) l.self
