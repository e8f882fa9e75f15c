use Rattle.std.proofs.Common.{◌≡◌, map, fold, drop}
use Rattle.construction_reader.specs.Said.{row}
use Rattle.construction_reader.specs.Seen.{account}
use Rattle.cayley_terms.specs.Straight.{row_lowered, lowered}
use Rattle.cayley_terms.proofs.ProgramLaws.{params_in}
use Rattle.cayley_terms.proofs.straight.lowering.Given as goal

abbrev pub invariant-loop-statement : goal.invariant-loop-statement
invariant-loop-statement l =
    fold (row_lowered (params_in (account l.c))) l.lowering (map row (drop l.statement-index l.statement-items))
    ≡ lowered (account l.c)
