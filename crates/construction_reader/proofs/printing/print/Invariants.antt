use Rattle.std.proofs.Common.{◌≡◌, ◌++◌, take, map}
use Rattle.std.specs.List.{flat_map}
use Rattle.construction_reader.specs.Said.{row}
use Rattle.construction_reader.specs.Grammar.{sentence_tokens}
use Rattle.construction_reader.specs.Printed.{line_text}
use Rattle.construction_reader.proofs.printing.print.Given as goal

abbrev pub invariant-loop-statement : goal.invariant-loop-statement
invariant-loop-statement l = l.out.items ≡ l.initial.out.items
    ++ flat_map (λ r. line_text (sentence_tokens r.sentence)) (map row (take l.statement-index l.statement-items))
