use Rattle.std.proofs.Common.{◌≡◌, ◌++◌, drop, true}
use Rattle.construction_reader.specs.Printed.{spaced}
use Rattle.construction_reader.proofs.printing.put_spaced.Given as goal

abbrev pub invariant-loop-token : goal.invariant-loop-token
invariant-loop-token l = l.out.items ++ spaced l.glued (drop l.token-index l.tokens) ≡ l.initial.out.items
    ++ spaced true l.tokens
