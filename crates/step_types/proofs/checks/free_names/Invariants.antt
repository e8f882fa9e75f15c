use Rattle.std.proofs.Common.{◌≡◌, take, map}
use Rattle.std.specs.List.{flat_map}
use Rattle.construction_reader.specs.Said.{row, sentences_of}
use Rattle.step_types.specs.Checks.{free_in}
use Rattle.step_types.proofs.checks.free_names.Given as goal

abbrev pub invariant-loop-statement : goal.invariant-loop-statement
invariant-loop-statement l =
    l.free.items ≡ flat_map free_in (sentences_of (map row (take l.statement-index l.statements)))
