use Rattle.std.proofs.Common.{◌≡◌, ◌<◌, ◌-◌, ◌++◌}
use Rattle.std.specs.Prelude.{map}
use Rattle.std.specs.List.{range_with_len}
use Rattle.std.specs.Fn.{iterate}
use Rattle.construction_reader.specs.Said.{row}
use Rattle.sample_maker.specs.Sample.{next, definition_row}
use Rattle.sample_maker.proofs.generator.add_definitions.Given as goal

abbrev pub invariant-loop-k : goal.invariant-loop-k
invariant-loop-k l =
    (map row l.statements.items
    ≡ map row l.initial.statements.items ++ map (definition_row l.number) (range_with_len 1 (l.k - 1)))
    × (l.x ≡ iterate next (l.k - 1) l.number) × (l.x < 7875)
