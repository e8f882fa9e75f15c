use Rattle.std.proofs.Common.{◌≡◌, ◌++◌, map, drop}
use Rattle.bracket_poly.specs.Values.{value_of}
use Rattle.bracket_poly.specs.Sections.{rewritten_of, value_from}
use Rattle.cayley_run.proofs.values.value_from.Given as goal

abbrev pub invariant-loop-section : goal.invariant-loop-section
invariant-loop-section g l =
    value_of l.entries.items ++ value_from (map rewritten_of (drop l.section-index l.sections))
    ≡ value_from (map rewritten_of l.sections)
