use Rattle.std.proofs.Common.{◌≡◌, ◌++◌, drop}
use Rattle.bracket_poly.specs.Values.{value_of}
use Rattle.log_checker.specs.Claims.{claims_of, ended_value}
use Rattle.log_checker.proofs.values.ended_value.Given as goal

abbrev pub invariant-loop-section : goal.invariant-loop-section
invariant-loop-section g l =
    value_of l.entries.items ++ ended_value (claims_of (drop l.section-index l.sections))
    ≡ ended_value (claims_of l.sections)
