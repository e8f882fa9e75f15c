use Rattle.std.proofs.Common.{◌≡◌}
use Rattle.std.specs.Cmp.Lexicographic.{pointwise}
use Rattle.prover.specs.Ends.{same_term, same_terms}
use Rattle.prover.proofs.ends.same_terms.Given as goal

-- it is decided by the terms that are left
abbrev pub invariant-loop-key : goal.invariant-loop-key
invariant-loop-key g l =
    pointwise same_term l.key-iterator l.others ≡ same_terms l.first.tracked.sum l.second.tracked.sum
