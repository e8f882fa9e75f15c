use Rattle.std.proofs.Common.{ℕ, List, length}
use Rattle.prover.specs.Cuts.{IsCut}
use Rattle.prover.proofs.cut.from_separator.Given as goal

-- what cuts the rest cuts the input behind what has been passed over
abbrev pub invariant-loop-separator : goal.invariant-loop-separator
invariant-loop-separator l =
    (back : List ℕ) → ((first : List ℕ) × IsCut l.separator l.rest first back)
    → (first : List ℕ) × IsCut l.separator l.input first back

abbrev pub decreases-loop-separator : goal.decreases-loop-separator
decreases-loop-separator l = length l.rest
