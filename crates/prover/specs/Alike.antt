-- Constructions that can be compared: those of the same rank, free names and parameters.
use Rattle.std.specs.Prelude.{◌≡◌, ◌≢◌, ℕ, List, codes}
use Rattle.step_types.specs.declared.names.Names.{Names}
use Rattle.prover.specs.declared.difference.Difference.{Difference}
use Rattle.prover.specs.declared.difference.Difference.TheVariants.{Rank, Free, Params}

-- the word of what differs
abbrev pub difference_word : Difference → List ℕ
difference_word Rank = codes "rank"
difference_word Free = codes "free"
difference_word Params = codes "params"

-- the same rank, the same free names and the same parameters, in the same order
pub record AreAlike (first second : Names) : Type 0 where
  pub rank : first.rank ≡ second.rank
  pub free : first.free ≡ second.free
  pub params : first.params ≡ second.params

-- this is the first of them in which they differ
abbrev pub IsFirstDifference : Names → Names → Difference → Type 0
IsFirstDifference first second Rank = first.rank ≢ second.rank
IsFirstDifference first second Free = (first.rank ≡ second.rank) × (first.free ≢ second.free)
IsFirstDifference first second Params =
    (first.rank ≡ second.rank) × (first.free ≡ second.free) × (first.params ≢ second.params)
