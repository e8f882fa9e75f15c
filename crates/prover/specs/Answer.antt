-- Answers: a status, and the lines that go with it.
use Rattle.std.specs.Prelude.{◌≡◌, ◌⊎◌, ℕ, List, [], ◌∷◌, ◌++◌, codes}
use Rattle.prover.specs.declared.status.Status.{Status}
use Rattle.prover.specs.declared.status.Status.TheVariants.{Proved, Refuted, Usage, TextRefused}

-- a status, and the lines that go with it
pub record Answer : Type 0 where
  pub status : Status
  pub lines : List (List ℕ)

-- where the words are in no list
abbrev pub usage : Answer
usage =
    record {
      status = Usage;
      lines = codes "usage: prove [--budget N] [--contract] | check | same [--budget N] [--contract] | degenerate [--budget N] | place | sample N [--budget N]" ∷ [];
    }

-- an input that is refused for this reason
abbrev pub refused : List ℕ → Answer
refused reason = record { status = TextRefused; lines = (codes "refused " ++ reason) ∷ [] }

-- the status is a verdict
abbrev pub IsVerdict : Status → Type 0
IsVerdict status = (status ≡ Proved) ⊎ (status ≡ Refuted)
