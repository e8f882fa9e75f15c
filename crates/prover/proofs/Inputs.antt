-- Inputs that a source may have had left.
use Rattle.std.proofs.Common.{◌≡◌, ℕ, ◌+◌, ◌<◌, List, [], length, replicate, Option, Some, None, IfSome, refl, arith}
use Rattle.std.proofs.lemmas.List.{length-replicate}
use Rattle.prover.specs.Outcome.{IsInput}

-- some list is as long as one likes
many : (n : ℕ) → (bytes : List ℕ) × (n < length bytes)
many n = let count : length {A = ℕ} (replicate (n + 1) 0) ≡ n + 1 = length-replicate (n + 1) 0 in (replicate (n + 1) 0, omega arith)

-- an input that is too long
pub long_input : (n : ℕ) (left : Option (List ℕ)) → IfSome left (λ bytes. n < length bytes)
    → (input : List ℕ) × IsInput left input × (n < length input)
long_input n None h = let found = many n in (found.0, tt, found.1)
long_input n (Some bytes) h = (bytes, refl, h)

-- any input
pub some_input : (left : Option (List ℕ)) → (input : List ℕ) × IsInput left input
some_input None = ([], tt)
some_input (Some bytes) = (bytes, refl)
