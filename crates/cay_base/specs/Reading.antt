-- What reading to the end leaves behind.
use Rattle.std.specs.Prelude.{◌≡◌, ℕ, ◌<◌, ◌≤◌, List, [], length, Option, Some, IfSome, Result, Ok, Err}
use Rattle.std.specs.Io.KnownBytes.{Consumes}
use Rattle.cay_base.specs.declared.reading.ReadError.{ReadError}
use Rattle.cay_base.specs.declared.reading.ReadError.TheVariants.{Read, TooLong, Memory}

-- some bytes were taken from the front of what was left, at most so many
abbrev pub TakesUpTo : ℕ → Option (List ℕ) → Option (List ℕ) → Type 0
TakesUpTo most before after = (bytes : List ℕ) × (length bytes ≤ most) × Consumes before after bytes

-- some bytes were taken from the front of what was left, more than so many
abbrev pub TakesPast : ℕ → Option (List ℕ) → Option (List ℕ) → Type 0
TakesPast limit before after = (bytes : List ℕ) × (limit < length bytes) × Consumes before after bytes

-- nothing is left at Ok; at an error a front was taken, within the limit at a fault, and past it where it was too long
abbrev pub Leaves : {T : Type 0} → ℕ → Option (List ℕ) → Option (List ℕ) → Result T ReadError → Type 0
Leaves limit before after (Ok bytes) = IfSome before (λ _. after ≡ Some [])
Leaves limit before after (Err Read) = TakesUpTo limit before after
Leaves limit before after (Err TooLong) = TakesPast limit before after
Leaves limit before after (Err Memory) = (bytes : List ℕ) × Consumes before after bytes
