-- What a call does to the bytes that a sink or a writer holds.
use Rattle.std.specs.Prelude.{◌≡◌, ℕ, List, ◌++◌, Option, Some, None, Result, MatchResult}
use Rattle.std.specs.Io.KnownBytes.{Appends}

-- the one list is a front of the other
abbrev pub IsFrontOf : List ℕ → List ℕ → Type 0
IsFrontOf front bytes = (rest : List ℕ) × (front ++ rest ≡ bytes)

-- where a sink tells what it holds, it told it before too, and these bytes came behind; it may cease to tell
abbrev pub Gains : Option (List ℕ) → Option (List ℕ) → List ℕ → Type 0
Gains before None bytes = Unit {0}
Gains None (Some after) bytes = ⊥
Gains (Some before) (Some after) bytes = after ≡ before ++ bytes

-- a front of these bytes came behind what the sink held
abbrev pub GainsFront : Option (List ℕ) → Option (List ℕ) → List ℕ → Type 0
GainsFront before after bytes = (front : List ℕ) × IsFrontOf front bytes × Gains before after front

-- the whole piece came behind what the sink held at Ok, and a front of it at an error
abbrev pub Puts : {T E : Type 0} → Option (List ℕ) → Option (List ℕ) → Result T E → List ℕ → Type 0
Puts before after result piece = MatchResult result (λ _. Gains before after piece) (λ _. GainsFront before after piece)

-- where a writer tells what it holds, the whole piece came behind it at Ok, and a front of the piece at an error
abbrev pub PassesOn : {T E : Type 0} → Option (List ℕ) → Option (List ℕ) → Result T E → List ℕ → Type 0
PassesOn before after result piece =
    MatchResult result (λ _. Appends before after piece)
    (λ _. (front : List ℕ) × IsFrontOf front piece × Appends before after front)
