-- Sources and sinks in memory: what they have, and what a call does to it.
use Rattle.std.specs.Prelude.{ℕ, ◌+◌, ◌-◌, ◌/◌, ◌^◌, min, Bool, if◌then◌else◌, List, length, take, Option, Some, None}

-- a counter of 64 bits after one more
abbrev pub next_count : ℕ → ℕ
next_count n = min (n + 1) (2 ^ 64 - 1)

-- a source in memory: what is left, the most that a call gives, the numbers of the calls that fail, and how many
-- calls and faults there were
pub record SourceState : Type 0 where
  pub left : List ℕ
  pub most : ℕ
  pub fails : List ℕ
  pub calls : ℕ
  pub faults : ℕ

-- a sink in memory: what it holds, how much it has room for, the numbers of the calls that fail, and how many calls
-- and faults there were
pub record SinkState : Type 0 where
  pub held : List ℕ
  pub room : ℕ
  pub fails : List ℕ
  pub calls : ℕ
  pub faults : ℕ

-- a sink that never fails: the bytes that it keeps, how much it has room for, and whether all pieces so far fitted
pub record WholeState : Type 0 where
  pub kept : List ℕ
  pub room : ℕ
  pub whole : Bool

-- what the sink tells: all that it got, as long as all of it fitted
abbrev pub told : WholeState → Option (List ℕ)
told sink = if sink.whole then Some sink.kept else None

-- the front of a piece that fits behind what is held
abbrev pub fitting : ℕ → List ℕ → List ℕ → List ℕ
fitting room held piece = take (room - length held) piece

-- the first half of a piece, rounded down
abbrev pub half : List ℕ → List ℕ
half piece = take (length piece / 2) piece
