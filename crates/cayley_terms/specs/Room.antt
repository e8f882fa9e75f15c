-- What there is room for in the numbers of a straight list.
use Rattle.std.specs.Prelude.{◌^◌, ◌<◌, ◌≤◌, length}
use Rattle.cayley_terms.specs.Named.{AreDistinct}
use Rattle.cayley_terms.specs.Straight.{Lowered}

-- the numbers have room for what has been lowered, and no name stands twice
pub record Fits (s : Lowered) : Type 0 where
  pub instrs : length s.instrs < 2 ^ 32
  pub points : s.points ≤ 200
  pub definitions : s.definitions ≤ 2000
  pub names : AreDistinct s.numbers
