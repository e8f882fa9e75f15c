-- Extensors of free points in ascending order, as records of their size and places.
use Rattle.std.specs.Prelude.{◌≡◌, ℕ, ◌-◌, ◌≤◌, List, take, drop, length, replicate}
use Rattle.std.specs.List.Sorted.{IsStrictlyIncreasing}

-- at most four points that strictly increase, in front of places that are 0
pub record IsExtensor (size : ℕ) (places : List ℕ) : Type 0 where
  pub few : size ≤ 4
  pub four : length places ≡ 4
  pub increasing : IsStrictlyIncreasing (take size places)
  pub unused : drop size places ≡ replicate (4 - size) 0
