-- Values that are shown.
use Rattle.std.specs.Prelude.{◌≡◌, ◌≢◌, ℕ, ◌≤◌, ◌<◌, ℤ, pos, [], replicate}
use Rattle.bracket_poly.specs.Tracked.{Tracked, nothing, plus_term}
use Rattle.coordinate_model.specs.Key.{Key}
use Rattle.bracket_poly.specs.Kept.{TrackedOf}
use Rattle.bracket_poly.specs.declared.value.Value.{Value}
use Rattle.shuffle_meet.specs.Sizes.{IsWithin}

-- the key 1, and a whole number as a polynomial
abbrev pub unit_key : Key
unit_key = record { exponents = replicate 64 0; rows = [] }

abbrev pub number : ℤ → Tracked
number c = plus_term nothing (unit_key, c)

-- the polynomial is a whole number that is not 0
pub record IsNumber {d : ℕ} (p : TrackedOf d) : Type 0 where
  pub value : ℤ
  pub not_zero : value ≢ pos 0
  pub is : p.tracked ≡ number value

-- a point, a line or a plane whose polynomials are whole numbers
pub record IsScaled {d : ℕ} (v : Value d) : Type 0 where
  pub least : 1 ≤ v.step
  pub below : v.step < d
  pub numbers : IsWithin 256 0 0 0 v.entries
