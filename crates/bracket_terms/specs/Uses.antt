-- Uses of syzygies that a log may hold.
use Rattle.std.specs.Prelude.{◌≡◌, ℕ, ℤ, ◌≤◌, List, length}
use Rattle.std.specs.Coded.{le_prop}
use Rattle.std.proofs.Math.Nat.{ℕ_set}
use Rattle.std.proofs.Math.IntN.{ℤ_set}
use Rattle.std.proofs.Math.Bool.{Bool-set}
use Rattle.std.specs.List.{AllByRecursion, AllByRecursion-prop}
use Rattle.coordinate_model.specs.Sequences.{IsRank}
use Rattle.coordinate_model.specs.Key.{IsRow}
use Rattle.coordinate_model.specs.Syzygy.{Use, IsUse}

-- a well-formed use of rank d with 64 parameters, whose rest rows are rows of rank d
pub record IsLogUse (d : ℕ) (u : Use) : Type 0 where
  pub rank : IsRank d
  pub formed : IsUse d u
  pub parameters : length u.exponents ≡ 64
  pub rows : AllByRecursion (IsRow d) u.rest

-- the use of these parts
abbrev pub use_by : ℤ → List ℕ → List (List ℕ) → List ℕ → List ℕ → List ℕ → Use
use_by multiplier exponents rest alpha beta gamma =
    record { alpha = alpha; beta = beta; gamma = gamma; multiplier = multiplier; exponents = exponents; rest = rest }

row-prop : (d : ℕ) (r : List ℕ) → IsProp (IsRow d r)
row-prop d r = hlevel (ℕ_set, le_prop)

-- a use is well formed in one way at most
pub IsLogUse-prop : (d : ℕ) (u : Use) → IsProp (IsLogUse d u)
IsLogUse-prop d u =
    hlevel (
      ℕ_set,
      ℤ_set,
      Bool-set,
      le_prop,
      AllByRecursion-prop (λ e. e ≤ 1000) (λ e. le_prop) u.exponents,
      AllByRecursion-prop (IsRow d) (row-prop d) u.rest,
    )
