-- The van der Waerden syzygy at the place where two rows fall (Sturmfels, Algorithms in Invariant Theory, section 3.1).
use Rattle.std.specs.Prelude.{◌≡◌, ℕ, ◌+◌, ◌≤◌, List, ◌++◌, take, drop, false}
use Rattle.std.specs.List.Sorted.{IsStrictlyIncreasing}
use Rattle.std.specs.Ordering.{is_gt}
use Rattle.coordinate_model.specs.Sequences.{IsRank}
use Rattle.coordinate_model.specs.Key.{IsRow, row_cmp}
use Rattle.coordinate_model.specs.Syzygy.{AreSizes}
use Rattle.tableau_order.specs.Tableaux.{IsTableau}
use Rattle.tableau_order.specs.Standard.{IsFirstFall, IsFirstViolation, row_at}

-- the points of the row low before the column j
abbrev pub alpha_at : ℕ → List ℕ → List ℕ
alpha_at j low = take j low

-- the points of the row high up to the column j, and those of the row low from it on
abbrev pub beta_at : ℕ → List ℕ → List ℕ → List ℕ
beta_at j low high = take (j + 1) high ++ drop j low

-- the points of the row high behind the column j
abbrev pub gamma_at : ℕ → List ℕ → List ℕ
gamma_at j high = drop (j + 1) high

-- the two rows as the points of a syzygy of rank d, in which beta is ascending, at a column that is not the first
pub record SplitsRows (d j : ℕ) (low high : List ℕ) : Type 0 where
  pub not_first : 1 ≤ j
  pub sizes : AreSizes d (alpha_at j low) (beta_at j low high) (gamma_at j high)
  pub increasing : IsStrictlyIncreasing (beta_at j low high)
  pub low_row : low ≡ alpha_at j low ++ drop (j + 1) (beta_at j low high)
  pub high_row : high ≡ take (j + 1) (beta_at j low high) ++ gamma_at j high

-- two rows of which the first is not the greater one split where they fall first
abbrev pub SplitsAtFall : Type 0
SplitsAtFall =
    (d j : ℕ) (low high : List ℕ) → IsRank d → IsRow d low → IsRow d high → is_gt (row_cmp low high) ≡ false
    → IsFirstFall d low high j → SplitsRows d j low high

-- and so do the two rows of a tableau at its first violation
abbrev pub SplitsAtViolation : Type 0
SplitsAtViolation =
    (d i j : ℕ) (rows : List (List ℕ)) → IsTableau d rows → IsFirstViolation d rows i j
    → SplitsRows d j (row_at rows i) (row_at rows (i + 1))
