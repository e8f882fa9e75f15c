-- Standard row lists, and the first place where a row list is not standard (Sturmfels, Algorithms in Invariant Theory,
-- section 3.1). Rows and columns are counted from 0.
use Rattle.std.specs.Prelude.{ℕ, ◌+◌, ◌<◌, ◌≤◌, List, [], length, slice_index, slice_index_or, IsSorted}
use Rattle.coordinate_model.specs.Key.{row_cmp, HasRisingColumns}

-- a standard row list of rank d: its rows ascend, and every column rises weakly over the whole list
pub record IsStandard (d : ℕ) (rows : List (List ℕ)) : Type 0 where
  pub ascending : IsSorted row_cmp rows
  pub columns : HasRisingColumns d rows

-- the row at the place i
abbrev pub row_at : List (List ℕ) → ℕ → List ℕ
row_at rows i = slice_index_or rows i []

-- in each of d columns the row low is at most the row high
abbrev pub Rises : ℕ → List ℕ → List ℕ → Type 0
Rises d low high = (j : ℕ) → j < d → slice_index low j ≤ slice_index high j

-- the column j is the first of d in which the row low is greater than the row high
pub record IsFirstFall (d : ℕ) (low high : List ℕ) (j : ℕ) : Type 0 where
  pub within : j < d
  pub falls : slice_index high j < slice_index low j
  pub before : (i : ℕ) → i < j → slice_index low i ≤ slice_index high i

-- the row at the place i is the first that is greater than the next in some column, and j the first such column
pub record IsFirstViolation (d : ℕ) (rows : List (List ℕ)) (i j : ℕ) : Type 0 where
  pub within : i + 1 < length rows
  pub fall : IsFirstFall d (row_at rows i) (row_at rows (i + 1)) j
  pub before : (k : ℕ) → k < i → Rises d (row_at rows k) (row_at rows (k + 1))
