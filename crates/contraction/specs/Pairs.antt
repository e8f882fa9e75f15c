-- What the code knows of the terms of a polynomial and of two of them.
use Rattle.std.specs.Prelude.{◌≡◌, ◌≢◌, ◌==◌, ◌&&◌, ℕ, ◌≤◌, ℤ, pos, ◌+ℤ◌, ◌*ℤ◌, neg_ℤ, T, Bool, true}
use Rattle.std.specs.Prelude.{List, [], ◌++◌, take, drop, length, Option, Some, None, if◌then◌else◌}
use Rattle.std.specs.List.{AllByRecursion}
use Rattle.coordinate_model.specs.Sums.{is_zero, coefficient}
use Rattle.coordinate_model.specs.Key.{Key, IsKey, rows_key}
use Rattle.coordinate_model.specs.Syzygy.{syz}
use Rattle.tableau_order.specs.Standard.{row_at}
use Rattle.bracket_poly.specs.Tracked.{fits}
use Rattle.contraction.specs.Passes.{own_rows, shared, further, same_points, are_alike}

-- a term of rank d in 64 parameters, whose exponents are at most 1000 and whose integer is not zero and fits
pub record IsTerm (d : ℕ) (t : Key × ℤ) : Type 0 where
  pub key : IsKey d 64 t.0
  pub degrees : AllByRecursion (λ e. e ≤ 1000) t.0.exponents
  pub not_zero : t.1 ≢ pos 0
  pub small : T (fits t.1)

-- whether two keys have the same parameters, and each two rows alone
abbrev pub differ_in_two : Key → Key → Bool
differ_in_two k l =
    same_points k.exponents l.exponents
    && ((length (own_rows k.rows l.rows) == 2) && (length (own_rows l.rows k.rows) == 2))

-- the points that two rows share, and the further ones but the least
abbrev pub beta_of : List (List ℕ) → List ℕ
beta_of rows = shared (row_at rows 0) (row_at rows 1) ++ drop 1 (further (row_at rows 0) (row_at rows 1))

-- the points that two rows share, and the least further one
abbrev pub gamma_of : List (List ℕ) → List ℕ
gamma_of rows = shared (row_at rows 0) (row_at rows 1) ++ take 1 (further (row_at rows 0) (row_at rows 1))

-- two pairs of rows are alike, and these are the lists of their syzygy
pub record AreListsOf (rows others : List (List ℕ)) (beta gamma : List ℕ) : Type 0 where
  pub alike : are_alike rows others ≡ true
  pub beta_is : beta ≡ beta_of rows
  pub gamma_is : gamma ≡ gamma_of rows

-- the integer of the product of the rows in the syzygy of empty alpha and these lists
abbrev pub count_of : List ℕ → List ℕ → List (List ℕ) → ℤ
count_of beta gamma rows = coefficient (syz [] beta gamma) (rows_key rows)

-- the multiplier that takes the integer c away at the count m, where it takes also e away at the count n
abbrev pub balance : ℤ → ℤ → ℤ → ℤ → Option ℤ
balance c m e n =
    if is_zero (c +ℤ neg_ℤ (c *ℤ m) *ℤ m) && is_zero (e +ℤ neg_ℤ (c *ℤ m) *ℤ n) then Some (neg_ℤ (c *ℤ m)) else None
