-- Heads: numbers that tell most keys apart, and where two are different their order is that of the keys.
use Rattle.std.specs.Prelude.{◌≡◌, ⊤, ℕ, zero, suc, ◌+◌, ◌*◌, ◌<◌, ◌≤◌, cond, List, [], ◌∷◌, length, get_or, replicate}
use Rattle.std.specs.Ordering.{eq_by_cmp, nat_cmp}
use Rattle.std.specs.Cmp.Lexicographic.{slice_cmp}
use Rattle.coordinate_model.specs.Key.{Key}

-- n digits in base 256 behind the number a: the points of the row, and then zeros
abbrev pub digits : ℕ → ℕ → List ℕ → ℕ
digits zero a row = a
digits (suc n) a [] = digits n (a * 256) []
digits (suc n) a (p ∷ row) = digits n (a * 256 + p) row

-- the row as a number of four digits
abbrev pub row_number : List ℕ → ℕ
row_number row = digits 4 0 row

-- the first two rows as a number of eight digits
abbrev pub rows_number : List (List ℕ) → ℕ
rows_number [] = 0
rows_number (r ∷ []) = row_number r * 4294967296
rows_number (r ∷ s ∷ rows) = row_number r * 4294967296 + row_number s

-- the number of the first two rows where the key has no parameter, and else the greatest of 64 bits
abbrev pub key_number : Key → ℕ
key_number k =
    cond (eq_by_cmp (slice_cmp nat_cmp) k.exponents (replicate 64 0)) (rows_number k.rows) 18446744073709551615

-- a row of d points, four at most, that are bytes
pub record IsByteRow (d : ℕ) (row : List ℕ) : Type 0 where
  pub long : length row ≡ d
  pub short : d ≤ 4
  pub bytes : (i : ℕ) → get_or row i 0 < 256

-- the first two rows are so
abbrev pub BeginsWithBytes : ℕ → List (List ℕ) → Type 0
BeginsWithBytes d [] = ⊤
BeginsWithBytes d (r ∷ []) = IsByteRow d r
BeginsWithBytes d (r ∷ s ∷ rows) = IsByteRow d r × IsByteRow d s

-- h is the head of the key
pub record IsHead (d : ℕ) (k : Key) (h : ℕ) : Type 0 where
  pub parameters : length k.exponents ≡ 64
  pub points : BeginsWithBytes d k.rows
  pub number : h ≡ key_number k
