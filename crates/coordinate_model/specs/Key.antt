-- Keys: a tableau, which is a product of brackets written as rows, times powers of parameters. Standard tableaux and
-- their diagonals are those of Sturmfels, Algorithms in Invariant Theory, section 3.1. The order of keys is this
-- library's own: lexicographic throughout.
use Rattle.std.specs.Prelude.{◌≡◌, ℕ, suc, ◌+◌, ◌<◌, ◌==◌, count_by, List, [], ◌∷◌}
use Rattle.std.specs.Prelude.{◌++◌, map, flat_map, length, slice_index, replicate}
use Rattle.std.specs.Prelude.{IsSorted}
use Rattle.std.specs.List.{AllByRecursion}
use Rattle.std.specs.List.Sorted.{IsStrictlyIncreasing, IsNonDecreasing}
use Rattle.std.specs.declared.cmp.Ordering.{Ordering}
use Rattle.std.specs.Ordering.{on, then_cmp, nat_cmp}
use Rattle.std.specs.Cmp.Lexicographic.{slice_cmp}
use Rattle.coordinate_model.specs.Sequences.{columns}
use Rattle.coordinate_model.specs.Words.{ordered}
use Rattle.coordinate_model.specs.Polynomial.{Variable, coordinate, parameter, Monomial, monomial_of, Polynomial}
use Rattle.coordinate_model.specs.Polynomial.{Polynomials, monomial, br}

-- a key: the exponents of the parameters, from parameter 0 on, and the rows of the tableau
pub record Key : Type 0 where
  pub exponents : List ℕ
  pub rows : List (List ℕ)

-- the order of rows: lexicographic, a prefix first
abbrev pub row_cmp : List ℕ → List ℕ → Ordering
row_cmp = slice_cmp nat_cmp

-- the order of tableaux: lexicographic by their rows, a prefix first
abbrev pub rows_cmp : List (List ℕ) → List (List ℕ) → Ordering
rows_cmp = slice_cmp row_cmp

-- the order of keys: lexicographic by the exponents from parameter 0 on, and then the order of tableaux
abbrev pub key_cmp : Key → Key → Ordering
key_cmp = then_cmp (on (λ k. k.exponents) (slice_cmp nat_cmp)) (on (λ k. k.rows) rows_cmp)

-- a row of rank d: d points that strictly increase
abbrev pub IsRow : ℕ → List ℕ → Type 0
IsRow d r = (length r ≡ d) × IsStrictlyIncreasing r

-- a key of rank d and n parameters: its rows ascend, and a row may come more than once
pub record IsKey (d n : ℕ) (k : Key) : Type 0 where
  pub parameters : length k.exponents ≡ n
  pub each : AllByRecursion (IsRow d) k.rows
  pub ascending : IsSorted row_cmp k.rows

-- the points of a tableau, row after row
abbrev pub points : List (List ℕ) → List ℕ
points rows = flat_map (λ r. r) rows

-- the tableau of the key has the points ps, each as often
abbrev pub HasPoints : List ℕ → Key → Type 0
HasPoints ps k = (i : ℕ) → count_by (λ p. i == p) (points k.rows) ≡ count_by (λ p. i == p) ps

-- the column of a tableau at the place j, counted from 0: the points there, from the first row on
abbrev pub column : ℕ → List (List ℕ) → List ℕ
column j rows = map (λ r. slice_index r j) rows

-- every column of a tableau of rank d weakly increases
abbrev pub HasRisingColumns : ℕ → List (List ℕ) → Type 0
HasRisingColumns d rows = (j : ℕ) → j < d → IsNonDecreasing (column j rows)

-- a standard key: its tableau, whose rows ascend, is standard
pub record IsStandardKey (d n : ℕ) (k : Key) : Type 0 where
  pub key : IsKey d n k
  pub columns : HasRisingColumns d k.rows

-- the product of the parameters i, i + 1, .., each to its power
abbrev pub powers : ℕ → List ℕ → List Variable
powers i [] = []
powers i (e ∷ es) = replicate e (parameter i) ++ powers (suc i) es

-- the product of the brackets of the rows
abbrev pub brackets : List (List ℕ) → Polynomial
brackets [] = Polynomials.𝟙
brackets (r ∷ rs) = Polynomials.◌⊗◌ (br r) (brackets rs)

-- the value of a key: the product of its parameters and of the brackets of its rows
unfoldable pub key_value : Key → Polynomial
key_value k = Polynomials.◌⊗◌ (monomial (powers 0 k.exponents)) (brackets k.rows)

-- the product x(p1, w1) * x(p2, w2) * ..
abbrev pub coordinate_product : List ℕ → List ℕ → List Variable
coordinate_product [] w = []
coordinate_product (p ∷ ps) [] = []
coordinate_product (p ∷ ps) (j ∷ w) = coordinate p j ∷ coordinate_product ps w

-- the diagonal product of the rows: for each row p1 .. pd, x(p1, 1) * .. * x(pd, d)
abbrev pub diagonal : List (List ℕ) → List Variable
diagonal [] = []
diagonal (r ∷ rs) = coordinate_product r (columns (length r)) ++ diagonal rs

-- the parameters of the key times its diagonal product
unfoldable pub key_lead : Key → Monomial
key_lead k = monomial_of (powers 0 k.exponents ++ diagonal k.rows)

-- the sums of exponents, where a list counts as 0 from its end on
abbrev pub add_exponents : List ℕ → List ℕ → List ℕ
add_exponents [] f = f
add_exponents (x ∷ e) [] = x ∷ e
add_exponents (x ∷ e) (y ∷ f) = (x + y) ∷ add_exponents e f

-- the product of keys: the exponents added, and the rows of both in ascending order
abbrev pub key_times : Key → Key → Key
key_times k l =
    record { exponents = add_exponents k.exponents l.exponents; rows = ordered row_cmp (k.rows ++ l.rows) }

-- the key without parameters that has these rows
abbrev pub rows_key : List (List ℕ) → Key
rows_key rows = record { exponents = []; rows = rows }
