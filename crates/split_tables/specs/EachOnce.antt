-- What a table of splits promises: each choice of places once, in lexicographic order.
use Rattle.std.specs.Prelude.{◌≡◌, ℕ, ◌<◌, List, ◌∷◌, ◌++◌, map, length, Contains}
use Rattle.std.specs.List.{AllByRecursion}
use Rattle.std.specs.List.Sorted.{IsStrictlyIncreasing}
use Rattle.std.specs.declared.cmp.Ordering.TheVariants.{Less}
use Rattle.coordinate_model.specs.Sequences.{range, splits, without}
use Rattle.coordinate_model.specs.Key.{row_cmp}

-- k of n places, in ascending order
pub record IsChoice (n k : ℕ) (places : List ℕ) : Type 0 where
  pub count : length places ≡ k
  pub increasing : IsStrictlyIncreasing places
  pub within : AllByRecursion (λ p. p < n) places

-- the chosen places of each split, in the order of the table
abbrev pub choices : ℕ → ℕ → List (List ℕ)
choices n k = map (λ t. t.0) (splits k (range n))

-- the table has each choice, and nothing else; it goes up strictly in lexicographic order, so that each comes once; and
-- beside each choice stand the other places in ascending order
pub record ListsEachChoice (n k : ℕ) : Type 0 where
  pub every : (places : List ℕ) → IsChoice n k places → Contains (choices n k) places
  pub only : AllByRecursion (IsChoice n k) (choices n k)
  pub ascending : (front back : List (List ℕ)) (x y : List ℕ) → choices n k ≡ front ++ x ∷ y ∷ back → row_cmp x y ≡ Less
  pub others : AllByRecursion (λ t. t.1 ≡ without (range n) t.0) (splits k (range n))
