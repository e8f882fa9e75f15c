-- Sequences: their inversions and signs, permutations, the ways to split a list in two, and sets of columns. Signs are
-- those of determinants: +1 where the inversions are even in number, and -1 otherwise.
use Rattle.std.specs.Prelude.{ℕ, zero, suc, ◌+◌, ◌%◌, ◌≤◌, count_by, flat_map, filter, filter_map, slice_get, Bool}
use Rattle.std.specs.Prelude.{false}
use Rattle.std.specs.Prelude.{not, ◌&&◌, ◌||◌, nat_lt, ◌==◌, if◌then◌else◌, List, [], ◌∷◌, ◌++◌, map}
use Rattle.std.specs.Prelude.{ℤ, pos, negsuc}
use Rattle.std.specs.List.{list_any, list_all}
use Rattle.std.specs.Bool.{beq}

-- how many pairs of entries stand in the wrong order: a greater one before a lesser one
abbrev pub inversions : List ℕ → ℕ
inversions [] = 0
inversions (x ∷ xs) = count_by (λ y. nat_lt y x) xs + inversions xs

-- whether the sign of the sequence is -1
abbrev pub is_odd : List ℕ → Bool
is_odd xs = inversions xs % 2 == 1

-- the sign of the sequence, +1 or -1
abbrev pub sign_of : List ℕ → ℤ
sign_of xs = if is_odd xs then negsuc 0 else pos 1

-- the k numbers n, n + 1, ..
abbrev pub range_from : ℕ → ℕ → List ℕ
range_from n zero = []
range_from n (suc k) = n ∷ range_from (suc n) k

-- 0, .., k - 1: the places of a list of k entries
abbrev pub range : ℕ → List ℕ
range k = range_from 0 k

-- the ranks 2, 3 and 4
abbrev pub IsRank : ℕ → Type 0
IsRank d = (2 ≤ d) × (d ≤ 4)

-- 1, .., d: the columns in rank d
abbrev pub columns : ℕ → List ℕ
columns d = range_from 1 d

module _ {A : Type 0} where
  -- the list with x put in at each place
  abbrev pub insertions : A → List A → List (List A)
  insertions x [] = (x ∷ []) ∷ []
  insertions x (y ∷ ys) = (x ∷ y ∷ ys) ∷ map (λ zs. y ∷ zs) (insertions x ys)

  -- every order of the list
  abbrev pub permutations : List A → List (List A)
  permutations [] = [] ∷ []
  permutations (x ∷ xs) = flat_map (insertions x) (permutations xs)

  -- every way to choose k entries, in lexicographic order: the chosen ones and the others, each in their order
  abbrev pub splits : ℕ → List A → List (List A × List A)
  splits zero xs = ([], xs) ∷ []
  splits (suc k) [] = []
  splits (suc k) (x ∷ xs) = map (λ s. (x ∷ s.0, s.1)) (splits k xs) ++ map (λ s. (s.0, x ∷ s.1)) (splits (suc k) xs)

  -- the entries of the list at the places
  abbrev pub at_places : List A → List ℕ → List A
  at_places xs places = filter_map (slice_get xs) places

-- the sets of k columns in rank d, each as its ascending list
abbrev pub subsets : ℕ → ℕ → List (List ℕ)
subsets d k = map (λ s. s.0) (splits k (columns d))

-- whether x is an entry
abbrev pub has : List ℕ → ℕ → Bool
has xs x = list_any (λ y. x == y) xs

-- whether an entry comes twice
abbrev pub repeats : List ℕ → Bool
repeats [] = false
repeats (x ∷ xs) = has xs x || repeats xs

-- the entries of xs that ys lacks
abbrev pub without : List ℕ → List ℕ → List ℕ
without xs ys = filter (λ x. not (has ys x)) xs

-- whether I and J have the union 1, .., d and the intersection K, column by column
abbrev pub meets_in : ℕ → List ℕ → List ℕ → List ℕ → Bool
meets_in d K I J = list_all (λ c. (has I c || has J c) && beq (has K c) (has I c && has J c)) (columns d)
