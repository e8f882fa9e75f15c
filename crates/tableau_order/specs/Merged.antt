-- Row lists with other rows merged in.
use Rattle.std.specs.Prelude.{◌≡◌, ℕ, ◌==◌, List, [], ◌∷◌, ◌++◌, length, count_by, false}
use Rattle.std.specs.declared.cmp.Ordering.TheVariants.{Less}
use Rattle.std.specs.Ordering.{is_gt}
use Rattle.coordinate_model.specs.Key.{row_cmp, rows_cmp, points}
use Rattle.coordinate_model.specs.Words.{ordered}

-- the tableau of the rows of both lists
abbrev pub merged_rows : List (List ℕ) → List (List ℕ) → List (List ℕ)
merged_rows rest rows = ordered row_cmp (rest ++ rows)

-- two row lists have the same points, each as often
abbrev pub SamePoints : List (List ℕ) → List (List ℕ) → Type 0
SamePoints xs ys = (i : ℕ) → count_by (λ p. i == p) (points xs) ≡ count_by (λ p. i == p) (points ys)

-- row lists of one length keep their order where the same rows are merged into both
abbrev pub KeepsOrder : Type 0
KeepsOrder =
    (rest xs ys : List (List ℕ)) → length xs ≡ length ys
    → rows_cmp (merged_rows rest xs) (merged_rows rest ys) ≡ rows_cmp (ordered row_cmp xs) (ordered row_cmp ys)

-- a pair of rows of which one is less than both rows of another pair makes the smaller tableau
abbrev pub SmallerPair : Type 0
SmallerPair =
    (rest : List (List ℕ)) (low high first second : List ℕ) → is_gt (row_cmp low high) ≡ false
    → row_cmp first low ≡ Less
    → rows_cmp (merged_rows rest (first ∷ second ∷ [])) (merged_rows rest (low ∷ high ∷ [])) ≡ Less

-- row lists with the same points have them still where the same rows are merged into both, and no point is lost
pub record KeepsPointsOf (rest xs : List (List ℕ)) : Type 0 where
  pub all : SamePoints (merged_rows rest xs) (rest ++ xs)
  pub same : (ys : List (List ℕ)) → SamePoints xs ys → SamePoints (merged_rows rest xs) (merged_rows rest ys)

-- so for all row lists
abbrev pub KeepsPoints : Type 0
KeepsPoints = (rest xs : List (List ℕ)) → KeepsPointsOf rest xs
