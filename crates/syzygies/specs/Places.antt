-- The syzygy at the first violation of a tableau, and what it does there (Sturmfels, Algorithms in Invariant Theory,
-- section 3.1).
use Rattle.std.specs.Prelude.{◌≡◌, ◌⊎◌, ℕ, ◌+◌, ◌-◌, ℤ, pos, List, [], ◌∷◌, ◌++◌, take, drop, length, replicate, T, false}
use Rattle.std.specs.declared.cmp.Ordering.TheVariants.{Less}
use Rattle.std.specs.FinMap.{is_sorted}
use Rattle.std.specs.Ordering.{is_gt}
use Rattle.coordinate_model.specs.Sequences.{IsRank}
use Rattle.coordinate_model.specs.Sums.{coefficient}
use Rattle.coordinate_model.specs.Key.{Key, key_cmp, IsRow, row_cmp, rows_cmp, rows_key}
use Rattle.coordinate_model.specs.BracketPolynomial.{BracketPolynomial, AllKeys}
use Rattle.coordinate_model.specs.Syzygy.{Use, syz, additions}
use Rattle.tableau_order.specs.Merged.{merged_rows, SamePoints}
use Rattle.tableau_order.specs.Standard.{IsFirstFall, IsFirstViolation, row_at}
use Rattle.tableau_order.specs.Tableaux.{IsTableau}
use Rattle.tableau_order.specs.Violations.{alpha_at, beta_at, gamma_at}
use Rattle.syzygies.specs.declared.place.Parts.{Parts}

-- the rows of a tableau but those at the places i and i + 1
abbrev pub rest_at : List (List ℕ) → ℕ → List (List ℕ)
rest_at rows i = take i rows ++ drop (i + 2) rows

-- the syzygy of two rows that fall first at the column j
abbrev pub syzygy_at : ℕ → List ℕ → List ℕ → BracketPolynomial
syzygy_at j low high = syz (alpha_at j low) (beta_at j low high) (gamma_at j high)

-- so many points in front of places that are 0, as in an array of n places
pub record ArePadded (n size : ℕ) (places points : List ℕ) : Type 0 where
  pub points_are : take size places ≡ points
  pub count : size ≡ length points
  pub unused : drop size places ≡ replicate (n - size) 0

-- the parts are those of the syzygy of the two rows that fall first at the column j
pub record ArePartsAt (j : ℕ) (low high : List ℕ) (parts : Parts) : Type 0 where
  pub alpha : ArePadded 4 parts.alpha_len parts.alpha (alpha_at j low)
  pub beta : ArePadded 5 (length (beta_at j low high)) parts.beta (beta_at j low high)
  pub gamma : ArePadded 4 parts.gamma_len parts.gamma (gamma_at j high)

-- the product of two rows has this coefficient in the syzygy
abbrev pub HasCoefficient : ℕ → List ℕ → List ℕ → ℤ → Type 0
HasCoefficient j low high c = coefficient (syzygy_at j low high) (rows_key (low ∷ high ∷ [])) ≡ c

-- where two rows fall first, their product has the coefficient +1 in their syzygy
abbrev pub RewritesOnce : Type 0
RewritesOnce =
    (d j : ℕ) (low high : List ℕ) → IsRank d → IsRow d low → IsRow d high → is_gt (row_cmp low high) ≡ false
    → IsFirstFall d low high j → HasCoefficient j low high (pos 1)

-- the key is that of the two rows, or has two rows of which the first is less than the first of them
abbrev pub IsSameOrSmaller : List ℕ → List ℕ → Key → Type 0
IsSameOrSmaller low high k =
    (k ≡ rows_key (low ∷ high ∷ []))
    ⊎ ((first : List ℕ) × (second : List ℕ) × (k ≡ rows_key (first ∷ second ∷ [])) × (row_cmp first low ≡ Less))

-- and every other term has two rows, of which the first is less than the first one there
abbrev pub OthersAreSmaller : Type 0
OthersAreSmaller =
    (d j : ℕ) (low high : List ℕ) → IsRank d → IsRow d low → IsRow d high → is_gt (row_cmp low high) ≡ false
    → IsFirstFall d low high j → AllKeys (IsSameOrSmaller low high) (syzygy_at j low high)

-- so each key of a multiple of the syzygy, with the other rows of a tableau merged in, is that tableau or a smaller one
abbrev pub RewritesToSmaller : Type 0
RewritesToSmaller =
    (d i j : ℕ) (rows : List (List ℕ)) → IsTableau d rows → IsFirstViolation d rows i j
    → AllKeys
    (λ k. let merged = merged_rows (rest_at rows i) k.rows in
    ((merged ≡ rows) ⊎ (rows_cmp merged rows ≡ Less)) × SamePoints merged rows)
    (syzygy_at j (row_at rows i) (row_at rows (i + 1)))

-- the terms that a use adds are in strictly ascending order
abbrev pub AdditionsAscend : Type 0
AdditionsAscend = (u : Use) → T (is_sorted key_cmp (additions u))
