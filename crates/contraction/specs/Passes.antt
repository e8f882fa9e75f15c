-- Passes of contraction: two terms that a three-term syzygy of Grassmann and Pluecker turns into one (after H. Li and
-- Y. Wu, Journal of Symbolic Computation 36, 2003). Which pair comes first, and the greatest number of terms, are this
-- library's own.
use Rattle.std.specs.Prelude.{ℕ, zero, suc, ◌==◌, ◌&&◌, Bool, if◌then◌else◌, ℤ, pos, ◌+ℤ◌, ◌*ℤ◌, neg_ℤ}
use Rattle.std.specs.Prelude.{List, [], ◌∷◌, ◌++◌, filter, take, drop, length, nat_lt, Option, Some, None}
use Rattle.std.specs.Ordering.{eq_by_cmp}
use Rattle.coordinate_model.specs.Sequences.{has, without}
use Rattle.coordinate_model.specs.Sums.{Terms, is_zero, coefficient}
use Rattle.coordinate_model.specs.Key.{Key, row_cmp, rows_key}
use Rattle.coordinate_model.specs.BracketPolynomial.{BracketPolynomial}
use Rattle.coordinate_model.specs.Syzygy.{Use, sorted, syz, additions}
use Rattle.tableau_order.specs.Standard.{row_at}
use Rattle.bracket_poly.specs.Tracked.{Tracked, plus_terms, first_limit}
use Rattle.straightening.specs.Runs.{Run, limit_stop, ended, after_use}

-- ---- rows

-- the rows but the first that is this one
abbrev pub less_row : List ℕ → List (List ℕ) → List (List ℕ)
less_row r [] = []
less_row r (x ∷ rows) = if eq_by_cmp row_cmp r x then rows else x ∷ less_row r rows

-- the rows of the first list that the second lacks, each as often as it lacks it
abbrev pub own_rows : List (List ℕ) → List (List ℕ) → List (List ℕ)
own_rows rows [] = rows
own_rows rows (r ∷ others) = own_rows (less_row r rows) others

-- the points of a row that another has too, in their order
abbrev pub shared : List ℕ → List ℕ → List ℕ
shared low high = filter (has high) low

-- the points that one of two rows has alone, in ascending order
abbrev pub further : List ℕ → List ℕ → List ℕ
further low high = sorted (without low high ++ without high low)

-- ---- a pass

-- the integer of the product of two rows in the syzygy of a use
abbrev pub count_in : Use → List (List ℕ) → ℤ
count_in u rows = coefficient (syz u.alpha u.beta u.gamma) (rows_key rows)

-- the use that takes a term away by these two rows of it: its syzygy has the points that both share, and in ascending
-- order the further ones
abbrev pub use_by : Key × ℤ → List (List ℕ) → Use
use_by t rows =
    let S = shared (row_at rows 0) (row_at rows 1) in
    let others = further (row_at rows 0) (row_at rows 1) in
    let u : Use = record {
      alpha = [];
      beta = S ++ drop 1 others;
      gamma = S ++ take 1 others;
      multiplier = pos 1;
      exponents = t.0.exponents;
      rest = own_rows t.0.rows rows;
    } in
    record u { multiplier = neg_ℤ (t.1 *ℤ count_in u rows) }

-- whether the use takes a term with this integer and these two rows away
abbrev pub cancels : Use → ℤ → List (List ℕ) → Bool
cancels u c rows = is_zero (c +ℤ u.multiplier *ℤ count_in u rows)

-- whether two lists of points are equal
abbrev pub same_points : List ℕ → List ℕ → Bool
same_points xs ys = eq_by_cmp row_cmp xs ys

-- whether two pairs of rows share the same points within each pair, and have the same four further ones
abbrev pub are_alike : List (List ℕ) → List (List ℕ) → Bool
are_alike rows others =
    length rows == 2
    && (length others == 2
    && (same_points (shared (row_at rows 0) (row_at rows 1)) (shared (row_at others 0) (row_at others 1))
    && (same_points (further (row_at rows 0) (row_at rows 1)) (further (row_at others 0) (row_at others 1))
    && length (further (row_at rows 0) (row_at rows 1)) == 4)))

-- the use that takes two terms away, where they have the same parameters and differ in two such rows each
abbrev pub use_of_pair : Key × ℤ → Key × ℤ → Option Use
use_of_pair t s =
    let rows = own_rows t.0.rows s.0.rows in
    let others = own_rows s.0.rows t.0.rows in
    let u = use_by t rows in
    if same_points t.0.exponents s.0.exponents
    && (are_alike rows others && (cancels u t.1 rows && cancels u s.1 others)) then Some u
    else None

-- the use of the term with the first of these that has one with it
abbrev pub first_with : Key × ℤ → Terms Key → Option Use
first_with t [] = None
first_with t (s ∷ ts) = elim (use_of_pair t s) [ Some u ↦ Some u | None ↦ first_with t ts ]

-- the use of the first pair of terms, in lexicographic order, that has one
abbrev pub first_use : Terms Key → Option Use
first_use [] = None
first_use (t ∷ ts) = elim (first_with t ts) [ Some u ↦ Some u | None ↦ first_use ts ]

-- the pass of a polynomial
abbrev pub pass : BracketPolynomial → Option Use
pass f = first_use f.terms

-- ---- passes

-- at most so many passes, until there is none
abbrev pub passes : ℕ → Tracked → Run
passes zero p = ended p None
passes (suc n) p = elim (pass p.sum) [
  | None ↦ ended p None
  | Some u ↦ elim (first_limit p (additions u)) [
    | Some limit ↦ ended p (Some (limit_stop limit))
    | None ↦ after_use u (passes n (plus_terms p (additions u)))
  ]
]

-- the passes of a start: each makes the terms fewer, so there are no more passes than terms
unfoldable pub contraction : Tracked → Run
contraction p = passes (length p.sum.terms) p

-- the greatest number of terms of a start that is contracted
abbrev pub most_terms : ℕ
most_terms = 200

-- the passes of a start, and none where it has more terms than that
abbrev pub contracted : Tracked → Run
contracted p = if nat_lt most_terms (length p.sum.terms) then ended p None else contraction p
