-- Whether polynomials are equal, and whether one is normal, with the least key at which it is not so.
use Rattle.std.proofs.Common.{◌≡◌, ◌≢◌, ◌⊎◌, inl, inr, ℕ, zero, suc, ◌+◌, ◌-◌, ◌<◌, ◌≤◌, List, [], ◌∷◌, length}
use Rattle.std.proofs.Common.{get_or, slice_index}
use Rattle.std.proofs.Common.{refl, sym, ap, subst, arith, Ordering, Less, Equal, Greater}
use Rattle.std.proofs.lemmas.Bool.{cases_lt, cases_eq}
use Rattle.std.proofs.lemmas.List.{length-map}
use Rattle.std.specs.Prelude.{ℤ, pos, negsuc}
use Rattle.coordinate_model.specs.Sums.{Terms}
use Rattle.coordinate_model.specs.Key.{Key, key_cmp, column, HasRisingColumns}
use Rattle.coordinate_model.specs.BracketPolynomial.{BracketPolynomial, IsBracketPolynomial, IsNormal}
use Rattle.tableau_order.specs.Standard.{Rises, row_at}
use Rattle.tableau_order.proofs.Columns.{column_at, rising_columns}
use Rattle.log_checker.specs.Differences.{IsLeastDifference, IsLeastNonstandard}
use Rattle.log_checker.proofs.LeastKeys.{SameSoFar, same_begins, same_goes_on, same_ends, differs_alone, other_alone}
use Rattle.log_checker.proofs.LeastKeys.{differs_before, other_before, differs_there}
use Rattle.log_checker.proofs.LeastKeys.{StandardSoFar, standard_begins, standard_goes_on, standard_ends}
use Rattle.log_checker.proofs.LeastKeys.{nonstandard_here}

-- ---- numbers

same_number : (m n : ℕ) → pos m ≡ pos n → m ≡ n
same_number m n e = cc

same_negative : (m n : ℕ) → negsuc m ≡ negsuc n → m ≡ n
same_negative m n e = cc

pub decide_int : (a b : ℤ) → (a ≡ b) ⊎ (a ≢ b)
decide_int (pos m) (pos n) = by_number (cases_eq m n)
  where
    by_number : (m ≡ n) ⊎ (m ≡ n → ⊥) → (pos m ≡ pos n) ⊎ (pos m ≢ pos n)
    by_number (inl e) = inl (ap (λ x. pos x) e)
    by_number (inr h) = inr (λ e. h (same_number m n e))
decide_int (pos m) (negsuc n) = inr (λ e. absurd cc)
decide_int (negsuc m) (pos n) = inr (λ e. absurd cc)
decide_int (negsuc m) (negsuc n) = by_number (cases_eq m n)
  where
    by_number : (m ≡ n) ⊎ (m ≡ n → ⊥) → (negsuc m ≡ negsuc n) ⊎ (negsuc m ≢ negsuc n)
    by_number (inl e) = inl (ap (λ x. negsuc x) e)
    by_number (inr h) = inr (λ e. h (same_negative m n e))

-- whether all numbers below n have P, or which has not
decide_below : (P : ℕ → Type 0) → ((j : ℕ) → P j ⊎ (P j → ⊥)) → (n : ℕ)
    → ((j : ℕ) → j < n → P j) ⊎ ((j : ℕ) × (j < n) × (P j → ⊥))
decide_below P f zero = inl (λ j l. absurd (omega arith))
decide_below P f (suc n) = with_one (decide_below P f n) (f n)
  where
    at_one : ((j : ℕ) → j < n → P j) → P n → (j : ℕ) → j < suc n → (j ≡ n) ⊎ (j ≡ n → ⊥) → P j
    at_one all p j l (inl e) = subst P (sym e) p
    at_one all p j l (inr h) = all j (by_less (cases_lt j n))
      where
        by_less : (j < n) ⊎ (n ≤ j) → j < n
        by_less (inl k) = k
        by_less (inr k) = absurd (h (omega arith))

    with_one : ((j : ℕ) → j < n → P j) ⊎ ((j : ℕ) × (j < n) × (P j → ⊥)) → P n ⊎ (P n → ⊥)
        → ((j : ℕ) → j < suc n → P j) ⊎ ((j : ℕ) × (j < suc n) × (P j → ⊥))
    with_one (inl all) (inl p) = inl (λ j l. at_one all p j l (cases_eq j n))
    with_one (inl all) (inr h) = inr (n, omega arith, h)
    with_one (inr x) p = inr (x.0, (let l = x.1 in omega arith), x.2)

-- ---- rows

decide_le : (a b : ℕ) → (a ≤ b) ⊎ (a ≤ b → ⊥)
decide_le a b = by_less (cases_lt b a)
  where
    by_less : (b < a) ⊎ (a ≤ b) → (a ≤ b) ⊎ (a ≤ b → ⊥)
    by_less (inl k) = inr (λ l. absurd (omega arith))
    by_less (inr k) = inl k

decide_rises : (d : ℕ) (low high : List ℕ) → Rises d low high ⊎ (Rises d low high → ⊥)
decide_rises d low high =
    by_all (decide_below (λ j. slice_index low j ≤ slice_index high j)
    (λ j. decide_le (slice_index low j) (slice_index high j)) d)
  where
    by_all : Rises d low high ⊎ ((j : ℕ) × (j < d) × (slice_index low j ≤ slice_index high j → ⊥))
        → Rises d low high ⊎ (Rises d low high → ⊥)
    by_all (inl h) = inl h
    by_all (inr x) = inr (λ r. x.2 (r x.0 x.1))

-- columns that rise do so from a row to the next
rises_at : (d : ℕ) (rows : List (List ℕ)) (i : ℕ) → i + 1 < length rows → HasRisingColumns d rows
    → Rises d (row_at rows i) (row_at rows (i + 1))
rises_at d rows i l h j m =
    let n : length (column j rows) ≡ length rows = length-map rows (λ r. slice_index r j) in
    let rises : get_or (column j rows) i 0 ≤ get_or (column j rows) (i + 1) 0 = h j m i (i + 1) 0 (omega arith)
    (omega arith) in
    let a : get_or (column j rows) i 0 ≡ slice_index (row_at rows i) j = column_at j rows i 0 (omega arith) in
    let b : get_or (column j rows) (i + 1) 0 ≡ slice_index (row_at rows (i + 1)) j = column_at j rows (i + 1) 0 l in
    omega arith

decide_columns : (d : ℕ) (rows : List (List ℕ)) → HasRisingColumns d rows ⊎ (HasRisingColumns d rows → ⊥)
decide_columns d rows =
    by_all
    (decide_below (λ i. Rises d (row_at rows i) (row_at rows (i + 1)))
    (λ i. decide_rises d (row_at rows i) (row_at rows (i + 1))) (length rows - 1))
  where
    by_all : ((i : ℕ) → i < length rows - 1 → Rises d (row_at rows i) (row_at rows (i + 1)))
        ⊎ ((i : ℕ) × (i < length rows - 1) × (Rises d (row_at rows i) (row_at rows (i + 1)) → ⊥))
        → HasRisingColumns d rows ⊎ (HasRisingColumns d rows → ⊥)
    by_all (inl h) = inl (rising_columns d rows (λ i l. h i (omega arith)))
    by_all (inr x) = inr (λ r. x.2 (rises_at d rows x.0 (let l = x.1 in omega arith) r))

-- ---- polynomials

-- the least key at which the polynomials differ
abbrev Difference : BracketPolynomial → BracketPolynomial → Type 0
Difference f g = (k : Key) × (c : ℤ) × (w : ℤ) × IsLeastDifference f g k c w

difference_from : (f g : BracketPolynomial) (ts us : Terms Key) → SameSoFar f.terms g.terms ts us
    → (f ≡ g) ⊎ Difference f g
difference_from f g [] [] s = inl (same_ends f g s)
difference_from f g [] (u ∷ us) s = inr (u.0, pos 0, u.1, other_alone f g u.0 u.1 us s)
difference_from f g (t ∷ ts) [] s = inr (t.0, t.1, pos 0, differs_alone f g t.0 t.1 ts s)
difference_from f g (t ∷ ts) (u ∷ us) s = by_key (key_cmp t.0 u.0) refl (λ r. difference_from f g ts us r)
  where
    by_int : key_cmp t.0 u.0 ≡ Equal → (t.1 ≡ u.1) ⊎ (t.1 ≢ u.1)
        → (SameSoFar f.terms g.terms ts us → (f ≡ g) ⊎ Difference f g) → (f ≡ g) ⊎ Difference f g
    by_int e (inl same) ih = ih (same_goes_on f.terms g.terms ts us t.0 u.0 t.1 u.1 s e same)
    by_int e (inr other) ih = inr (t.0, t.1, u.1, differs_there f g t.0 u.0 t.1 u.1 ts us s e other)

    by_key : (r : Ordering) → key_cmp t.0 u.0 ≡ r
        → (SameSoFar f.terms g.terms ts us → (f ≡ g) ⊎ Difference f g) → (f ≡ g) ⊎ Difference f g
    by_key Less e ih = inr (t.0, t.1, pos 0, differs_before f g t.0 u.0 t.1 u.1 ts us s e)
    by_key Equal e ih = by_int e (decide_int t.1 u.1) ih
    by_key Greater e ih = inr (u.0, pos 0, u.1, other_before f g t.0 u.0 t.1 u.1 ts us s e)

pub find_difference : (f g : BracketPolynomial)
    → (f ≡ g) ⊎ ((k : Key) × (c : ℤ) × (w : ℤ) × IsLeastDifference f g k c w)
find_difference f g = difference_from f g f.terms g.terms (same_begins f.terms g.terms)

nonstandard_from : (d : ℕ) (f : BracketPolynomial) → IsBracketPolynomial d 64 f → (ts : Terms Key)
    → StandardSoFar d f.terms ts → IsNormal d 64 f ⊎ ((k : Key) × IsLeastNonstandard d f k)
nonstandard_from d f h [] s = inl (standard_ends d f h s)
nonstandard_from d f h (t ∷ ts) s = by_columns (decide_columns d t.0.rows) (λ r. nonstandard_from d f h ts r)
  where
    by_columns : HasRisingColumns d t.0.rows ⊎ (HasRisingColumns d t.0.rows → ⊥)
        → (StandardSoFar d f.terms ts → IsNormal d 64 f ⊎ ((k : Key) × IsLeastNonstandard d f k))
        → IsNormal d 64 f ⊎ ((k : Key) × IsLeastNonstandard d f k)
    by_columns (inl r) ih = ih (standard_goes_on d f.terms ts t s r)
    by_columns (inr n) ih = inr (t.0, nonstandard_here d f t.0 t.1 ts s n)

pub find_nonstandard : (d : ℕ) (f : BracketPolynomial) → IsBracketPolynomial d 64 f
    → IsNormal d 64 f ⊎ ((k : Key) × IsLeastNonstandard d f k)
find_nonstandard d f h = nonstandard_from d f h f.terms (standard_begins d f.terms)
