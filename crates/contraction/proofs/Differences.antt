-- How many rows one of two ascending lists has alone, from their first rows on.
use Rattle.std.proofs.Common.{◌≡◌, ℕ, suc, ◌<◌, ◌≤◌, ◌-◌, ◌==◌, ◌&&◌, Bool, true, false, List, [], ◌∷◌, length}
use Rattle.std.proofs.Common.{take, drop, get_or, refl, sym, ap, ap₂, ◌∙◌, arith, subst, ◌+◌, eq-eqb, ne_eqb, inl, inr}
use Rattle.std.proofs.lemmas.Bool.Decides.{eqb_tells}
use Rattle.std.proofs.lemmas.List.{take_all}
use Rattle.std.specs.Prelude.{IsSorted}
use Rattle.std.specs.Cmp.Lexicographic.{nat_list_cmp_total}
use Rattle.std.specs.Ordering.{ordering_reverse}
use Rattle.std.specs.declared.cmp.Ordering.{Ordering}
use Rattle.std.specs.declared.cmp.Ordering.TheVariants.{Less, Equal, Greater}
use Rattle.coordinate_model.specs.Key.{row_cmp}
use Rattle.contraction.specs.Passes.{own_rows}
use Rattle.contraction.proofs.PointLists.{same_turned}
use Rattle.contraction.proofs.RowCounts.{Rows}
use Rattle.contraction.proofs.RowsApart.{sorted_tail, own_none, own_less, own_equal, own_greater}

-- whether the lists have so many rows alone
abbrev pub differ : Rows → Rows → ℕ → ℕ → Bool
differ rows others m n = (length (own_rows rows others) == m) && (length (own_rows others rows) == n)

-- a slice behind its first item, as code cuts it
abbrev pub behind : {A : Type 0} → List A → List A
behind xs = take (length xs - 1) (drop 1 xs)

pub behind_is : {A : Type 0} (x : A) (xs : List A) → behind (x ∷ xs) ≡ xs
behind_is x xs = take_all (suc (length xs) - 1) xs (omega arith)

pub length-behind : {A : Type 0} (xs : List A) → 1 ≤ length xs → length (behind xs) + 1 ≡ length xs
length-behind [] l = absurd (omega arith)
length-behind (x ∷ xs) l = let e : length (behind (x ∷ xs)) ≡ length xs = ap length (behind_is x xs) in omega arith

pub sorted_behind : (rows : Rows) → 1 ≤ length rows → IsSorted row_cmp rows → IsSorted row_cmp (behind rows)
sorted_behind [] l s = absurd (omega arith)
sorted_behind (x ∷ rows) l s =
    subst (λ (w : Rows). IsSorted row_cmp w) (sym (behind_is x rows)) (sorted_tail x rows s)

-- ---- where a list ends

same_number : (m : ℕ) → (0 == m) ≡ (m == 0)
same_number m = same_turned m 0

pub rows_end : (others : Rows) (m n : ℕ) → ((m == 0) && (length others == n)) ≡ differ [] others m n
rows_end others m n =
    ap (λ b. b && (length others == n)) (sym (same_number m))
    ∙ ap (λ (w : Rows). (length w == m) && (length others == n)) (sym (own_none others))

pub others_end : (rows : Rows) (m n : ℕ) → ((length rows == m) && (n == 0)) ≡ differ rows [] m n
others_end rows m n =
    ap (λ b. (length rows == m) && b) (sym (same_number n))
    ∙ ap (λ (w : Rows). (length rows == m) && (length w == n)) (sym (own_none rows))

-- ---- the first rows

one_more : (k m : ℕ) → 0 < m → (k == m - 1) ≡ (suc k == m)
one_more k m l = elim (eqb_tells k (m - 1)) [
  | inl h ↦ h.0 ∙ sym (eq-eqb (suc k) m (let e : k ≡ m - 1 = h.1 in omega arith))
  | inr h ↦ h.0 ∙ sym (ne_eqb (suc k) m (λ e. h.1 (omega arith)))
]

none_more : (k m : ℕ) → m ≤ 0 → (suc k == m) ≡ false
none_more k m l = ne_eqb (suc k) m (λ e. absurd (omega arith))

and_false : (b : Bool) → (b && false) ≡ false
and_false true = refl
and_false false = refl

module _ (x : List ℕ) (xs : Rows) (y : List ℕ) (ys : Rows) (s : IsSorted row_cmp (x ∷ xs))
    (t : IsSorted row_cmp (y ∷ ys)) (m n : ℕ) where
  flipped : row_cmp y x ≡ ordering_reverse (row_cmp x y)
  flipped = nat_list_cmp_total.antisymm y x

  less_is : row_cmp x y ≡ Less
      → differ (x ∷ xs) (y ∷ ys) m n
      ≡ ((suc (length (own_rows xs (y ∷ ys))) == m) && (length (own_rows (y ∷ ys) xs) == n))
  less_is e =
      ap₂ (λ (v w : Rows). (length v == m) && (length w == n)) (own_less x xs y ys e t)
      (own_greater y ys x xs (flipped ∙ ap ordering_reverse e) t)

  greater_is : row_cmp x y ≡ Greater
      → differ (x ∷ xs) (y ∷ ys) m n
      ≡ ((length (own_rows (x ∷ xs) ys) == m) && (suc (length (own_rows ys (x ∷ xs))) == n))
  greater_is e =
      ap₂ (λ (v w : Rows). (length v == m) && (length w == n)) (own_greater x xs y ys e s)
      (own_less y ys x xs (flipped ∙ ap ordering_reverse e) s)

  pub differ_equal : row_cmp x y ≡ Equal → differ xs ys m n ≡ differ (x ∷ xs) (y ∷ ys) m n
  differ_equal e =
      sym (ap₂ (λ (v w : Rows). (length v == m) && (length w == n)) (own_equal x xs y ys e)
      (own_equal y ys x xs (flipped ∙ ap ordering_reverse e)))

  pub differ_less : row_cmp x y ≡ Less → 0 < m → differ xs (y ∷ ys) (m - 1) n ≡ differ (x ∷ xs) (y ∷ ys) m n
  differ_less e l =
      ap (λ b. b && (length (own_rows (y ∷ ys) xs) == n)) (one_more (length (own_rows xs (y ∷ ys))) m l)
      ∙ sym (less_is e)

  pub no_less : row_cmp x y ≡ Less → m ≤ 0 → false ≡ differ (x ∷ xs) (y ∷ ys) m n
  no_less e l =
      ap (λ b. b && (length (own_rows (y ∷ ys) xs) == n)) (sym (none_more (length (own_rows xs (y ∷ ys))) m l))
      ∙ sym (less_is e)

  pub differ_greater : row_cmp x y ≡ Greater → 0 < n → differ (x ∷ xs) ys m (n - 1) ≡ differ (x ∷ xs) (y ∷ ys) m n
  differ_greater e l =
      ap (λ b. (length (own_rows (x ∷ xs) ys) == m) && b) (one_more (length (own_rows ys (x ∷ xs))) n l)
      ∙ sym (greater_is e)

  pub no_greater : row_cmp x y ≡ Greater → n ≤ 0 → false ≡ differ (x ∷ xs) (y ∷ ys) m n
  no_greater e l =
      sym (and_false (length (own_rows (x ∷ xs) ys) == m))
      ∙ ap (λ b. (length (own_rows (x ∷ xs) ys) == m) && b) (sym (none_more (length (own_rows ys (x ∷ xs))) n l))
      ∙ sym (greater_is e)

-- ---- slices

-- what is known of both slices and their first rows
pub record AreFirst (rows others : Rows) (x y : List ℕ) : Type 0 where
  pub some_rows : 1 ≤ length rows
  pub some_others : 1 ≤ length others
  pub first : x ≡ get_or rows 0 x
  pub second : y ≡ get_or others 0 y
  pub rows_sorted : IsSorted row_cmp rows
  pub others_sorted : IsSorted row_cmp others

pub are_first : (rows others : Rows) (x y : List ℕ) → 1 ≤ length rows → 1 ≤ length others → x ≡ get_or rows 0 x
    → y ≡ get_or others 0 y → IsSorted row_cmp rows → IsSorted row_cmp others → AreFirst rows others x y
are_first rows others x y l m e f s t = record {
  some_rows = l;
  some_others = m;
  first = e;
  second = f;
  rows_sorted = s;
  others_sorted = t;
}

abbrev compares : (x y v w : List ℕ) (o : Ordering) → x ≡ v → y ≡ w → row_cmp x y ≡ o → row_cmp v w ≡ o
compares x y v w o e f c = sym (ap₂ row_cmp e f) ∙ c

module _ (x y : List ℕ) (m n : ℕ) where
  pub at_less : (rows others : Rows) → AreFirst rows others x y → row_cmp x y ≡ Less → 0 < m
      → differ (behind rows) others (m - 1) n ≡ differ rows others m n
  at_less [] others h e l = let z : 1 ≤ 0 = h.some_rows in absurd (omega arith)
  at_less (v ∷ rows) [] h e l = let z : 1 ≤ 0 = h.some_others in absurd (omega arith)
  at_less (v ∷ rows) (w ∷ others) h e l =
      ap (λ (r : Rows). differ r (w ∷ others) (m - 1) n) (behind_is v rows)
      ∙ differ_less v rows w others h.rows_sorted h.others_sorted m n (compares x y v w Less h.first h.second e) l

  pub not_less : (rows others : Rows) → AreFirst rows others x y → row_cmp x y ≡ Less → m ≤ 0
      → false ≡ differ rows others m n
  not_less [] others h e l = let z : 1 ≤ 0 = h.some_rows in absurd (omega arith)
  not_less (v ∷ rows) [] h e l = let z : 1 ≤ 0 = h.some_others in absurd (omega arith)
  not_less (v ∷ rows) (w ∷ others) h e l =
      no_less v rows w others h.rows_sorted h.others_sorted m n (compares x y v w Less h.first h.second e) l

  pub at_equal : (rows others : Rows) → AreFirst rows others x y → row_cmp x y ≡ Equal
      → differ (behind rows) (behind others) m n ≡ differ rows others m n
  at_equal [] others h e = let z : 1 ≤ 0 = h.some_rows in absurd (omega arith)
  at_equal (v ∷ rows) [] h e = let z : 1 ≤ 0 = h.some_others in absurd (omega arith)
  at_equal (v ∷ rows) (w ∷ others) h e =
      ap₂ (λ (r s : Rows). differ r s m n) (behind_is v rows) (behind_is w others)
      ∙ differ_equal v rows w others h.rows_sorted h.others_sorted m n (compares x y v w Equal h.first h.second e)

  pub at_greater : (rows others : Rows) → AreFirst rows others x y → row_cmp x y ≡ Greater → 0 < n
      → differ rows (behind others) m (n - 1) ≡ differ rows others m n
  at_greater [] others h e l = let z : 1 ≤ 0 = h.some_rows in absurd (omega arith)
  at_greater (v ∷ rows) [] h e l = let z : 1 ≤ 0 = h.some_others in absurd (omega arith)
  at_greater (v ∷ rows) (w ∷ others) h e l =
      ap (λ (r : Rows). differ (v ∷ rows) r m (n - 1)) (behind_is w others)
      ∙ differ_greater v rows w others h.rows_sorted h.others_sorted m n (compares x y v w Greater h.first h.second e) l

  pub not_greater : (rows others : Rows) → AreFirst rows others x y → row_cmp x y ≡ Greater → n ≤ 0
      → false ≡ differ rows others m n
  not_greater [] others h e l = let z : 1 ≤ 0 = h.some_rows in absurd (omega arith)
  not_greater (v ∷ rows) [] h e l = let z : 1 ≤ 0 = h.some_others in absurd (omega arith)
  not_greater (v ∷ rows) (w ∷ others) h e l =
      no_greater v rows w others h.rows_sorted h.others_sorted m n (compares x y v w Greater h.first h.second e) l

-- where one of both is empty
pub no_rows : (rows others : Rows) (m n : ℕ) → length rows < 1 → length others ≡ n → (m == 0) ≡ differ rows others m n
no_rows [] others m n l e =
    sym (and_true (m == 0)) ∙ ap (λ b. (m == 0) && b) (sym (eq-eqb (length others) n e)) ∙ rows_end others m n
  where
    and_true : (b : Bool) → (b && true) ≡ b
    and_true true = refl
    and_true false = refl
no_rows (x ∷ rows) others m n l e = absurd (omega arith)

pub no_others : (rows others : Rows) (m n : ℕ) → length others < 1 → length rows ≡ m → (n == 0) ≡ differ rows others m n
no_others rows [] m n l e = ap (λ b. b && (n == 0)) (sym (eq-eqb (length rows) m e)) ∙ others_end rows m n
no_others rows (y ∷ others) m n l e = absurd (omega arith)

-- ---- the rows themselves

module _ (x y : List ℕ) where
  pub own_at_less : (rows others : Rows) → AreFirst rows others x y → row_cmp x y ≡ Less
      → x ∷ own_rows (behind rows) others ≡ own_rows rows others
  own_at_less [] others h e = let z : 1 ≤ 0 = h.some_rows in absurd (omega arith)
  own_at_less (v ∷ rows) [] h e = let z : 1 ≤ 0 = h.some_others in absurd (omega arith)
  own_at_less (v ∷ rows) (w ∷ others) h e =
      ap₂ (λ (r : List ℕ) (s : Rows). r ∷ own_rows s (w ∷ others)) h.first (behind_is v rows)
      ∙ sym (own_less v rows w others (compares x y v w Less h.first h.second e) h.others_sorted)

  pub own_at_equal : (rows others : Rows) → AreFirst rows others x y → row_cmp x y ≡ Equal
      → own_rows (behind rows) (behind others) ≡ own_rows rows others
  own_at_equal [] others h e = let z : 1 ≤ 0 = h.some_rows in absurd (omega arith)
  own_at_equal (v ∷ rows) [] h e = let z : 1 ≤ 0 = h.some_others in absurd (omega arith)
  own_at_equal (v ∷ rows) (w ∷ others) h e =
      ap₂ own_rows (behind_is v rows) (behind_is w others)
      ∙ sym (own_equal v rows w others (compares x y v w Equal h.first h.second e))

  pub own_at_greater : (rows others : Rows) → AreFirst rows others x y → row_cmp x y ≡ Greater
      → own_rows rows (behind others) ≡ own_rows rows others
  own_at_greater [] others h e = let z : 1 ≤ 0 = h.some_rows in absurd (omega arith)
  own_at_greater (v ∷ rows) [] h e = let z : 1 ≤ 0 = h.some_others in absurd (omega arith)
  own_at_greater (v ∷ rows) (w ∷ others) h e =
      ap (own_rows (v ∷ rows)) (behind_is w others)
      ∙ sym (own_greater v rows w others (compares x y v w Greater h.first h.second e) h.rows_sorted)

pub own_of_none : (rows others : Rows) → length rows < 1 → own_rows rows others ≡ []
own_of_none [] others l = own_none others
own_of_none (x ∷ rows) others l = absurd (omega arith)
