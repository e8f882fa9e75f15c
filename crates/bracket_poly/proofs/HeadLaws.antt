-- Where heads are different, their order is that of the keys.
use Rattle.std.specs.Prelude.{◌≡◌, ◌⊎◌, ℕ, zero, suc, ◌+◌, ◌*◌, ◌<◌, ◌≤◌, Bool, true, false, cond, List, [], ◌∷◌, length, get_or, replicate}
use Rattle.std.specs.Ordering.{eq_by_cmp, is_eq, nat_cmp, ordering_then, ordering_reverse}
use Rattle.std.specs.Cmp.{Equal-is}
use Rattle.std.specs.Cmp.Lexicographic.{slice_cmp}
use Rattle.std.specs.declared.cmp.Ordering.TheVariants.{Less, Equal, Greater}
use Rattle.std.proofs.Common.{refl, sym, ap, subst, ◌∙◌, arith, inl, inr}
use Rattle.std.proofs.lemmas.Bool.{cases_lt}
use Rattle.std.proofs.lemmas.Bool.Decides.{nat_tests}
use Rattle.std.specs.Prelude.{nat_lt, nat_eq}
use Rattle.std.specs.FinMap.{nat_cmp-IsAntisymmetric, slice_cmp-IsAntisymmetric}
use Rattle.coordinate_model.specs.Key.{Key, key_cmp, row_cmp, rows_cmp}
use Rattle.coordinate_model.proofs.KeyProducts.{key_total}
use Rattle.bracket_terms.specs.Exponents.{in_use}
use Rattle.bracket_terms.proofs.UsedLaws.{cmp-used}
use Rattle.bracket_poly.specs.Heads.{digits, row_number, rows_number, IsByteRow, BeginsWithBytes, IsHead}

-- ---- numbers
below_cmp : (a b : ℕ) → a < b → nat_cmp a b ≡ Less
below_cmp a b l = ap (λ t. cond t Less (cond (nat_eq a b) Equal Greater)) less
  where
    less : nat_lt a b ≡ true
    less = grind (arith, nat_tests)

same_cmp : (a : ℕ) → nat_cmp a a ≡ Equal
same_cmp a = ap (λ t. cond t Less (cond (nat_eq a a) Equal Greater)) not_less ∙ ap (λ t. cond t Equal Greater) same
  where
    not_less : nat_lt a a ≡ false
    not_less = grind (arith, nat_tests)

    same : nat_eq a a ≡ true
    same = grind (arith, nat_tests)

-- a digit decides where those before it are the same
by_digit : (a b p q : ℕ) → p < 256 → q < 256 → a * 256 + p < b * 256 + q → (a < b) ⊎ ((a ≡ b) × (p < q))
by_digit a b p q h k l = elim (cases_lt a b) [
  | inl less ↦ inl less
  | inr more ↦ inr (omega arith, omega arith)
]

-- ---- rows
abbrev AreBytes : List ℕ → Type 0
AreBytes row = (i : ℕ) → get_or row i 0 < 256

never_less : (x : ℕ) (row : List ℕ) → row_cmp (x ∷ row) [] ≡ Less → ⊥
never_less x row e = cc

digits_less : (n a b : ℕ) (r s : List ℕ) → AreBytes r → AreBytes s → digits n a r < digits n b s
    → (a < b) ⊎ ((a ≡ b) × (row_cmp r s ≡ Less))
digits_less zero a b r s h k l = inl l
digits_less (suc n) a b [] [] h k l = elim (digits_less n (a * 256) (b * 256) [] [] h k l) [
  | inl less ↦ inl (omega arith)
  | inr same ↦ absurd (never same.1)
]
  where
    never : Equal ≡ Less → ⊥
    never e = cc
digits_less (suc n) a b [] (y ∷ s) h k l = elim (digits_less n (a * 256) (b * 256 + y) [] s h (λ i. k (suc i)) l) [
  | inl less ↦ elim (by_digit a b 0 y (omega arith) (k 0) (omega (arith, less))) [
    | inl smaller ↦ inl smaller
    | inr same ↦ inr (same.0, refl)
  ]
  | inr same ↦ inr (omega (arith, same.0, k 0), refl)
]
digits_less (suc n) a b (x ∷ r) [] h k l = elim (digits_less n (a * 256 + x) (b * 256) r [] (λ i. h (suc i)) k l) [
  | inl less ↦ inl (omega (arith, less))
  | inr same ↦ absurd (none r same.1)
]
  where
    none : (row : List ℕ) → row_cmp row [] ≡ Less → ⊥
    none [] e = cc
    none (z ∷ row) e = cc
digits_less (suc n) a b (x ∷ r) (y ∷ s) h k l =
    elim (digits_less n (a * 256 + x) (b * 256 + y) r s (λ i. h (suc i)) (λ i. k (suc i)) l) [
      | inl less ↦ elim (by_digit a b x y (h 0) (k 0) less) [
        | inl smaller ↦ inl smaller
        | inr same ↦ inr (same.0, ap (λ o. ordering_then o (row_cmp r s)) (below_cmp x y same.1))
      ]
      | inr same ↦
          inr (
            omega (arith, same.0, h 0, k 0),
            ap (λ z. ordering_then (nat_cmp x z) (row_cmp r s)) (sym (equal same.0))
                ∙ ap (λ o. ordering_then o (row_cmp r s)) (same_cmp x) ∙ same.1,
          )
    ]
  where
    equal : a * 256 + x ≡ b * 256 + y → x ≡ y
    equal e = omega (arith, e, h 0, k 0)

digits_same : (n a b : ℕ) (r s : List ℕ) → length r ≡ length s → length r ≤ n → AreBytes r → AreBytes s
    → digits n a r ≡ digits n b s → (a ≡ b) × (r ≡ s)
digits_same zero a b [] [] m l h k e = (e, refl)
digits_same zero a b [] (y ∷ s) m l h k e = absurd (omega arith)
digits_same zero a b (x ∷ r) s m l h k e = absurd (omega arith)
digits_same (suc n) a b [] [] m l h k e =
    let before = digits_same n (a * 256) (b * 256) [] [] m (omega arith) h k e in (omega (arith, before.0), refl)
digits_same (suc n) a b [] (y ∷ s) m l h k e = absurd (omega arith)
digits_same (suc n) a b (x ∷ r) [] m l h k e = absurd (omega arith)
digits_same (suc n) a b (x ∷ r) (y ∷ s) m l h k e =
    let before =
    digits_same n (a * 256 + x) (b * 256 + y) r s (omega arith) (omega arith) (λ i. h (suc i)) (λ i. k (suc i)) e in
    let first : x ≡ y = omega (arith, before.0, h 0, k 0) in
    (omega (arith, before.0, h 0, k 0), λ j. first j ∷ before.1 j)

-- the number of a row, by its points
pub number_at : (row : List ℕ)
    → row_number row ≡ (get_or row 0 0 * 256 + get_or row 1 0) * 65536 + (get_or row 2 0 * 256 + get_or row 3 0)
number_at [] = refl
number_at (a ∷ []) = omega arith
number_at (a ∷ b ∷ []) = omega arith
number_at (a ∷ b ∷ c ∷ []) = omega arith
number_at (a ∷ b ∷ c ∷ d ∷ row) = omega arith

row_below : (d : ℕ) (row : List ℕ) → IsByteRow d row → row_number row < 4294967296
row_below d row h = omega (arith, number_at row, h.bytes 0, h.bytes 1, h.bytes 2, h.bytes 3)

module _ (d : ℕ) (r s : List ℕ) (h : IsByteRow d r) (k : IsByteRow d s) where
  row_less : row_number r < row_number s → row_cmp r s ≡ Less
  row_less l = elim (digits_less 4 0 0 r s h.bytes k.bytes l) [
    | inl none ↦ absurd (omega arith)
    | inr same ↦ same.1
  ]

  row_same : row_number r ≡ row_number s → row_cmp r s ≡ Equal
  row_same e =
      subst (λ (t : List ℕ). row_cmp r t ≡ Equal)
      (digits_same 4 0 0 r s (h.long ∙ sym k.long) (omega (arith, h.long, h.short)) h.bytes k.bytes e).1 (itself r)
    where
      itself : (t : List ℕ) → row_cmp t t ≡ Equal
      itself [] = refl
      itself (p ∷ t) = ap (λ o. ordering_then o (row_cmp t t)) (same_cmp p) ∙ itself t

-- ---- row lists
by_row : (a b p q : ℕ) → p < 4294967296 → q < 4294967296 → a * 4294967296 + p < b * 4294967296 + q → (a < b) ⊎ ((a ≡ b) × (p < q))
by_row a b p q h k l = elim (cases_lt a b) [
  | inl less ↦ inl less
  | inr more ↦ inr (omega arith, omega arith)
]

-- the first rows decide, or those behind them
module _ (d : ℕ) (r s : List ℕ) (rows others : List (List ℕ)) (h : IsByteRow d r) (k : IsByteRow d s) where
  by_first : row_number r < row_number s → rows_cmp (r ∷ rows) (s ∷ others) ≡ Less
  by_first l = ap (λ o. ordering_then o (rows_cmp rows others)) (row_less d r s h k l)

  by_rest : row_number r ≡ row_number s → rows_cmp rows others ≡ Less → rows_cmp (r ∷ rows) (s ∷ others) ≡ Less
  by_rest e l = ap (λ o. ordering_then o (rows_cmp rows others)) (row_same d r s h k e) ∙ l

rows_less : (d : ℕ) (rows others : List (List ℕ)) → BeginsWithBytes d rows → BeginsWithBytes d others
    → rows_number rows < rows_number others → rows_cmp rows others ≡ Less
rows_less d [] [] h k l = absurd (omega arith)
rows_less d [] (s ∷ others) h k l = refl
rows_less d (r ∷ []) [] h k l = absurd (omega arith)
rows_less d (r ∷ q ∷ rows) [] h k l = absurd (omega arith)
rows_less d (r ∷ []) (s ∷ []) h k l = by_first d r s [] [] h k (omega arith)
rows_less d (r ∷ []) (s ∷ t ∷ others) h k l =
    elim (by_row (row_number r) (row_number s) 0 (row_number t) (omega arith) (row_below d t k.1) (omega arith)) [
      | inl less ↦ by_first d r s [] (t ∷ others) h k.0 less
      | inr same ↦ by_rest d r s [] (t ∷ others) h k.0 same.0 refl
    ]
rows_less d (r ∷ q ∷ rows) (s ∷ []) h k l =
    by_first d r s (q ∷ rows) [] h.0 k (omega arith)
rows_less d (r ∷ q ∷ rows) (s ∷ t ∷ others) h k l =
    elim (by_row (row_number r) (row_number s) (row_number q) (row_number t) (row_below d q h.1) (row_below d t k.1) l) [
      | inl less ↦ by_first d r s (q ∷ rows) (t ∷ others) h.0 k.0 less
      | inr same ↦ by_rest d r s (q ∷ rows) (t ∷ others) h.0 k.0 same.0 (by_first d q t rows others h.1 k.1 same.1)
    ]

number_fits : (d : ℕ) (rows : List (List ℕ)) → BeginsWithBytes d rows → rows_number rows < 18446744073709551616
number_fits d [] h = omega arith
number_fits d (r ∷ []) h = omega (arith, row_below d r h)
number_fits d (r ∷ s ∷ rows) h = omega (arith, row_below d r h.0, row_below d s h.1)

-- ---- keys
abbrev zeros : List ℕ
zeros = replicate 64 0

-- the product of no parameter is the least
one_least : (es : List ℕ) → length es ≡ 64 → eq_by_cmp (slice_cmp nat_cmp) es zeros ≡ false → slice_cmp nat_cmp zeros es ≡ Less
one_least es n e = step (in_use es) (cmp-used es zeros n) (cmp-used zeros es (sym n))
  where
    step : (us : List ℕ) → slice_cmp nat_cmp us [] ≡ slice_cmp nat_cmp es zeros → slice_cmp nat_cmp [] us ≡ slice_cmp nat_cmp zeros es
        → slice_cmp nat_cmp zeros es ≡ Less
    step [] f g = absurd (clash (sym (ap is_eq (sym f)) ∙ e))
      where
        clash : true ≡ false → ⊥
        clash p = cc
    step (u ∷ us) f g = sym g

module _ (d : ℕ) (k l : Key) (h g : ℕ) (p : IsHead d k h) (q : IsHead d l g) where
  -- a smaller head is that of a smaller key
  pub key_less : h < g → key_cmp k l ≡ Less
  key_less less = by (eq_by_cmp (slice_cmp nat_cmp) k.exponents zeros) (eq_by_cmp (slice_cmp nat_cmp) l.exponents zeros) refl refl
    where
      number : (b : Bool) → eq_by_cmp (slice_cmp nat_cmp) k.exponents zeros ≡ b → h ≡ cond b (rows_number k.rows) 18446744073709551615
      number b e = p.number ∙ ap (λ c. cond c (rows_number k.rows) 18446744073709551615) e

      other : (b : Bool) → eq_by_cmp (slice_cmp nat_cmp) l.exponents zeros ≡ b → g ≡ cond b (rows_number l.rows) 18446744073709551615
      other b e = q.number ∙ ap (λ c. cond c (rows_number l.rows) 18446744073709551615) e

      alike : (es fs : List ℕ) → slice_cmp nat_cmp es fs ≡ Equal → es ≡ fs
      alike = slice_cmp-IsAntisymmetric nat_cmp-IsAntisymmetric

      zero_of : (es : List ℕ) → eq_by_cmp (slice_cmp nat_cmp) es zeros ≡ true → slice_cmp nat_cmp es zeros ≡ Equal
      zero_of es e = (Equal-is (slice_cmp nat_cmp es zeros)).0 e

      by : (b c : Bool) → eq_by_cmp (slice_cmp nat_cmp) k.exponents zeros ≡ b → eq_by_cmp (slice_cmp nat_cmp) l.exponents zeros ≡ c
          → key_cmp k l ≡ Less
      by false true e f = absurd (omega (arith, number false e, other true f, less, number_fits d l.rows q.points))
      by false false e f = absurd (omega (arith, number false e, other false f, less))
      by true false e f =
          ap (λ es. ordering_then (slice_cmp nat_cmp es l.exponents) (rows_cmp k.rows l.rows)) (alike k.exponents zeros (zero_of k.exponents e))
          ∙ ap (λ o. ordering_then o (rows_cmp k.rows l.rows)) (one_least l.exponents q.parameters f)
      by true true e f =
          ap (λ o. ordering_then o (rows_cmp k.rows l.rows))
          (ap (slice_cmp nat_cmp k.exponents) (alike l.exponents zeros (zero_of l.exponents f)) ∙ zero_of k.exponents e)
          ∙ rows_less d k.rows l.rows p.points q.points (omega (arith, number true e, other true f, less))

-- and a greater head that of a greater key
pub key_greater : (d : ℕ) (k l : Key) (h g : ℕ) → IsHead d k h → IsHead d l g → g < h → key_cmp k l ≡ Greater
key_greater d k l h g p q less = key_total.antisymm k l ∙ ap ordering_reverse (key_less d l k g h q p less)
