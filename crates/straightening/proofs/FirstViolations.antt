-- The first violation of a row list as it is computed, and as it is told.
use Rattle.std.proofs.Common.{◌≡◌, ℕ, zero, suc, ◌+◌, ◌<◌, ◌≤◌, Bool, true, false, cond, List, [], ◌∷◌, length, nat_lt}
use Rattle.std.proofs.Common.{Option, Some, None, option_map, slice_index, refl, sym, ap, ap₂, subst, ◌∙◌, arith}
use Rattle.std.proofs.Common.{◌⊎◌, inl, inr}
use Rattle.std.proofs.lemmas.Bool.{ltb-true}
use Rattle.std.proofs.lemmas.Bool.Decides.{nat_tests}
use Rattle.std.specs.List.{AllByRecursion}
use Rattle.coordinate_model.specs.Key.{IsRow, HasRisingColumns}
use Rattle.tableau_order.specs.Standard.{IsStandard, IsFirstFall, IsFirstViolation, Rises, row_at}
use Rattle.tableau_order.proofs.Columns.{RisesOnward, rising_columns, falls_not_standard}
use Rattle.straightening.specs.Turns.{first_fall, first_violation}
use Rattle.straightening.proofs.Options.{some_same, From, from_map, none_of}

-- ---- two rows

not_less : (p q : ℕ) → nat_lt q p ≡ false → p ≤ q
not_less p q e = grind (arith, nat_tests)

record Level (p q : ℕ) (low high : List ℕ) : Type 0 where
  first : p ≤ q
  others : first_fall low high ≡ None

level : (p q : ℕ) (low high : List ℕ) → first_fall (p ∷ low) (q ∷ high) ≡ None → Level p q low high
level p q low high f = step (nat_lt q p) refl f
  where
    step : (b : Bool) → nat_lt q p ≡ b
        → ◌≡◌ {A = Option ℕ} (cond b (Some 0) (option_map (λ j. j + 1) (first_fall low high))) None
        → Level p q low high
    step true h k = cc
    step false h k = record { first = not_less p q h; others = none_of (λ j. j + 1) (first_fall low high) k }

-- where no column falls, all rise
no_fall : (low high : List ℕ) (j : ℕ) → length low ≡ length high → first_fall low high ≡ None
    → slice_index low j ≤ slice_index high j
no_fall [] [] j e f = omega arith
no_fall [] (q ∷ high) j e f = absurd (omega arith)
no_fall (p ∷ low) [] j e f = absurd (omega arith)
no_fall (p ∷ low) (q ∷ high) zero e f = (level p q low high f).first
no_fall (p ∷ low) (q ∷ high) (suc j) e f = no_fall low high j (omega arith) (level p q low high f).others

fall_at_first : (p q j : ℕ) (low high : List ℕ) → first_fall (p ∷ low) (q ∷ high) ≡ Some j
    → ((q < p) × (0 ≡ j)) ⊎ ((p ≤ q) × From (λ k. k + 1) (first_fall low high) j)
fall_at_first p q j low high e = step (nat_lt q p) refl e
  where
    step : (b : Bool) → nat_lt q p ≡ b
        → ◌≡◌ {A = Option ℕ} (cond b (Some 0) (option_map (λ k. k + 1) (first_fall low high))) (Some j)
        → ((q < p) × (0 ≡ j)) ⊎ ((p ≤ q) × From (λ k. k + 1) (first_fall low high) j)
    step true h k = inl (ltb-true q p h, some_same 0 j k)
    step false h k = inr (not_less p q h, from_map (λ k. k + 1) (first_fall low high) j k)

-- the fall that is found is the first
fall_found : (d : ℕ) (low high : List ℕ) (j : ℕ) → length low ≡ d → length high ≡ d → first_fall low high ≡ Some j
    → IsFirstFall d low high j
fall_found d [] high j m n e = cc
fall_found d (p ∷ low) [] j m n e = cc
fall_found zero (p ∷ low) (q ∷ high) j m n e = absurd (omega arith)
fall_found (suc d) (p ∷ low) (q ∷ high) j m n e = elim (fall_at_first p q j low high e) [
  | inl h ↦
      subst (IsFirstFall (suc d) (p ∷ low) (q ∷ high)) h.1
      (record { within = omega arith; falls = h.0; before = λ i l. absurd (omega arith) })
  | inr h ↦
      let f : From (λ k. k + 1) (first_fall low high) j = h.1 in
      let later : IsFirstFall d low high f.value = fall_found d low high f.value (omega arith) (omega arith) f.is in
      let next : suc f.value ≡ j = let a : f.value + 1 ≡ j = f.image in omega arith in
      subst (IsFirstFall (suc d) (p ∷ low) (q ∷ high)) next
      (record {
        within = let a : f.value < d = later.within in omega arith;
        falls = later.falls;
        before = before f.value h.0 later.before;
      })
]
  where
    before : (k : ℕ) → p ≤ q → ((i : ℕ) → i < k → slice_index low i ≤ slice_index high i) → (i : ℕ) → i < suc k
        → slice_index (p ∷ low) i ≤ slice_index (q ∷ high) i
    before k h g zero l = h
    before k h g (suc i) l = g i (omega arith)

-- ---- row lists

-- what a row list has behind its first row is a row later in it
behind : (d : ℕ) (row : List ℕ) (rows : List (List ℕ)) (i j : ℕ) → Rises d row (row_at rows 0)
    → IsFirstViolation d rows i j → IsFirstViolation d (row ∷ rows) (suc i) j
behind d row rows i j up v = record {
  within = let a : i + 1 < length rows = v.within in omega arith;
  fall =
      subst (λ (n : ℕ). IsFirstFall d (row_at rows i) (row_at (row ∷ rows) n) j) (next i) v.fall;
  before = before v.before;
}
  where
    next : (k : ℕ) → suc (k + 1) ≡ suc k + 1
    next k = omega arith

    before : ((k : ℕ) → k < i → Rises d (row_at rows k) (row_at rows (k + 1))) → (k : ℕ) → k < suc i
        → Rises d (row_at (row ∷ rows) k) (row_at (row ∷ rows) (k + 1))
    before h zero l = up
    before h (suc k) l =
        subst (λ (n : ℕ). Rises d (row_at rows k) (row_at (row ∷ rows) n)) (next k) (h k (omega arith))

pub violation_found : (d : ℕ) (rows : List (List ℕ)) (place : ℕ × ℕ) → AllByRecursion (IsRow d) rows
    → first_violation rows ≡ Some place → IsFirstViolation d rows place.0 place.1
violation_found d [] place h e = cc
violation_found d (low ∷ []) place h e = cc
violation_found d (low ∷ high ∷ rows) place h e =
    step (λ p f. violation_found d (high ∷ rows) p h.1 f) (first_fall low high) refl e
  where
    step : ((p : ℕ × ℕ) → first_violation (high ∷ rows) ≡ Some p → IsFirstViolation d (high ∷ rows) p.0 p.1)
        → (o : Option ℕ) → first_fall low high ≡ o
        → ◌≡◌ {A = Option (ℕ × ℕ)}
        (elim o [ Some j ↦ Some (0, j) | None ↦ option_map (λ p. (p.0 + 1, p.1)) (first_violation (high ∷ rows)) ])
        (Some place)
        → IsFirstViolation d (low ∷ high ∷ rows) place.0 place.1
    step ih (Some j) f k =
        let here : (0, j) ≡ place = some_same (0, j) place k in
        subst (λ (p : ℕ × ℕ). IsFirstViolation d (low ∷ high ∷ rows) p.0 p.1) here
        (record {
          within = omega arith;
          fall = fall_found d low high j h.0.0 h.1.0.0 f;
          before = λ k l. absurd (omega arith);
        })
    step ih None f k =
        let w : From (λ (p : ℕ × ℕ). (p.0 + 1, p.1)) (first_violation (high ∷ rows)) place =
        from_map (λ (p : ℕ × ℕ). (p.0 + 1, p.1)) (first_violation (high ∷ rows)) place k in
        let later : IsFirstViolation d (high ∷ rows) w.value.0 w.value.1 =
        ih w.value w.is in
        let next : suc w.value.0 ≡ place.0 =
        let a : w.value.0 + 1 ≡ place.0 = ap (λ (p : ℕ × ℕ). p.0) w.image in omega arith in
        let same : w.value.1 ≡ place.1 = ap (λ (p : ℕ × ℕ). p.1) w.image in
        subst (λ (i : ℕ). IsFirstViolation d (low ∷ high ∷ rows) i place.1) next
        (subst (λ (j : ℕ). IsFirstViolation d (low ∷ high ∷ rows) (suc w.value.0) j) same
        (behind d low (high ∷ rows) w.value.0 w.value.1
        (λ j l. no_fall low high j (h.0.0 ∙ sym h.1.0.0) f) later))

pub no_violation : (d : ℕ) (rows : List (List ℕ)) → AllByRecursion (IsRow d) rows → first_violation rows ≡ None
    → RisesOnward d rows
no_violation d [] h e = λ i l. absurd (omega arith)
no_violation d (low ∷ []) h e = λ i l. absurd (omega arith)
no_violation d (low ∷ high ∷ rows) h e =
    step (λ f. no_violation d (high ∷ rows) h.1 f) (first_fall low high) refl e
  where
    onward : first_fall low high ≡ None → RisesOnward d (high ∷ rows) → RisesOnward d (low ∷ high ∷ rows)
    onward f g zero l = λ j m. no_fall low high j (h.0.0 ∙ sym h.1.0.0) f
    onward f g (suc i) l =
        let next : suc (i + 1) ≡ suc i + 1 = omega arith in
        subst (λ (n : ℕ). Rises d (row_at (high ∷ rows) i) (row_at (low ∷ high ∷ rows) n)) next (g i (omega arith))

    step : (first_violation (high ∷ rows) ≡ None → RisesOnward d (high ∷ rows)) → (o : Option ℕ)
        → first_fall low high ≡ o
        → ◌≡◌ {A = Option (ℕ × ℕ)}
        (elim o [ Some j ↦ Some (0, j) | None ↦ option_map (λ p. (p.0 + 1, p.1)) (first_violation (high ∷ rows)) ])
        None
        → RisesOnward d (low ∷ high ∷ rows)
    step ih (Some j) f k = cc
    step ih None f k =
        onward f (ih (none_of (λ (p : ℕ × ℕ). (p.0 + 1, p.1)) (first_violation (high ∷ rows)) k))

-- ---- the first violation is one

-- a place that is told is not before one that is told
not_before : (d : ℕ) (rows : List (List ℕ)) (i j k l : ℕ) → IsFirstViolation d rows i j → IsFirstViolation d rows k l
    → k ≤ i
not_before d rows i j k l v w = step (nat_lt i k) refl
  where
    step : (b : Bool) → nat_lt i k ≡ b → k ≤ i
    step false e = not_less k i e
    step true e =
        let up : slice_index (row_at rows i) j ≤ slice_index (row_at rows (i + 1)) j =
        w.before i (ltb-true i k e) j v.fall.within in
        let down : slice_index (row_at rows (i + 1)) j < slice_index (row_at rows i) j = v.fall.falls in
        absurd (omega arith)

not_left : (d : ℕ) (low high : List ℕ) (j l : ℕ) → IsFirstFall d low high j → IsFirstFall d low high l → l ≤ j
not_left d low high j l f g = step (nat_lt j l) refl
  where
    step : (b : Bool) → nat_lt j l ≡ b → l ≤ j
    step false e = not_less l j e
    step true e =
        let up : slice_index low j ≤ slice_index high j = g.before j (ltb-true j l e) in
        let down : slice_index high j < slice_index low j = f.falls in
        absurd (omega arith)

pub one_violation : (d : ℕ) (rows : List (List ℕ)) (i j k l : ℕ) → IsFirstViolation d rows i j
    → IsFirstViolation d rows k l → (k ≡ i) × (l ≡ j)
one_violation d rows i j k l v w =
    let a : k ≤ i = not_before d rows i j k l v w in
    let b : i ≤ k = not_before d rows k l i j w v in
    let same : k ≡ i = omega arith in
    let fall : IsFirstFall d (row_at rows i) (row_at rows (i + 1)) l =
    subst (λ (n : ℕ). IsFirstFall d (row_at rows n) (row_at rows (n + 1)) l) same w.fall in
    let e : l ≤ j = not_left d (row_at rows i) (row_at rows (i + 1)) j l v.fall fall in
    let f : j ≤ l = not_left d (row_at rows i) (row_at rows (i + 1)) l j fall v.fall in
    (same, omega arith)

-- so it is the one that is computed
pub violation_is : (d : ℕ) (rows : List (List ℕ)) (i j : ℕ) → AllByRecursion (IsRow d) rows
    → IsFirstViolation d rows i j → first_violation rows ≡ Some (i, j)
violation_is d rows i j h v = step (first_violation rows) refl
  where
    step : (o : Option (ℕ × ℕ)) → first_violation rows ≡ o → o ≡ Some (i, j)
    step None e =
        let up : slice_index (row_at rows i) j ≤ slice_index (row_at rows (i + 1)) j =
        no_violation d rows h e i v.within j v.fall.within in
        let down : slice_index (row_at rows (i + 1)) j < slice_index (row_at rows i) j = v.fall.falls in
        absurd (omega arith)
    step (Some p) e =
        let same = one_violation d rows i j p.0 p.1 v (violation_found d rows p h e) in
        ap₂ (λ (a b : ℕ). Some (a, b)) same.0 same.1

-- rows without a violation have rising columns
pub columns_rise : (d : ℕ) (rows : List (List ℕ)) → AllByRecursion (IsRow d) rows → first_violation rows ≡ None
    → HasRisingColumns d rows
columns_rise d rows h e = rising_columns d rows (no_violation d rows h e)

-- and standard ones have none
pub standard_none : (d : ℕ) (rows : List (List ℕ)) → AllByRecursion (IsRow d) rows → IsStandard d rows
    → first_violation rows ≡ None
standard_none d rows h s = step (first_violation rows) refl
  where
    step : (o : Option (ℕ × ℕ)) → first_violation rows ≡ o → o ≡ None
    step None e = refl
    step (Some p) e = absurd (falls_not_standard d rows p.0 p.1 (violation_found d rows p h e) s)
