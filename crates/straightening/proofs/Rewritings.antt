-- What a turn adds where it takes a term away: the term itself, with the opposite integer, and smaller keys with the same
-- parameters and the same points.
use Rattle.std.proofs.Common.{◌≡◌, ℕ, ◌+◌, ◌<◌, Bool, true, false, cond, List, [], ◌∷◌, ◌++◌, length, map, take, drop}
use Rattle.std.proofs.Common.{is_eq, is_gt, sym, ap, subst, ◌∙◌, arith, Less, ◌⊎◌, inl, inr}
use Rattle.std.specs.Prelude.{ℤ, pos, ◌+ℤ◌, ◌*ℤ◌, neg_ℤ}
use Rattle.std.proofs.lemmas.Int.{ints}
use Rattle.std.specs.List.{AllByRecursion}
use Rattle.std.specs.Ordering.{eq_by_cmp, ordering_then}
use Rattle.std.specs.Cmp.{tied_itself}
use Rattle.std.specs.Cmp.Lexicographic.{nat_list_cmp_total}
use Rattle.bracket_poly.proofs.KeyParts.{same_parts}
use Rattle.bracket_terms.proofs.ExponentLaws.{add_exponents-nothing}
use Rattle.coordinate_model.specs.Ring.{Integers}
use Rattle.coordinate_model.specs.Sequences.{IsRank}
use Rattle.coordinate_model.specs.Sums.{Terms, count_at, coefficient}
use Rattle.coordinate_model.specs.Key.{Key, key_cmp, key_times, row_cmp, rows_cmp, rows_key, add_exponents, IsRow, IsKey}
use Rattle.coordinate_model.specs.Key.{HasPoints}
use Rattle.coordinate_model.specs.BracketPolynomial.{AllKeys, BracketPolynomial, value}
use Rattle.coordinate_model.specs.Polynomial.{Polynomials}
use Rattle.coordinate_model.specs.Syzygy.{Use, AreSizes, syz, multiple, additions, use_key, use_term}
use Rattle.coordinate_model.proofs.BracketPolynomialLaws.{value_of_product, value_of_syzygy}
use Rattle.coordinate_model.proofs.Closure.{key_times-is, keys-syz, length-add_none}
use Rattle.coordinate_model.proofs.Homogeneous.{points_of_syzygy, points_of_multiple}
use Rattle.coordinate_model.proofs.IntegerRing.{integer_ring}
use Rattle.coordinate_model.proofs.KeyProducts.{key_total}
use Rattle.coordinate_model.proofs.KeySets.{AllTerms, all_sum_of}
use Rattle.coordinate_model.proofs.Leading.{count-sum_of}
use Rattle.coordinate_model.proofs.KeyProducts.{key_same}
use Rattle.coordinate_model.proofs.Openings.{multiple-is}
use Rattle.coordinate_model.proofs.PolynomialRing.{polynomial_ring}
use Rattle.coordinate_model.proofs.RingLemmas as Ring
use Rattle.coordinate_model.proofs.Splits.{all_map, all_append}
use Rattle.coordinate_model.proofs.StartLaws.{additions_of_multiple}
use Rattle.tableau_order.specs.Merged.{merged_rows, SamePoints}
use Rattle.tableau_order.specs.Standard.{IsFirstViolation, row_at}
use Rattle.tableau_order.specs.Tableaux.{IsTableau}
use Rattle.tableau_order.proofs.MergedRows.{smaller_pairs}
use Rattle.tableau_order.proofs.Splits.{row_of, next_not_above, splits_at_violation}
use Rattle.syzygies.specs.Places.{IsSameOrSmaller}
use Rattle.syzygies.proofs.Falls.{rewrites_once, others_are_smaller, other_key, all_both}
use Rattle.coordinate_model.proofs.Splits.{all_so}
use Rattle.syzygies.proofs.Rewriting.{two_rows, merged_again, rewrites_to_smaller}
use Rattle.straightening.specs.Turns.{use_at}
use Rattle.straightening.specs.RunLaws.{use_points}
use Rattle.straightening.proofs.TermLists.{all_around, less_differs, holds_at}

-- the key that is added is the other one or a smaller one, with the same parameters and points
pub record IsAdded (d n : ℕ) (k l : Key) : Type 0 where
  pub key : IsKey d n l
  pub parameters : l.exponents ≡ k.exponents
  pub same_points : SamePoints l.rows k.rows
  pub below : (l ≡ k) ⊎ (key_cmp l k ≡ Less)

-- the integers at a key among mapped terms are those at another among the terms
pub count-map : (k l : Key) (m : ℤ) (f : Key → Key) (ts : Terms Key)
    → AllByRecursion (λ t. eq_by_cmp key_cmp k (f t.0) ≡ eq_by_cmp key_cmp l t.0) ts
    → count_at key_cmp k (map (λ t. (f t.0, m *ℤ t.1)) ts) ≡ m *ℤ count_at key_cmp l ts
count-map k l m f [] h = sym (Ring.mul_zero Integers integer_ring m)
count-map k l m f (t ∷ ts) h =
    ap (λ b. cond b (m *ℤ t.1) (pos 0) +ℤ count_at key_cmp k (map (λ t. (f t.0, m *ℤ t.1)) ts)) h.0
    ∙ ap (λ w. cond (eq_by_cmp key_cmp l t.0) (m *ℤ t.1) (pos 0) +ℤ w) (count-map k l m f ts h.1)
    ∙ step (eq_by_cmp key_cmp l t.0)
  where
    step : (b : Bool) → cond b (m *ℤ t.1) (pos 0) +ℤ m *ℤ count_at key_cmp l ts
        ≡ m *ℤ (cond b t.1 (pos 0) +ℤ count_at key_cmp l ts)
    step true = sym (integer_ring.mul_add m t.1 (count_at key_cmp l ts))
    step false =
        ap (λ w. w +ℤ m *ℤ count_at key_cmp l ts) (sym (Ring.mul_zero Integers integer_ring m))
        ∙ sym (integer_ring.mul_add m (pos 0) (count_at key_cmp l ts))

-- a term whose key falls first at the row i and the column j
module _ (d n : ℕ) (t : Key × ℤ) (i j : ℕ) (rank : IsRank d) (key : IsKey d n t.0)
    (v : IsFirstViolation d t.0.rows i j) where
  abbrev rows : List (List ℕ)
  rows = t.0.rows

  abbrev low : List ℕ
  low = row_at rows i

  abbrev high : List ℕ
  high = row_at rows (i + 1)

  -- the use there
  abbrev use_here : Use
  use_here = use_at t (i, j)

  tableau : IsTableau d rows
  tableau = record { rank = rank; each = key.each; ascending = key.ascending }

  pub sizes : AreSizes d use_here.alpha use_here.beta use_here.gamma
  sizes = (splits_at_violation d i j rows tableau v).sizes

  low_is : IsRow d low
  low_is = let w : i + 1 < length rows = v.within in row_of d rows key.each i (omega arith)

  high_is : IsRow d high
  high_is = row_of d rows key.each (i + 1) v.within

  not_above : is_gt (row_cmp low high) ≡ false
  not_above = next_not_above d i rows tableau v.within

  pub rest_rows : AllByRecursion (IsRow d) use_here.rest
  rest_rows =
      let w = all_around (IsRow d) (take i rows) low (high ∷ drop (i + 2) rows)
      (subst (AllByRecursion (IsRow d)) (two_rows rows i v.within) key.each) in
      all_append (IsRow d) (take i rows) (drop (i + 2) rows) w.before w.behind.1

  added : (k : Key) → (merged_rows use_here.rest k.rows ≡ rows) ⊎ (rows_cmp (merged_rows use_here.rest k.rows) rows ≡ Less)
      → SamePoints (merged_rows use_here.rest k.rows) rows → k.exponents ≡ [] → IsKey d 0 k
      → IsAdded d n t.0 (key_times (use_key use_here) k)
  added k s same e h =
      let parameters : add_exponents t.0.exponents k.exponents ≡ t.0.exponents =
      ap (add_exponents t.0.exponents) e ∙ add_exponents-nothing t.0.exponents in
      record {
        key =
            key_times-is d n (use_key use_here) k rest_rows h.each
            (length-add_none n t.0.exponents k.exponents key.parameters h.parameters);
        parameters = parameters;
        same_points = same;
        below = elim s [
          | inl r ↦ inl (same_parts (key_times (use_key use_here) k) t.0 parameters r)
          | inr r ↦
              inr
              (ap (λ (es : List ℕ). ordering_then (row_cmp es t.0.exponents) (rows_cmp (merged_rows use_here.rest k.rows) rows))
              parameters
              ∙ ap (λ o. ordering_then o (rows_cmp (merged_rows use_here.rest k.rows) rows))
              (tied_itself nat_list_cmp_total t.0.exponents)
              ∙ r)
        ];
      }

  -- each key that the use adds
  pub all_added : AllTerms (IsAdded d n t.0) (additions use_here)
  all_added =
      let ts : Terms Key = (syz use_here.alpha use_here.beta use_here.gamma).terms in
      all_map _ (λ (e : Key × ℤ). IsAdded d n t.0 e.0)
      (λ (e : Key × ℤ). (key_times (use_key use_here) e.0, use_here.multiplier *ℤ e.1)) (λ e h. h) ts
      (all_both _ _ (λ (e : Key × ℤ). IsAdded d n t.0 (key_times (use_key use_here) e.0))
      (λ e m h. added e.0 m.0 m.1 h.0.0 h.1) ts
      (rewrites_to_smaller d i j rows tableau v)
      (all_both _ _ (λ (e : Key × ℤ).
      ((e.0.exponents ≡ []) × HasPoints (use_here.alpha ++ (use_here.beta ++ use_here.gamma)) e.0) × IsKey d 0 e.0)
      (λ e h k. (h, k)) ts (points_of_syzygy use_here.alpha use_here.beta use_here.gamma)
      (keys-syz d use_here.alpha use_here.beta use_here.gamma sizes)))

  matches : (k : Key) → IsSameOrSmaller low high k → k.exponents ≡ []
      → eq_by_cmp key_cmp t.0 (key_times (use_key use_here) k) ≡ eq_by_cmp key_cmp (rows_key (low ∷ high ∷ [])) k
  matches k s e = elim s [
    | inl h ↦
        ap (λ (l : Key). eq_by_cmp key_cmp t.0 l) (again k h)
        ∙ ap is_eq (tied_itself key_total t.0)
        ∙ sym (ap (λ (l : Key). eq_by_cmp key_cmp (rows_key (low ∷ high ∷ [])) l) h
        ∙ ap is_eq (tied_itself key_total (rows_key (low ∷ high ∷ []))))
    | inr h ↦
        less_differs t.0 (key_times (use_key use_here) k) (smaller h.0 h.1 h.2 h.3)
        ∙ sym (other_key low high k (record { first = h.0; second = h.1; rows = h.2; less = h.3 }))
  ]
    where
      whole : merged_rows use_here.rest (low ∷ high ∷ []) ≡ rows
      whole = merged_again d rows i tableau v.within

      again : (l : Key) → l ≡ rows_key (low ∷ high ∷ []) → key_times (use_key use_here) l ≡ t.0
      again l h =
          same_parts (key_times (use_key use_here) l) t.0
          (ap (λ (m : Key). add_exponents t.0.exponents m.exponents) h ∙ add_exponents-nothing t.0.exponents)
          (ap (λ (m : Key). merged_rows use_here.rest m.rows) h ∙ whole)

      smaller : (first second : List ℕ) → k ≡ rows_key (first ∷ second ∷ []) → row_cmp first low ≡ Less
          → key_cmp (key_times (use_key use_here) k) t.0 ≡ Less
      smaller first second h l =
          ap (λ (m : Key). key_cmp (key_times (use_key use_here) m) t.0) h
          ∙ ap (λ (es : List ℕ). ordering_then (row_cmp es t.0.exponents)
          (rows_cmp (merged_rows use_here.rest (first ∷ second ∷ [])) rows)) (add_exponents-nothing t.0.exponents)
          ∙ ap (λ o. ordering_then o (rows_cmp (merged_rows use_here.rest (first ∷ second ∷ [])) rows))
          (tied_itself nat_list_cmp_total t.0.exponents)
          ∙ ap (rows_cmp (merged_rows use_here.rest (first ∷ second ∷ []))) (sym whole)
          ∙ smaller_pairs use_here.rest low high first second not_above l

  -- the term itself, with the opposite integer
  count_added : count_at key_cmp t.0 (additions use_here) ≡ neg_ℤ t.1
  count_added =
      let ts : Terms Key = (syz use_here.alpha use_here.beta use_here.gamma).terms in
      count-map t.0 (rows_key (low ∷ high ∷ [])) use_here.multiplier (key_times (use_key use_here)) ts
      (all_both _ _ _ (λ e h k. matches e.0 h k.0) ts
      (others_are_smaller d j low high rank low_is high_is not_above v.fall)
      (points_of_syzygy use_here.alpha use_here.beta use_here.gamma))
      ∙ ap (λ w. use_here.multiplier *ℤ w) (rewrites_once d j low high rank low_is high_is not_above v.fall)
      ∙ integer_ring.mul_one use_here.multiplier

  -- so in the multiple
  pub count_multiple : coefficient (multiple use_here) t.0 ≡ neg_ℤ t.1
  count_multiple =
      ap (λ (f : BracketPolynomial). coefficient f t.0) (sym (additions_of_multiple use_here))
      ∙ count-sum_of key_cmp key_total key_same t.0 (additions use_here) ∙ count_added

  pub all_multiple : AllKeys (IsAdded d n t.0) (multiple use_here)
  all_multiple =
      subst (AllKeys (IsAdded d n t.0)) (additions_of_multiple use_here)
      (all_sum_of (IsAdded d n t.0) (additions use_here) all_added)

  -- the value of the multiple is zero
  pub value_multiple : value (multiple use_here) ≡ Polynomials.𝟘
  value_multiple =
      ap value (multiple-is use_here)
      ∙ value_of_product (use_term use_here) (syz use_here.alpha use_here.beta use_here.gamma)
      ∙ ap (Polynomials.◌⊗◌ (value (use_term use_here)))
      (value_of_syzygy d use_here.alpha use_here.beta use_here.gamma sizes)
      ∙ Ring.mul_zero Polynomials polynomial_ring (value (use_term use_here))

  -- the use has the points of the key
  pub points_here : (t.1 ≡ pos 0 → ⊥) → HasPoints (use_points use_here) t.0
  points_here z =
      holds_at (λ k. HasPoints (use_points use_here) k) (multiple use_here).terms t.0
      (all_so _ _ (λ e h. h.1) (multiple use_here).terms (points_of_multiple use_here))
      (λ h. z (opposite t.1 (sym count_multiple ∙ h)))
    where
      opposite : (c : ℤ) → neg_ℤ c ≡ pos 0 → c ≡ pos 0
      opposite c h = omega (arith, ints)
