-- What holds of the keys of the join with fresh points.
use Rattle.std.proofs.Common.{◌≡◌, ℕ, zero, suc, ◌+◌, ◌*◌, ◌<◌, ◌≤◌, List, [], ◌∷◌, ◌++◌, length, drop, sym, subst, ◌∙◌, arith, length-append}
use Rattle.std.specs.Prelude.{Ok}
use Rattle.std.specs.List.{AllByRecursion}
use Rattle.coordinate_model.specs.Sequences.{range_from}
use Rattle.coordinate_model.specs.Key.{Key, row_cmp, points, IsRow, IsKey, HasPoints}
use Rattle.coordinate_model.specs.BracketPolynomial.{AllKeys}
use Rattle.coordinate_model.specs.Value.{Value as Entries}
use Rattle.coordinate_model.specs.Words.{ordered}
use Rattle.coordinate_model.proofs.KeySizes.{length-in_order, length-points, all_points, each_row, same_length, all_of_same, same_rows}
use Rattle.coordinate_model.proofs.SortedRows.{all_ordered}
use Rattle.coordinate_model.proofs.Splits.{all_append, all_so, all_map, all_flat_map}
use Rattle.bracket_terms.specs.declared.extensor.Extensor.{Extensor}
use Rattle.bracket_terms.specs.Joins.{points_of}
use Rattle.bracket_poly.specs.Kept.{TrackedOf}
use Rattle.bracket_poly.specs.Makings.{adding}
use Rattle.bracket_poly.specs.Products.{HasDegree}
use Rattle.bracket_poly.specs.Sizes.{KeyWithin, EntryWithin}
use Rattle.bracket_poly.specs.Tracked.{Tracked, nothing}
use Rattle.bracket_poly.specs.Values.{value_of}
use Rattle.bracket_poly.proofs.Makings.{nothing_has, added_has}
use Rattle.degeneracy_report.specs.Joined.{with_row, joined_terms, start_terms}

-- ---- the keys that are made

-- what holds of each key with its row holds of what is made
pub start_has : (R : Key → Type 0) (fresh : List ℕ) (V : Entries) (p : Tracked)
    → adding nothing (start_terms fresh V) ≡ Ok p
    → AllByRecursion (λ e. AllKeys (λ k. R (with_row (e.0 ++ fresh) k)) e.1) V → AllKeys R p.sum
start_has R fresh V p made h =
    (added_has R nothing (start_terms fresh V) p made (nothing_has R)
    (all_flat_map (λ e. AllKeys (λ k. R (with_row (e.0 ++ fresh) k)) e.1) (λ t. R t.0) (joined_terms fresh)
    (λ e i. all_map (λ t. R (with_row (e.0 ++ fresh) t.0)) (λ t. R t.0) (λ t. (with_row (e.0 ++ fresh) t.0, t.1)) (λ t r. r)
    e.1.terms i) V h)).keys

-- exponents stay
pub start_degree : (fresh : List ℕ) (V : Entries) (p : Tracked) → adding nothing (start_terms fresh V) ≡ Ok p
    → AllByRecursion (λ e. HasDegree 1000 e.1) V → HasDegree 1000 p.sum
start_degree fresh V p made h = start_has (λ k. AllByRecursion (λ e. e ≤ 1000) k.exponents) fresh V p made h

-- ---- their sizes

range_below : (n k m : ℕ) → n + k ≤ m → AllByRecursion (λ p. p < m) (range_from n k)
range_below n zero m h = tt
range_below n (suc k) m h = (omega arith, range_below (suc n) k m (omega arith))

module _ (fresh lacks parameters rows degree : ℕ) where
  raised : (ps : List ℕ) → AllByRecursion (λ p. p < fresh) ps → AllByRecursion (λ p. p < fresh + lacks) ps
  raised ps h = all_so (λ p. p < fresh) (λ p. p < fresh + lacks) (λ p l. omega arith) ps h

  row_within : (ps : List ℕ) (k : Key) → AllByRecursion (λ p. p < fresh) ps → KeyWithin fresh parameters rows degree k
      → KeyWithin (fresh + lacks) parameters (rows + 1) degree (with_row (ps ++ range_from fresh lacks) k)
  row_within ps k h w =
      let row : List ℕ = ps ++ range_from fresh lacks in
      let few : length k.rows ≤ rows = w.few_rows in
      let long : length (ordered row_cmp (k.rows ++ row ∷ [])) ≡ length k.rows + 1 =
      length-in_order row_cmp (k.rows ++ row ∷ []) ∙ length-append k.rows (row ∷ []) in
      record {
        points_below =
            all_ordered row_cmp (AllByRecursion (λ p. p < fresh + lacks)) (k.rows ++ row ∷ [])
            (all_append (AllByRecursion (λ p. p < fresh + lacks)) k.rows (row ∷ [])
            (all_so (AllByRecursion (λ p. p < fresh)) (AllByRecursion (λ p. p < fresh + lacks)) raised k.rows w.points_below) (
              all_append (λ p. p < fresh + lacks) ps (range_from fresh lacks) (raised ps h)
                  (range_below fresh lacks (fresh + lacks) (omega arith)),
              tt,
            ));
        no_others = w.no_others;
        few_rows = omega arith;
        small = w.small;
      }

  -- of the keys that are made
  pub start_within : {d : ℕ} (es : List (Extensor × TrackedOf d)) (p : Tracked)
      → adding nothing (start_terms (range_from fresh lacks) (value_of es)) ≡ Ok p
      → AllByRecursion (EntryWithin fresh parameters rows degree) es
      → AllKeys (KeyWithin (fresh + lacks) parameters (rows + 1) degree) p.sum
  start_within {d} es p made h =
      start_has (KeyWithin (fresh + lacks) parameters (rows + 1) degree) (range_from fresh lacks) (value_of es) p made
      (each es h)
    where
      each : (es : List (Extensor × TrackedOf d)) → AllByRecursion (EntryWithin fresh parameters rows degree) es
          → AllByRecursion (λ e. AllKeys (λ k. KeyWithin (fresh + lacks) parameters (rows + 1) degree
          (with_row (e.0 ++ range_from fresh lacks) k)) e.1) (value_of es)
      each [] i = tt
      each (e ∷ es) i = (
        all_so (λ t. KeyWithin fresh parameters rows degree t.0)
            (λ t. KeyWithin (fresh + lacks) parameters (rows + 1) degree
            (with_row (points_of e.0 ++ range_from fresh lacks) t.0))
            (λ t w. row_within (points_of e.0) t.0 i.0.points_below w) e.1.tracked.sum.terms i.0.keys,
        each es i.1,
      )

-- ---- keys with the same parameters and points

-- bounds of a key hold of each key with its parameters and its points, each as often
pub like_within : (d n parameters rows degree : ℕ) (k l : Key) → 0 < d → IsKey d 64 k → IsKey d 64 l
    → k.exponents ≡ l.exponents → HasPoints (points l.rows) k → KeyWithin n parameters rows degree k
    → KeyWithin n parameters rows degree l
like_within d n parameters rows degree k l pos key other same_exponents same w = record {
  points_below =
      each_row (λ p. p < n) l.rows
      (all_of_same (points k.rows) (points l.rows) same (λ p. p < n) (all_points (λ p. p < n) k.rows w.points_below));
  no_others = subst (λ (es : List ℕ). AllByRecursion (λ e. e ≡ 0) (drop parameters es)) same_exponents w.no_others;
  few_rows =
      let few : length k.rows ≤ rows = w.few_rows in
      let equal : length k.rows ≡ length l.rows =
      same_rows d (length k.rows) (length l.rows) pos
      (sym (counted k.rows key.each) ∙ same_length (points k.rows) (points l.rows) same ∙ counted l.rows other.each) in
      omega arith;
  small = subst (AllByRecursion (λ e. e ≤ degree)) same_exponents w.small;
}
  where
    counted : (rs : List (List ℕ)) → AllByRecursion (IsRow d) rs → length (points rs) ≡ d * length rs
    counted rs h = length-points d rs (all_so (IsRow d) (λ r. length r ≡ d) (λ r i. i.0) rs h)
