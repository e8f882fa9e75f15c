-- The syzygy of two rows at the column where they fall first: it has their product once, and each of its other terms
-- has a smaller first row.
use Rattle.std.proofs.Common.{◌≡◌, ℕ, ◌+◌, ◌<◌, Bool, true, false, cond, List, [], ◌∷◌, ◌++◌, length}
use Rattle.std.proofs.Common.{take, drop, get_or, refl, sym, ap, ap₂, subst, ◌∙◌, arith, inl, inr}
use Rattle.std.proofs.Common.{Ordering, Less, Equal, Greater, is_gt, is_eq, length-drop, ◌-◌}
use Rattle.std.specs.Prelude.{pos, ◌+ℤ◌}
use Rattle.std.specs.List.{AllByRecursion}
use Rattle.std.specs.Cmp.Lexicographic.{nat_list_cmp_total}
use Rattle.std.specs.Ordering.{ordering_then, ordering_reverse, eq_by_cmp}
use Rattle.std.proofs.lemmas.List.{take-append-drop, length-take-le}
use Rattle.coordinate_model.specs.Sequences.{range, splits, at_places, repeats, is_odd}
use Rattle.coordinate_model.specs.Brackets.{sum_over}
use Rattle.coordinate_model.specs.Words.{ordered}
use Rattle.coordinate_model.specs.Sums.{Terms, count_at, coefficient, single}
use Rattle.coordinate_model.specs.Key.{Key, key_cmp, row_cmp, rows_cmp, rows_key, key_times, IsRow}
use Rattle.coordinate_model.specs.BracketPolynomial.{KeySums, BracketPolynomial, AllKeys, mul}
use Rattle.coordinate_model.specs.Syzygy.{sorted, sorted_bracket, syz}
use Rattle.coordinate_model.proofs.Closure.{all_signed, all_sum_over, keys-sorted}
use Rattle.coordinate_model.proofs.Increasing.{IsIncreasing, increasing_all}
use Rattle.coordinate_model.proofs.KeyProducts.{key_total, key_same}
use Rattle.coordinate_model.proofs.KeySets.{all_single, all_plus, all_times}
use Rattle.coordinate_model.proofs.KeySumLaws.{single-mul, row_same}
use Rattle.coordinate_model.proofs.Leading.{count-plus, Top-single}
use Rattle.coordinate_model.proofs.Openings.{syz_term, syz-is, sorted_bracket-row}
use Rattle.coordinate_model.proofs.Splits.{IsSplit, splits-are, range-below, length-range_from, length-at_places, all_so}
use Rattle.coordinate_model.proofs.StdSort.{increasing-repeats}
use Rattle.tableau_order.specs.Standard.{IsFirstFall}
use Rattle.tableau_order.specs.Violations.{alpha_at, beta_at, gamma_at, SplitsRows}
use Rattle.tableau_order.proofs.MergedRows.{pair_in_order}
use Rattle.tableau_order.proofs.Splits.{splits_at_fall}
use Rattle.syzygies.specs.Places.{RewritesOnce, IsSameOrSmaller, OthersAreSmaller}
use Rattle.syzygies.proofs.Splits.{other_splits, splits-first, HasBelow, left_out, entry_below}
use Rattle.syzygies.proofs.Splits.{first_entries, other_entries}
use Rattle.syzygies.proofs.Rows.{increasing_even, range_increases, increasing_sorted, increasing_drop}
use Rattle.syzygies.proofs.Rows.{before_next, smaller_row}

-- ---- smaller pairs

-- the key has two rows, of which the first is less than the row low
pub record IsSmaller (low : List ℕ) (k : Key) : Type 0 where
  pub first : List ℕ
  pub second : List ℕ
  pub rows : k ≡ rows_key (first ∷ second ∷ [])
  pub less : row_cmp first low ≡ Less

-- the key has one row, which is less than the row low
record IsSmallerRow (low : List ℕ) (k : Key) : Type 0 where
  row : List ℕ
  rows : k ≡ rows_key (row ∷ [])
  less : row_cmp row low ≡ Less

-- the key has one row
pub record IsOneRow (k : Key) : Type 0 where
  pub row : List ℕ
  pub rows : k ≡ rows_key (row ∷ [])

smaller_product : (low : List ℕ) (k l : Key) → IsSmallerRow low k → IsOneRow l → IsSmaller low (key_times k l)
smaller_product low k l h o =
    step (is_gt (row_cmp h.row o.row)) refl
  where
    here : key_times k l ≡ rows_key (ordered row_cmp (h.row ∷ o.row ∷ []))
    here = ap₂ key_times h.rows o.rows

    step : (b : Bool) → is_gt (row_cmp h.row o.row) ≡ b → IsSmaller low (key_times k l)
    step true e = record {
      first = o.row;
      second = h.row;
      rows = here ∙ ap (λ b. rows_key (cond b (o.row ∷ h.row ∷ []) (h.row ∷ o.row ∷ []))) e;
      less = nat_list_cmp_total.trans o.row h.row low (before (row_cmp h.row o.row) refl e) h.less;
    }
      where
        before : (r : Ordering) → row_cmp h.row o.row ≡ r → is_gt r ≡ true → row_cmp o.row h.row ≡ Less
        before Less f g = cc
        before Equal f g = cc
        before Greater f g = nat_list_cmp_total.antisymm o.row h.row ∙ ap ordering_reverse f
    step false e = record {
      first = h.row;
      second = o.row;
      rows = here ∙ ap (λ b. rows_key (cond b (o.row ∷ h.row ∷ []) (h.row ∷ o.row ∷ []))) e;
      less = h.less;
    }

-- it is another key than that of low and a second row
pub other_key : (low high : List ℕ) (k : Key) → IsSmaller low k
    → eq_by_cmp key_cmp (rows_key (low ∷ high ∷ [])) k ≡ false
other_key low high k h =
    ap (eq_by_cmp key_cmp (rows_key (low ∷ high ∷ []))) h.rows
    ∙ ap (λ r. is_eq (ordering_then r (rows_cmp (high ∷ []) (h.second ∷ []))))
    (nat_list_cmp_total.antisymm low h.first ∙ ap ordering_reverse h.less)

pub none_at : (k : Key) (ts : Terms Key) → AllByRecursion (λ t. eq_by_cmp key_cmp k t.0 ≡ false) ts
    → count_at key_cmp k ts ≡ pos 0
none_at k [] h = refl
none_at k (t ∷ ts) h = ap₂ (λ b w. cond b t.1 (pos 0) +ℤ w) h.0 (none_at k ts h.1)

pub all_both : {A : Type 0} (P Q S : A → Type 0) → ((a : A) → P a → Q a → S a) → (xs : List A) → AllByRecursion P xs
    → AllByRecursion Q xs
    → AllByRecursion S xs
all_both P Q S f [] h g = tt
all_both P Q S f (x ∷ xs) h g = (f x h.0 g.0, all_both P Q S f xs h.1 g.1)

-- ---- the terms of the syzygy

pub one_row : (ps : List ℕ) → AllKeys IsOneRow (sorted_bracket ps)
one_row ps = keys-sorted IsOneRow ps (λ e. record { row = sorted ps; rows = refl })

-- points that increase are a row
bracket_of_row : (ps : List ℕ) → IsIncreasing ps → repeats ps ≡ false
    → sorted_bracket ps ≡ single key_cmp (rows_key (ps ∷ []))
bracket_of_row ps h e =
    let row : BracketPolynomial = single key_cmp (rows_key (sorted ps ∷ [])) in
    sorted_bracket-row ps e ∙ ap (λ b. cond b (KeySums.neg row) row) (increasing_even ps h)
    ∙ ap (λ (r : List ℕ). single key_cmp (rows_key (r ∷ []))) (increasing_sorted ps h)

-- two rows of rank d that come from the lists of a syzygy, β increasing, by its first k places
record ArePair (k : ℕ) (α β γ low high : List ℕ) : Type 0 where
  size : length α + 1 ≡ k
  within : k < length β
  increasing : IsIncreasing β
  low_row : low ≡ α ++ drop k β
  high_row : high ≡ take k β ++ γ
  low_increases : IsIncreasing low
  high_increases : IsIncreasing high
  once_each : (repeats low ≡ false) × (repeats high ≡ false)
  in_order : is_gt (row_cmp low high) ≡ false

module _ (k : ℕ) (α β γ low high : List ℕ) (s : ArePair k α β γ low high) where
  -- the places of β
  abbrev places : List ℕ
  places = range (length β)

  -- the key of the two rows
  abbrev both : Key
  both = rows_key (low ∷ high ∷ [])

  first_term : syz_term α β γ (take k places, drop k places) ≡ single key_cmp both
  first_term =
      ap (λ b. cond b (KeySums.neg product) product) even ∙ ap₂ mul low_bracket high_bracket
      ∙ single-mul (rows_key (low ∷ [])) (rows_key (high ∷ []))
      ∙ ap (λ (rows : List (List ℕ)). single key_cmp (rows_key rows))
      (pair_in_order row_cmp nat_list_cmp_total row_same low high s.in_order)
    where
      product : BracketPolynomial
      product =
          mul (sorted_bracket (α ++ at_places β (drop k places))) (sorted_bracket (at_places β (take k places) ++ γ))

      even : is_odd (take k places ++ drop k places) ≡ false
      even = ap is_odd (take-append-drop k places) ∙ increasing_even places (range_increases 0 (length β))

      low_bracket : sorted_bracket (α ++ at_places β (drop k places)) ≡ single key_cmp (rows_key (low ∷ []))
      low_bracket =
          ap (λ w. sorted_bracket (α ++ w)) (other_entries k β) ∙ ap sorted_bracket (sym s.low_row)
          ∙ bracket_of_row low s.low_increases s.once_each.0

      high_bracket : sorted_bracket (at_places β (take k places) ++ γ) ≡ single key_cmp (rows_key (high ∷ []))
      high_bracket =
          ap (λ w. sorted_bracket (w ++ γ)) (first_entries k β) ∙ ap sorted_bracket (sym s.high_row)
          ∙ bracket_of_row high s.high_increases s.once_each.1

  -- the low row replaced by one that has a smaller point
  smaller_rows : (xs : List ℕ) → length xs + k ≡ length β
      → ((y : ℕ) → ((i : ℕ) → i < k → get_or β i 0 < y) → HasBelow y xs)
      → row_cmp (sorted (α ++ xs)) low ≡ Less
  smaller_rows xs l h = step (drop k β) refl
    where
      step : (w : List ℕ) → drop k β ≡ w → row_cmp (sorted (α ++ xs)) low ≡ Less
      step [] e =
          let n : length (drop k β) ≡ length β - k = length-drop k β in
          let z : length (drop k β) ≡ 0 = ap length e in
          let v : k < length β = s.within in
          absurd (omega arith)
      step (y ∷ ys) e =
          let n : length (drop k β) ≡ length β - k = length-drop k β in
          let m : length (drop k β) ≡ length (y ∷ ys) = ap length e in
          let v : k < length β = s.within in
          let row : low ≡ α ++ y ∷ ys = s.low_row ∙ ap (λ w. α ++ w) e in
          ap (row_cmp (sorted (α ++ xs))) row
          ∙ smaller_row α xs y ys (subst IsIncreasing row s.low_increases)
          (subst IsIncreasing e (increasing_drop k β s.increasing))
          (omega arith)
          (h y (before_next k β y ys s.increasing e))

  other_term : (t : List ℕ × List ℕ) → IsSplit (λ i. i < length β) k (length places) t → HasBelow k t.1
      → AllKeys (IsSmaller low) (syz_term α β γ t)
  other_term t i h =
      let n : length places ≡ length β = length-range_from 0 (length β) in
      let r : length t.1 + k ≡ length places = i.all in
      let m : length (at_places β t.1) ≡ length t.1 = length-at_places β t.1 i.second in
      let v : k < length β = s.within in
      all_signed (IsSmaller low) (t.0 ++ t.1) _
      (all_times (IsSmallerRow low) IsOneRow (IsSmaller low) (λ p q. smaller_product low p q)
      (sorted_bracket (α ++ at_places β t.1)) (sorted_bracket (at_places β t.0 ++ γ))
      (keys-sorted (IsSmallerRow low) (α ++ at_places β t.1) (λ e. record {
        row = sorted (α ++ at_places β t.1);
        rows = refl;
        less =
            smaller_rows (at_places β t.1) (omega arith)
            (λ y g. entry_below k y β t.1 (omega arith) g h);
      }))
      (one_row (at_places β t.0 ++ γ)))

  abbrev others : BracketPolynomial
  others = sum_over KeySums (syz_term α β γ) (other_splits k places)

  all_splits : splits k places ≡ (take k places, drop k places) ∷ other_splits k places
  all_splits =
      let n : length places ≡ length β = length-range_from 0 (length β) in
      let v : k < length β = s.within in
      splits-first k places (omega arith)

  smaller : AllKeys (IsSmaller low) others
  smaller =
      all_sum_over (IsSmaller low) (syz_term α β γ) (other_splits k places)
      (all_both _ _ _ other_term (other_splits k places)
      (subst (AllByRecursion (IsSplit (λ i. i < length β) k (length places))) all_splits
      (splits-are (λ i. i < length β) k places (range-below (length β)))).1
      (left_out k (length β)))

  terms-are : syz α β γ ≡ KeySums.◌⊕◌ (single key_cmp both) others
  terms-are =
      syz-is α β γ ∙ ap (λ n. sum_over KeySums (syz_term α β γ) (splits n places)) s.size
      ∙ ap (sum_over KeySums (syz_term α β γ)) all_splits ∙ ap (λ f. KeySums.◌⊕◌ f others) first_term

  once : coefficient (syz α β γ) both ≡ pos 1
  once =
      ap (λ f. coefficient f both) terms-are ∙ count-plus key_cmp key_total key_same both (single key_cmp both) others
      ∙ ap₂ (λ v w. v +ℤ w) (Top-single key_cmp key_total key_same both).at
      (none_at both others.terms (all_so _ _ (λ t h. other_key low high t.0 h) others.terms smaller))

  keys : AllKeys (IsSameOrSmaller low high) (syz α β γ)
  keys =
      subst (AllKeys (IsSameOrSmaller low high)) (sym terms-are)
      (all_plus (IsSameOrSmaller low high) (single key_cmp both) others
      (all_single (IsSameOrSmaller low high) both (inl refl))
      (all_so _ _ (λ t h. inr (h.first, h.second, h.rows, h.less)) others.terms smaller))

are_pair : (d j : ℕ) (low high : List ℕ) → IsRow d low → IsRow d high → is_gt (row_cmp low high) ≡ false
    → IsFirstFall d low high j
    → SplitsRows d j low high
    → ArePair (j + 1) (alpha_at j low) (beta_at j low high) (gamma_at j high) low high
are_pair d j low high low_is high_is up fall s =
    let m : length low ≡ d = low_is.0 in
    let w : j < d = fall.within in
    let n : length (alpha_at j low) ≡ j = length-take-le j low (omega arith) in
    let b : length (beta_at j low high) ≡ d + 1 = s.sizes.beta in
    record {
      size = ap (λ k. k + 1) n;
      within = omega arith;
      increasing = increasing_all (beta_at j low high) s.increasing;
      low_row = s.low_row;
      high_row = s.high_row;
      low_increases = increasing_all low low_is.1;
      high_increases = increasing_all high high_is.1;
      once_each = (increasing-repeats low low_is.1, increasing-repeats high high_is.1);
      in_order = up;
    }

pub rewrites_once : RewritesOnce
rewrites_once d j low high rank low_is high_is up fall =
    once (j + 1) (alpha_at j low) (beta_at j low high) (gamma_at j high) low high
    (are_pair d j low high low_is high_is up fall (splits_at_fall d j low high rank low_is high_is up fall))

pub others_are_smaller : OthersAreSmaller
others_are_smaller d j low high rank low_is high_is up fall =
    keys (j + 1) (alpha_at j low) (beta_at j low high) (gamma_at j high) low high
    (are_pair d j low high low_is high_is up fall (splits_at_fall d j low high rank low_is high_is up fall))
