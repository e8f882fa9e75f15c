-- A pass takes both terms of its pair away, and keeps the classes of keys.
use Rattle.std.proofs.Common.{◌≡◌, ℕ, zero, suc, ◌+◌, ◌==◌, Bool, true, false, T, List, [], ◌∷◌, ◌++◌, length, is_eq}
use Rattle.std.proofs.Common.{refl, sym, ap, subst, ◌∙◌, arith, true≢false, append_assoc, eqb-true}
use Rattle.std.specs.Prelude.{ℤ, pos, negsuc, ◌+ℤ◌, ◌*ℤ◌}
use Rattle.std.proofs.lemmas.Int.{ints}
use Rattle.std.specs.Cmp.{Equal-is, tied_itself}
use Rattle.std.specs.FinMap.{is_sorted}
use Rattle.std.specs.List.{AllByRecursion}
use Rattle.std.specs.Ordering.{eq_by_cmp}
use Rattle.bracket_poly.proofs.KeyParts.{same_parts}
use Rattle.bracket_terms.proofs.ExponentLaws.{add_exponents-nothing}
use Rattle.coordinate_model.specs.Sequences.{IsRank}
use Rattle.coordinate_model.specs.Sums.{Terms, is_zero, coefficient, count_at}
use Rattle.coordinate_model.specs.Words.{ordered}
use Rattle.coordinate_model.specs.Key.{Key, key_cmp, key_times, row_cmp, rows_key, IsRow, IsKey, HasPoints, points}
use Rattle.coordinate_model.specs.BracketPolynomial.{BracketPolynomial, AllKeys, IsBracketPolynomial, add}
use Rattle.coordinate_model.specs.Syzygy.{Use, AreSizes, syz, multiple, additions, use_key}
use Rattle.coordinate_model.proofs.Bools.{first}
use Rattle.coordinate_model.proofs.Closure.{key_times-is, keys-syz, length-add_none}
use Rattle.coordinate_model.proofs.Homogeneous.{points_of_syzygy, points_of_multiple}
use Rattle.coordinate_model.proofs.KeyProducts.{key_total, key_same}
use Rattle.coordinate_model.proofs.KeySets.{all_plus, all_sum_of}
use Rattle.coordinate_model.proofs.KeySumLaws.{row_same, sorted_ascending}
use Rattle.coordinate_model.proofs.Leading.{count-plus, count-sum_of}
use Rattle.coordinate_model.proofs.Splits.{all_so, all_both, all_map}
use Rattle.coordinate_model.proofs.StartLaws.{additions_of_multiple}
use Rattle.straightening.specs.RunLaws.{HasTerm, HasLike, use_points}
use Rattle.straightening.proofs.Rewritings.{count-map}
use Rattle.straightening.proofs.RunLemmas.{all_like}
use Rattle.straightening.proofs.TermLists.{all_have_terms, count_here, holds_at}
use Rattle.contraction.specs.Passes.{own_rows, count_in, cancels}
use Rattle.contraction.specs.PassLaws.{TakesAway, PassTakesAway, KeepsClassesOf, PassKeepsClasses}
use Rattle.contraction.proofs.PairLaws.{Found, found_in, IsPair, is_pair, parts, all_own, sizes}
use Rattle.contraction.proofs.RowCounts.{Rows, Ascends, times_row, times_own, ascends_own, merged_first, merged_second}
use Rattle.contraction.proofs.RowCounts.{merged_same, itself}
use Rattle.coordinate_model.proofs.Counts.{one_if}

-- ---- coefficients

zero_is : (z : ℤ) → is_zero z ≡ true → z ≡ pos 0
zero_is (pos zero) e = refl
zero_is (pos (suc n)) e = cc
zero_is (negsuc n) e = cc

-- the coefficient of the key of a term is its integer
all_counts : (f : BracketPolynomial) → AllByRecursion (λ t. coefficient f t.0 ≡ t.1) f.terms
all_counts f = onward [] f.terms refl
  where
    sorted : T (is_sorted key_cmp f.terms)
    sorted = first _ _ f.canonical

    onward : (front ts : Terms Key) → f.terms ≡ front ++ ts → AllByRecursion (λ t. coefficient f t.0 ≡ t.1) ts
    onward front [] e = tt
    onward front (t ∷ ts) e = (
      ap (λ (us : Terms Key). count_at key_cmp t.0 us) e
          ∙ count_here front t ts (subst (λ (us : Terms Key). T (is_sorted key_cmp us)) e (first _ _ f.canonical)),
      onward (front ++ t ∷ []) ts (e ∙ sym (append_assoc front (t ∷ []) ts)),
    )

-- a key that is that of rows merged into the rest of a use
module _ (d : ℕ) (u : Use) (sizes : AreSizes d u.alpha u.beta u.gamma) (k : Key) (rows : Rows)
    (parameters : u.exponents ≡ k.exponents) (ascends : Ascends rows) (whole : ordered row_cmp (u.rest ++ rows) ≡ k.rows) where
  merged_key : key_times (use_key u) (rows_key rows) ≡ k
  merged_key =
      same_parts (key_times (use_key u) (rows_key rows)) k (add_exponents-nothing u.exponents ∙ parameters) whole

  matches : (l : Key) → l.exponents ≡ [] → Ascends l.rows
      → eq_by_cmp key_cmp k (key_times (use_key u) l) ≡ eq_by_cmp key_cmp (rows_key rows) l
  matches l e h = step (eq_by_cmp key_cmp k (key_times (use_key u) l)) (eq_by_cmp key_cmp (rows_key rows) l) refl refl
    where
      equal : (x y : Key) → eq_by_cmp key_cmp x y ≡ true → x ≡ y
      equal x y g = key_same x y ((Equal-is (key_cmp x y)).0 g)

      tied : (x y : Key) → x ≡ y → eq_by_cmp key_cmp x y ≡ true
      tied x y g = ap (eq_by_cmp key_cmp x) (sym g) ∙ ap is_eq (tied_itself key_total x)

      step : (b c : Bool) → eq_by_cmp key_cmp k (key_times (use_key u) l) ≡ b → eq_by_cmp key_cmp (rows_key rows) l ≡ c
          → eq_by_cmp key_cmp k (key_times (use_key u) l) ≡ eq_by_cmp key_cmp (rows_key rows) l
      step true true p q = p ∙ sym q
      step false false p q = p ∙ sym q
      step false true p q =
          let s : rows_key rows ≡ l = equal (rows_key rows) l q in
          absurd (true≢false (sym (tied k (key_times (use_key u) l)
          (sym merged_key ∙ ap (key_times (use_key u)) s)) ∙ p))
      step true false p q =
          let s : k ≡ key_times (use_key u) l = equal k (key_times (use_key u) l) p in
          let r : rows ≡ l.rows =
          merged_same u.rest rows l.rows ascends h (whole ∙ ap (λ (x : Key). x.rows) s) in
          absurd (true≢false (sym (tied (rows_key rows) l (same_parts (rows_key rows) l (sym e) r)) ∙ q))

  -- it has in the multiple the integer of the rows, times the multiplier
  count_multiple : coefficient (multiple u) k ≡ u.multiplier *ℤ count_in u rows
  count_multiple =
      ap (λ (f : BracketPolynomial). coefficient f k) (sym (additions_of_multiple u))
      ∙ count-sum_of key_cmp key_total key_same k (additions u)
      ∙ count-map k (rows_key rows) u.multiplier (key_times (use_key u)) (syz u.alpha u.beta u.gamma).terms
      (all_so _ _ (λ (t : Key × ℤ) h. matches t.0 h.0.0 (sorted_ascending t.0.rows h.1.ascending))
      (syz u.alpha u.beta u.gamma).terms
      (all_both _ (λ (t : Key × ℤ). IsKey d 0 t.0) (syz u.alpha u.beta u.gamma).terms
      (points_of_syzygy u.alpha u.beta u.gamma) (keys-syz d u.alpha u.beta u.gamma sizes)))

  -- so it goes where this cancels its coefficient
  gone : (f : BracketPolynomial) (c : ℤ) → coefficient f k ≡ c → cancels u c rows ≡ true
      → coefficient (add f (multiple u)) k ≡ pos 0
  gone f c e h =
      count-plus key_cmp key_total key_same k f (multiple u)
      ∙ ap (λ z. z +ℤ coefficient (multiple u) k) e ∙ ap (λ z. c +ℤ z) count_multiple
      ∙ zero_is (c +ℤ u.multiplier *ℤ count_in u rows) h

  -- and has a term in the multiple where it has one in the polynomial
  in_multiple : (f : BracketPolynomial) (c : ℤ) → HasTerm f k → coefficient f k ≡ c → cancels u c rows ≡ true
      → HasTerm (multiple u) k
  in_multiple f c there e h z =
      let a : c +ℤ u.multiplier *ℤ count_in u rows ≡ pos 0 = zero_is (c +ℤ u.multiplier *ℤ count_in u rows) h in
      let b : u.multiplier *ℤ count_in u rows ≡ pos 0 = sym count_multiple ∙ z in
      there (e ∙ none c (ap (λ x. c +ℤ x) (sym b) ∙ a))
    where
      none : (c : ℤ) → c +ℤ pos 0 ≡ pos 0 → c ≡ pos 0
      none c g = omega (arith, ints)

-- ---- the pair

-- what is known of each term
pub record IsTermOf (d n : ℕ) (f : BracketPolynomial) (t : Key × ℤ) : Type 0 where
  pub key : IsKey d n t.0
  pub there : HasTerm f t.0
  pub count : coefficient f t.0 ≡ t.1

pub all_terms : (d n : ℕ) (f : BracketPolynomial) → IsBracketPolynomial d n f → AllByRecursion (IsTermOf d n f) f.terms
all_terms d n f keys =
    all_so (λ t. IsKey d n t.0 × (HasTerm f t.0 × (coefficient f t.0 ≡ t.1))) (IsTermOf d n f)
    (λ t h. record { key = h.0; there = h.1.0; count = h.1.1 }) f.terms
    (all_both (λ t. IsKey d n t.0) (λ t. HasTerm f t.0 × (coefficient f t.0 ≡ t.1)) f.terms keys
    (all_both (λ t. HasTerm f t.0) (λ t. coefficient f t.0 ≡ t.1) f.terms (all_have_terms f) (all_counts f)))

module _ (d n : ℕ) (rank : IsRank d) (f : BracketPolynomial) (t s : Key × ℤ) (u : Use) (is_t : IsTermOf d n f t)
    (is_s : IsTermOf d n f s) (pair : IsPair t s u) where
  abbrev rows : Rows
  rows = own_rows t.0.rows s.0.rows

  abbrev others : Rows
  others = own_rows s.0.rows t.0.rows

  all_sizes : AreSizes d u.alpha u.beta u.gamma
  all_sizes = sizes d n rank t s u is_t.key pair

  parameters : u.exponents ≡ t.0.exponents
  parameters = sym (ap (λ (w : Use). w.exponents) pair.used)

  same_parameters : t.0.exponents ≡ s.0.exponents
  same_parameters =
      row_same t.0.exponents s.0.exponents ((Equal-is (row_cmp t.0.exponents s.0.exponents)).0 pair.parameters)

  rest_is : own_rows t.0.rows rows ≡ u.rest
  rest_is = ap (λ (w : Use). w.rest) pair.used

  ascends_t : Ascends t.0.rows
  ascends_t = sorted_ascending t.0.rows is_t.key.ascending

  ascends_s : Ascends s.0.rows
  ascends_s = sorted_ascending s.0.rows is_s.key.ascending

  whole_t : ordered row_cmp (u.rest ++ rows) ≡ t.0.rows
  whole_t =
      ap (λ (rest : Rows). ordered row_cmp (rest ++ rows)) (sym rest_is) ∙ merged_first t.0.rows s.0.rows ascends_t

  whole_s : ordered row_cmp (u.rest ++ others) ≡ s.0.rows
  whole_s =
      ap (λ (rest : Rows). ordered row_cmp (rest ++ others)) (sym rest_is) ∙ merged_second t.0.rows s.0.rows ascends_s

  -- a term has no row that it lacks itself
  differ : t.0 ≡ s.0 → ⊥
  differ e =
      let two : length rows ≡ 2 = eqb-true (length rows) 2 (parts (length rows == 2) _ pair.alike).0 in
      none rows two
      (λ r. let a = times_own r t.0.rows s.0.rows in
      let b : times_row r t.0.rows ≡ times_row r s.0.rows = ap (λ (k : Key). times_row r k.rows) e in
      omega arith)
    where
      none : (rs : Rows) → length rs ≡ 2 → ((r : List ℕ) → times_row r rs ≡ 0) → ⊥
      none [] l h = omega arith
      none (r ∷ rs) l h =
          let a : one_if (eq_by_cmp row_cmp r r) + times_row r rs ≡ 0 = h r in
          let b : one_if (eq_by_cmp row_cmp r r) ≡ 1 = ap one_if (itself r) in
          omega arith

  -- both have a term in the multiple
  pub first_in : HasTerm (multiple u) t.0
  first_in =
      in_multiple d u all_sizes t.0 rows parameters (ascends_own t.0.rows s.0.rows ascends_t) whole_t f t.1 is_t.there
      is_t.count pair.first

  pub second_in : HasTerm (multiple u) s.0
  second_in =
      in_multiple d u all_sizes s.0 others (parameters ∙ same_parameters) (ascends_own s.0.rows t.0.rows ascends_s) whole_s f
      s.1 is_s.there is_s.count pair.second

  pub first_second_differ : t.0 ≡ s.0 → ⊥
  first_second_differ = differ

  pub first_goes : coefficient (add f (multiple u)) t.0 ≡ pos 0
  first_goes =
      gone d u all_sizes t.0 rows parameters (ascends_own t.0.rows s.0.rows ascends_t) whole_t f t.1 is_t.count pair.first

  pub second_goes : coefficient (add f (multiple u)) s.0 ≡ pos 0
  second_goes =
      gone d u all_sizes s.0 others (parameters ∙ same_parameters) (ascends_own s.0.rows t.0.rows ascends_s) whole_s f s.1
      is_s.count pair.second

  pub takes_away : TakesAway f u
  takes_away = record {
    first = t.0;
    second = s.0;
    different = differ;
    first_there = is_t.there;
    second_there = is_s.there;
    first_gone = first_goes;
    second_gone = second_goes;
  }

  -- the first term has the points of the use
  first_points : HasPoints (use_points u) t.0
  first_points =
      holds_at (λ k. HasPoints (use_points u) k) (multiple u).terms t.0
      (all_so _ _ (λ e h. h.1) (multiple u).terms (points_of_multiple u))
      first_in

  formed : IsBracketPolynomial d n (multiple u)
  formed =
      subst (AllKeys (IsKey d n)) (additions_of_multiple u)
      (all_sum_of (IsKey d n) (additions u)
      (all_map _ (λ (e : Key × ℤ). IsKey d n e.0) (λ (e : Key × ℤ). (key_times (use_key u) e.0, u.multiplier *ℤ e.1))
      (λ e h.
      key_times-is d n (use_key u) e.0
      (subst (AllByRecursion (IsRow d)) rest_is (all_own (IsRow d) t.0.rows rows is_t.key.each)) h.each
      (length-add_none n u.exponents e.0.exponents (ap (λ (es : List ℕ). length es) parameters ∙ is_t.key.parameters)
      h.parameters))
      (syz u.alpha u.beta u.gamma).terms (keys-syz d u.alpha u.beta u.gamma all_sizes)))

  keeps_classes : IsBracketPolynomial d n f → KeepsClassesOf d n f u
  keeps_classes keys = record {
    formed = all_plus (IsKey d n) f (multiple u) keys formed;
    keys =
        all_plus (λ k. HasLike f k.exponents (points k.rows)) f (multiple u) (all_like f)
        (all_so _ (λ (e : Key × ℤ). HasLike f e.0.exponents (points e.0.rows))
        (λ e h. record {
          key = t.0;
          there = is_t.there;
          parameters = sym parameters ∙ sym h.0;
          same_points = λ i. first_points i ∙ sym (h.1 i);
        }) (multiple u).terms (points_of_multiple u));
    used = record { key = t.0; there = is_t.there; parameters = sym parameters; same_points = first_points };
  }

pub pass_takes_away : PassTakesAway
pass_takes_away d n f u rank keys e =
    let w : Found (IsTermOf d n f) u = found_in (IsTermOf d n f) u f.terms (all_terms d n f keys) e in
    takes_away d n rank f w.first w.second u w.has_first w.has_second (is_pair w.first w.second u w.is)

pub pass_keeps_classes : PassKeepsClasses
pass_keeps_classes d n f u rank keys e =
    let w : Found (IsTermOf d n f) u = found_in (IsTermOf d n f) u f.terms (all_terms d n f keys) e in
    keeps_classes d n rank f w.first w.second u w.has_first w.has_second (is_pair w.first w.second u w.is) keys
