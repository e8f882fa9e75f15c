-- The use of two terms as the code finds it.
use Rattle.std.proofs.Common.{◌≡◌, ◌≢◌, ℕ, ◌==◌, ◌&&◌, ◌^◌, Bool, true, false, T, cond, List, [], length}
use Rattle.std.proofs.Common.{refl, sym, ap, ap₂, ◌∙◌, Option, Some, None, subst, true≢false}
use Rattle.std.specs.Prelude.{ℤ, pos, neg_ℤ}
use Rattle.bracket_terms.specs.Uses.{IsLogUse}
use Rattle.bracket_poly.specs.Tracked.{fits}
use Rattle.coordinate_model.specs.Key.{Key, IsRow}
use Rattle.coordinate_model.specs.Sequences.{IsRank}
use Rattle.coordinate_model.specs.Syzygy.{Use, AreSizes}
use Rattle.contraction.specs.Pairs.{IsTerm, AreListsOf, differ_in_two, beta_of, gamma_of, count_of, balance}
use Rattle.contraction.specs.Passes.{own_rows, same_points, are_alike, cancels, use_by, use_of_pair}
use Rattle.contraction.proofs.PairLaws.{all_own, alike_sizes}
use Rattle.contraction.proofs.RowsApart.{sorted_own}

-- what is used where three tests are passed
abbrev chosen : Bool → Bool → Bool → Use → Option Use
chosen a b c u = cond (a && (b && c)) (Some u) None

module _ (t s : Key × ℤ) where
  abbrev rows : List (List ℕ)
  rows = own_rows t.0.rows s.0.rows

  abbrev others : List (List ℕ)
  others = own_rows s.0.rows t.0.rows

  abbrev same : Bool
  same = same_points t.0.exponents s.0.exponents

  abbrev both_go : Bool
  both_go = cancels (use_by t rows) t.1 rows && cancels (use_by t rows) s.1 others

  -- none where the keys differ otherwise
  pub none_differ : differ_in_two t.0 s.0 ≡ false → use_of_pair t s ≡ None
  none_differ e = step same (length rows == 2) (length others == 2) _ both_go e
    where
      step : (a b c m n : Bool) → (a && (b && c)) ≡ false
          → ◌≡◌ {A = Option Use} (chosen a (b && (c && m)) n (use_by t rows)) None
      step true true true m n e = absurd (true≢false e)
      step true true false m n e = refl
      step true false c m n e = refl
      step false b c m n e = refl

  -- none where the pairs of rows are not alike
  pub none_alike : are_alike rows others ≡ false → use_of_pair t s ≡ None
  none_alike e = ap (λ b. chosen same b both_go (use_by t rows)) e ∙ step same
    where
      step : (a : Bool) → ◌≡◌ {A = Option Use} (chosen a false both_go (use_by t rows)) None
      step true = refl
      step false = refl

  abbrev balanced : Option ℤ
  balanced =
      balance t.1 (count_of (beta_of rows) (gamma_of rows) rows) s.1 (count_of (beta_of rows) (gamma_of rows) others)

  -- none where no multiplier takes both away
  pub none_balance : balanced ≡ None → use_of_pair t s ≡ None
  none_balance e =
      ap (λ b. chosen same (are_alike rows others) b (use_by t rows)) (unbalanced both_go e)
      ∙ step same (are_alike rows others)
    where
      unbalanced : (b : Bool) → ◌≡◌ {A = Option ℤ} (cond b (Some (use_by t rows).multiplier) None) None → b ≡ false
      unbalanced true e = cc
      unbalanced false e = refl

      step : (a b : Bool) → ◌≡◌ {A = Option Use} (chosen a b false (use_by t rows)) None
      step true true = refl
      step true false = refl
      step false b = refl

  module _ (m : ℤ) (found : balanced ≡ Some m) where
    passed : (b : Bool) → ◌≡◌ {A = Option ℤ} (cond b (Some (use_by t rows).multiplier) None) (Some m)
        → (b ≡ true) × (m ≡ (use_by t rows).multiplier)
    passed true e = (refl, some_is (use_by t rows).multiplier m e)
      where
        some_is : (x y : ℤ) → Some x ≡ Some y → y ≡ x
        some_is x y e = cc
    passed false e = cc

    pub multiplier_is : m ≡ (use_by t rows).multiplier
    multiplier_is = (passed both_go found).1

    -- else it is this one
    pub used : differ_in_two t.0 s.0 ≡ true → are_alike rows others ≡ true → use_of_pair t s ≡ Some (use_by t rows)
    used e f =
        ap (λ b. chosen same b both_go (use_by t rows)) f
        ∙ ap (λ b. chosen same true b (use_by t rows)) (passed both_go found).0
        ∙ ap (λ b. chosen b true true (use_by t rows)) (front same _ e)
      where
        front : (a b : Bool) → (a && b) ≡ true → a ≡ true
        front true b e = refl
        front false b e = e

    -- and it is well formed
    pub formed : (d : ℕ) → IsRank d → IsTerm d t → are_alike rows others ≡ true → m ≢ pos 0 → T (fits m)
        → IsLogUse d (use_by t rows)
    formed d rank is_t alike not_zero small =
        let sizes : AreSizes d [] (beta_of rows) (gamma_of rows) =
        alike_sizes d rank rows others (all_own (IsRow d) t.0.rows s.0.rows is_t.key.each) alike in
        record {
          rank = rank;
          formed = record {
            beta_points = sizes.beta;
            other_points = sizes.others;
            not_zero = λ e. not_zero (multiplier_is ∙ e);
            not_least = λ e. not_least m small (multiplier_is ∙ e);
            ascending = sorted_own t.0.rows rows is_t.key.ascending;
            small = is_t.degrees;
          };
          parameters = is_t.key.parameters;
          rows = all_own (IsRow d) t.0.rows rows is_t.key.each;
        }
      where
        not_least : (c : ℤ) → T (fits c) → c ≢ neg_ℤ (pos (2 ^ 127))
        not_least c h e = subst (λ (z : ℤ). T (fits z)) e h

-- ---- as the code has the rows and the lists

-- a use that is made of these parts
pub record IsMade (d : ℕ) (t : Key × ℤ) (m : ℤ) (own : List (List ℕ)) (beta gamma : List ℕ) (made : Use) : Type 0 where
  pub multiplier_is : made.multiplier ≡ m
  pub exponents_are : made.exponents ≡ t.0.exponents
  pub rest_is : made.rest ≡ own_rows t.0.rows own
  pub no_alpha : made.alpha ≡ []
  pub beta_is : made.beta ≡ beta
  pub gamma_is : made.gamma ≡ gamma

module _ (d : ℕ) (t s : Key × ℤ) (own other : List (List ℕ)) (own_is : own ≡ own_rows t.0.rows s.0.rows)
    (other_is : other ≡ own_rows s.0.rows t.0.rows) where
  -- none where they are not alike
  pub not_alike : are_alike own other ≡ false → use_of_pair t s ≡ None
  not_alike e = none_alike t s (sym (ap₂ are_alike own_is other_is) ∙ e)

  module _ (beta gamma : List ℕ) (lists : AreListsOf own other beta gamma) where
    are_lists : AreListsOf (rows t s) (others t s) beta gamma
    are_lists =
        subst (λ (w : List (List ℕ)). AreListsOf (rows t s) w beta gamma) other_is
        (subst (λ (w : List (List ℕ)). AreListsOf w other beta gamma) own_is lists)

    pub sizes_of : IsRank d → IsTerm d t → AreSizes d [] beta gamma
    sizes_of rank is_t =
        let sizes : AreSizes d [] (beta_of (rows t s)) (gamma_of (rows t s)) =
        alike_sizes d rank (rows t s) (others t s) (all_own (IsRow d) t.0.rows s.0.rows is_t.key.each)
        are_lists.alike in
        subst (λ (b : List ℕ). AreSizes d [] b gamma) (sym are_lists.beta_is)
        (subst (λ (c : List ℕ). AreSizes d [] (beta_of (rows t s)) c) (sym are_lists.gamma_is) sizes)

    found_here : balance t.1 (count_of beta gamma own) s.1 (count_of beta gamma other) ≡ balanced t s
    found_here =
        ap₂ (λ (v w : List (List ℕ)). balance t.1 (count_of beta gamma v) s.1 (count_of beta gamma w)) own_is other_is
        ∙ ap₂ (λ (b c : List ℕ). balance t.1 (count_of b c (rows t s)) s.1 (count_of b c (others t s)))
        are_lists.beta_is are_lists.gamma_is

    -- none where no multiplier takes both away
    pub no_multiplier : balance t.1 (count_of beta gamma own) s.1 (count_of beta gamma other) ≡ None
        → use_of_pair t s ≡ None
    no_multiplier e = none_balance t s (sym found_here ∙ e)

    module _ (m : ℤ) (found : balance t.1 (count_of beta gamma own) s.1 (count_of beta gamma other) ≡ Some m)
        (made : Use) (is_made : IsMade d t m own beta gamma made) where
      here : balanced t s ≡ Some m
      here = sym found_here ∙ found

      -- the use of the code is that of the pair
      same_use : made ≡ use_by t (rows t s)
      same_use =
          let a : made.multiplier ≡ (use_by t (rows t s)).multiplier =
          is_made.multiplier_is ∙ multiplier_is t s m here in
          let b : made.beta ≡ beta_of (rows t s) = is_made.beta_is ∙ are_lists.beta_is in
          let c : made.gamma ≡ gamma_of (rows t s) = is_made.gamma_is ∙ are_lists.gamma_is in
          let r : made.rest ≡ own_rows t.0.rows (rows t s) = is_made.rest_is ∙ ap (own_rows t.0.rows) own_is in
          λ x. record {
            alpha = is_made.no_alpha x;
            beta = b x;
            gamma = c x;
            multiplier = a x;
            exponents = is_made.exponents_are x;
            rest = r x;
          }

      pub is_formed : IsRank d → IsTerm d t → m ≢ pos 0 → T (fits m) → IsLogUse d made
      is_formed rank is_t not_zero small =
          subst (λ (u : Use). IsLogUse d u) (sym same_use)
          (formed t s m here d rank is_t are_lists.alike not_zero small)

      pub is_used : differ_in_two t.0 s.0 ≡ true → Some made ≡ use_of_pair t s
      is_used e = ap Some same_use ∙ sym (used t s m here e are_lists.alike)
