-- Terms that are added within the limits, and the same terms where fewer keys were met.
use Rattle.std.proofs.Common.{◌≡◌, ◌+◌, ◌<◌, ◌≤◌, Bool, true, false, cond, not, ◌&&◌, ◌||◌, T, List, [], ◌∷◌, ◌++◌}
use Rattle.std.proofs.Common.{length}
use Rattle.std.proofs.Common.{Option, Some, None, refl, sym, ap, subst, ◌∙◌, arith, ◌⊎◌, inl, inr, length-append}
use Rattle.std.specs.Prelude.{ℤ, pos, negsuc, zero, suc, ◌+ℤ◌, nat_lt}
use Rattle.std.specs.Cmp.{Equal-is, eq_by_cmp_equiv}
use Rattle.std.specs.List.{AllByRecursion, IsDistinct, list_any}
use Rattle.std.specs.Ordering.{eq_by_cmp}
use Rattle.std.proofs.lemmas.Bool.Decides.{nat_tests}
use Rattle.std.proofs.lemmas.Map.Made.{length-le_from_is_member}
use Rattle.coordinate_model.specs.Sums.{Terms, is_zero, coefficient, sum_of}
use Rattle.coordinate_model.specs.Code.{same_list_of_terms}
use Rattle.coordinate_model.specs.Key.{Key, key_cmp}
use Rattle.coordinate_model.specs.BracketPolynomial.{BracketPolynomial, KeySums, add}
use Rattle.coordinate_model.proofs.KeyProducts.{key_total, key_same}
use Rattle.coordinate_model.proofs.KeySumLaws.{add_zero}
use Rattle.coordinate_model.proofs.Splits.{all_so}
use Rattle.bracket_poly.specs.Tracked.{Tracked, Limit, coefficient_limit, keys_limit, fits, has_met, met_limit}
use Rattle.bracket_poly.specs.Tracked.{limit_at}
use Rattle.bracket_poly.specs.Tracked.{meet_key, plus_term, plus_terms, first_limit, nothing}
use Rattle.bracket_poly.proofs.EntryLaws.{all_written}
use Rattle.bracket_poly.proofs.MetKeys.{distinct_met, few_met, still_met, now_met}
use Rattle.bracket_poly.proofs.Totals.{term_adds}
use Rattle.bracket_poly.proofs.TrackedLaws.{true_test, written_terms}

abbrev same : Key → Key → Bool
same = eq_by_cmp key_cmp

truth : (b : Bool) → b ≡ true → T b
truth b e = subst T (sym e) tt

-- ---- what holds of each polynomial that was made within the limits

-- its integers fit, and the keys that it has met are those of its terms and others: each once, and not too many
pub record IsWithinLimits (p : Tracked) : Type 0 where
  pub small : AllByRecursion (λ t. T (fits t.1)) p.sum.terms
  pub once : IsDistinct (eq_by_cmp key_cmp) p.met
  pub few : length p.met ≤ met_limit
  pub terms_met : AllByRecursion (λ t. T (has_met p.met t.0)) p.sum.terms

pub nothing_within : IsWithinLimits nothing
unfolding IsDistinct
nothing_within = record { small = tt; once = tt; few = omega arith; terms_met = tt }

-- no limit is passed where the term is added
record Passes (p : Tracked) (t : Key × ℤ) : Type 0 where
  itself : fits t.1 ≡ true
  sum : fits (coefficient p.sum t.0 +ℤ t.1) ≡ true
  room : (has_met p.met t.0 || nat_lt (length p.met) met_limit) ≡ true

abbrev limit_by : Bool → Bool → Bool → Option Limit
limit_by a b m = cond (not (a && b)) (Some coefficient_limit) (cond m None (Some keys_limit))

passes_of : (p : Tracked) (t : Key × ℤ) → limit_at p t ≡ None → Passes p t
passes_of p t e =
    decide (fits t.1) (fits (coefficient p.sum t.0 +ℤ t.1)) (has_met p.met t.0 || nat_lt (length p.met) met_limit) refl
    refl refl e
  where
    decide : (a b m : Bool) → fits t.1 ≡ a → fits (coefficient p.sum t.0 +ℤ t.1) ≡ b
        → (has_met p.met t.0 || nat_lt (length p.met) met_limit) ≡ m → limit_by a b m ≡ None → Passes p t
    decide true true true e f g h = record { itself = e; sum = f; room = g }
    decide true true false e f g h = cc
    decide true false m e f g h = cc
    decide false b m e f g h = cc

no_limit_of : (p : Tracked) (t : Key × ℤ) → Passes p t → limit_at p t ≡ None
no_limit_of p t h =
    ap (λ a. limit_by a (fits (coefficient p.sum t.0 +ℤ t.1)) (has_met p.met t.0 || nat_lt (length p.met) met_limit))
    h.itself
    ∙ ap (λ b. limit_by true b (has_met p.met t.0 || nat_lt (length p.met) met_limit)) h.sum
    ∙ ap (λ m. limit_by true true m) h.room

room_for : (met : List Key) (k : Key) → (has_met met k || nat_lt (length met) met_limit) ≡ true
    → (has_met met k ≡ true) ⊎ (length met < met_limit)
room_for met k e = step (has_met met k) refl e
  where
    less : nat_lt (length met) met_limit ≡ true → length met < met_limit
    less h = grind (arith, nat_tests)

    step : (b : Bool) → has_met met k ≡ b → (b || nat_lt (length met) met_limit) ≡ true
        → (has_met met k ≡ true) ⊎ (length met < met_limit)
    step true f h = inl f
    step false f h = inr (less h)

-- ---- one term more

sum_of_nothing : (k : Key) → sum_of key_cmp ((k, pos 0) ∷ []) ≡ KeySums.𝟘
unfolding sum_of
sum_of_nothing k = same_list_of_terms key_cmp (sum_of key_cmp ((k, pos 0) ∷ [])) KeySums.𝟘 refl

-- a term with the integer 0 adds nothing
nothing_added : (f : BracketPolynomial) (k : Key) → sum_of key_cmp ((k, pos 0) ∷ f.terms) ≡ f
nothing_added f k =
    term_adds (record { sum = f; met = [] }) (k, pos 0) ∙ ap (add f) (sum_of_nothing k) ∙ add_zero f

zero_is : (c : ℤ) → is_zero c ≡ true → c ≡ pos 0
zero_is (pos zero) e = refl
zero_is (pos (suc n)) e = cc
zero_is (negsuc n) e = cc

all_terms : (P : Key → ℤ → Type 0) (f : BracketPolynomial) (k : Key) (c : ℤ) → AllByRecursion (λ t. P t.0 t.1) f.terms
    → P k (coefficient f k +ℤ c) → AllByRecursion (λ t. P t.0 t.1) (sum_of key_cmp ((k, c) ∷ f.terms)).terms
all_terms P f k c h p = step (is_zero c) refl
  where
    step : (b : Bool) → is_zero c ≡ b → AllByRecursion (λ t. P t.0 t.1) (sum_of key_cmp ((k, c) ∷ f.terms)).terms
    step true e =
        subst (λ (g : BracketPolynomial). AllByRecursion (λ t. P t.0 t.1) g.terms)
        (sym (ap (λ z. sum_of key_cmp ((k, z) ∷ f.terms)) (zero_is c e) ∙ nothing_added f k)) h
    step false e =
        subst (λ (ts : Terms Key). AllByRecursion (λ t. P t.0 t.1) ts) (sym (written_terms f k c e))
        (all_written key_cmp key_total key_same P k c (coefficient f k) f.terms h p)

pub within_after : (p : Tracked) (t : Key × ℤ) → IsWithinLimits p → limit_at p t ≡ None → IsWithinLimits (plus_term p t)
within_after p t h e =
    let may = passes_of p t e in
    record {
      small = all_terms (λ k c. T (fits c)) p.sum t.0 t.1 h.small (truth _ may.sum);
      once = distinct_met p.met t.0 h.once;
      few = few_met p.met t.0 h.few (room_for p.met t.0 may.room);
      terms_met = all_terms (λ k c. T (has_met (meet_key p.met t.0) k)) p.sum t.0 t.1
          (all_so (λ u. T (has_met p.met u.0)) (λ u. T (has_met (meet_key p.met t.0) u.0))
          (λ u m. still_met p.met t.0 u.0 m) p.sum.terms h.terms_met)
          (now_met p.met t.0);
    }

-- ---- fewer met keys

-- q is the same polynomial as p, and has met fewer keys
pub record IsFewerMet (p q : Tracked) : Type 0 where
  pub same_sum : q.sum ≡ p.sum
  pub met : (k : Key) → has_met q.met k ≡ true → has_met p.met k ≡ true
  pub once : IsDistinct (eq_by_cmp key_cmp) q.met

any_or : (p : Key → Bool) (xs : List Key) (y : Key) → list_any p (xs ++ y ∷ []) ≡ true
    → (list_any p xs ≡ true) ⊎ (p y ≡ true)
any_or p [] y h = step (p y) h
  where
    step : (b : Bool) → (b || false) ≡ true → (false ≡ true) ⊎ (b ≡ true)
    step true h = inr refl
    step false h = inl h
any_or p (x ∷ xs) y h = step (p x) (λ k. any_or p xs y k) h
  where
    step : (b : Bool) → (list_any p (xs ++ y ∷ []) ≡ true → (list_any p xs ≡ true) ⊎ (p y ≡ true))
        → (b || list_any p (xs ++ y ∷ [])) ≡ true → ((b || list_any p xs) ≡ true) ⊎ (p y ≡ true)
    step true ih h = inl refl
    step false ih h = ih h

-- a key that is met behind another one was met before it, or is the same
met_before : (met : List Key) (x k : Key) → has_met (meet_key met x) k ≡ true
    → (has_met met k ≡ true) ⊎ (same k x ≡ true)
met_before met x k h = step (has_met met x) h
  where
    step : (b : Bool) → has_met (cond b met (met ++ x ∷ [])) k ≡ true → (has_met met k ≡ true) ⊎ (same k x ≡ true)
    step true h = inl h
    step false h = any_or (same k) met x h

met_after : (ps qs : List Key) (x k : Key) → ((k : Key) → has_met qs k ≡ true → has_met ps k ≡ true)
    → has_met (meet_key qs x) k ≡ true → has_met (meet_key ps x) k ≡ true
met_after ps qs x k more h = elim (met_before qs x k h) [
  | inl e ↦ true_test _ (still_met ps x k (truth _ (more k e)))
  | inr e ↦
      subst (λ (y : Key). has_met (meet_key ps x) y ≡ true) (sym (key_same k x ((Equal-is (key_cmp k x)).0 e)))
      (true_test _ (now_met ps x))
]

-- the met keys are at most as many
pub fewer_keys : (ps qs : List Key) → IsDistinct (eq_by_cmp key_cmp) qs
    → ((k : Key) → has_met qs k ≡ true → has_met ps k ≡ true) → length qs ≤ length ps
fewer_keys ps qs once more = length-le_from_is_member (eq_by_cmp_equiv key_total) qs ps once more

module _ (p q : Tracked) (t : Key × ℤ) (h : IsWithinLimits p) (f : IsFewerMet p q) (e : limit_at p t ≡ None) where
  pub fewer_after : IsFewerMet (plus_term p t) (plus_term q t)
  fewer_after = record {
    same_sum = ap (λ (g : BracketPolynomial). sum_of key_cmp (t ∷ g.terms)) f.same_sum;
    met = λ k. met_after p.met q.met t.0 k f.met;
    once = distinct_met q.met t.0 f.once;
  }

  -- there is room for what is new where the more was met
  fewer_room : (has_met q.met t.0 || nat_lt (length q.met) met_limit) ≡ true
  fewer_room = step (has_met q.met t.0) refl
    where
      most : length (meet_key q.met t.0) ≤ met_limit
      most =
          let a : length (meet_key q.met t.0) ≤ length (meet_key p.met t.0) =
          fewer_keys (meet_key p.met t.0) (meet_key q.met t.0) fewer_after.once fewer_after.met in
          let b : length (meet_key p.met t.0) ≤ met_limit = (within_after p t h e).few in
          omega arith

      more : length (q.met ++ t.0 ∷ []) ≤ met_limit → nat_lt (length q.met) met_limit ≡ true
      more l =
          let n : length (q.met ++ t.0 ∷ []) ≡ length q.met + 1 = length-append q.met (t.0 ∷ []) in
          let m : length q.met < met_limit = omega arith in
          grind (arith, nat_tests)

      step : (b : Bool) → has_met q.met t.0 ≡ b → (b || nat_lt (length q.met) met_limit) ≡ true
      step true g = refl
      step false g = more (subst (λ b. length (cond b q.met (q.met ++ t.0 ∷ [])) ≤ met_limit) g most)

  -- so no limit is passed there either
  pub fewer_limit : limit_at q t ≡ None
  fewer_limit =
      let may = passes_of p t e in
      no_limit_of q t (record {
        itself = may.itself;
        sum =
            ap (λ (g : BracketPolynomial). fits (coefficient g t.0 +ℤ t.1)) f.same_sum ∙ may.sum;
        room = fewer_room;
      })

-- ---- terms

-- terms that pass no limit pass none where fewer keys were met
pub record PassAlike (p q : Tracked) (ts : Terms Key) : Type 0 where
  pub within : IsWithinLimits (plus_terms p ts)
  pub fewer : IsFewerMet (plus_terms p ts) (plus_terms q ts)
  pub no_limit : first_limit q ts ≡ None

pub pass_alike : (p q : Tracked) (ts : Terms Key) → IsWithinLimits p → IsFewerMet p q → first_limit p ts ≡ None
    → PassAlike p q ts
pass_alike p q [] h f e = record { within = h; fewer = f; no_limit = refl }
pass_alike p q (t ∷ ts) h f e =
    step (λ g h f e. pass_alike (plus_term p t) (plus_term q t) ts h f e) (limit_at p t) refl e
  where
    step : (limit_at p t ≡ None → IsWithinLimits (plus_term p t) → IsFewerMet (plus_term p t) (plus_term q t)
        → first_limit (plus_term p t) ts ≡ None → PassAlike (plus_term p t) (plus_term q t) ts)
        → (o : Option Limit) → limit_at p t ≡ o
        → ◌≡◌ {A = Option Limit} (elim o [ Some l ↦ Some l | None ↦ first_limit (plus_term p t) ts ]) None
        → PassAlike p q (t ∷ ts)
    step ih (Some l) g k = cc
    step ih None g k =
        let w = ih g (within_after p t h g) (fewer_after p q t h f g) k in
        record {
          within = w.within;
          fewer = w.fewer;
          no_limit =
              ap (λ (o : Option Limit). elim o as (λ _. Option Limit) [
                | Some l ↦ Some l
                | None ↦ first_limit (plus_term q t) ts
              ]) (fewer_limit p q t h f g)
              ∙ w.no_limit;
        }

-- a polynomial has met as many keys as itself
pub itself_fewer : (p : Tracked) → IsWithinLimits p → IsFewerMet p p
itself_fewer p h = record { same_sum = refl; met = λ k e. e; once = h.once }

-- terms that pass no limit leave a polynomial within the limits
pub terms_within : (p : Tracked) (ts : Terms Key) → IsWithinLimits p → first_limit p ts ≡ None
    → IsWithinLimits (plus_terms p ts)
terms_within p ts h e = (pass_alike p p ts h (itself_fewer p h) e).within
