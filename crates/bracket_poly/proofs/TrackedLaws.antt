-- What is tracked, with one term more.
use Rattle.std.specs.Prelude.{◌≡◌, ◌≢◌, ◌⊎◌, ℕ, ◌<◌, Bool, true, false, cond, not, ◌&&◌, ◌||◌, T, ℤ, pos, negsuc, zero, suc, ◌+ℤ◌, nat_lt, length}
use Rattle.std.specs.Prelude.{List, [], ◌∷◌, ◌++◌, Some, None, Result, Ok, Err, OnOk, OnErr, IsOk, IfOk}
use mir.Syntax.{w128}
use mir.Val.{SFits, to_z, of_z}
use Rattle.std.specs.List.{AllByRecursion}
use Rattle.std.proofs.Common.{refl, sym, ap, subst, ◌∙◌, arith, inl, inr}
use Rattle.std.proofs.lemmas.Bool.Decides.{nat_tests}
use Rattle.std.proofs.lemmas.Int.{to_z-of_z}
use Rattle.coordinate_model.specs.Sums.{Terms, is_zero, coefficient, sum_of}
use Rattle.coordinate_model.specs.Code.{same_list_of_terms}
use Rattle.coordinate_model.specs.Key.{Key, key_cmp, IsKey}
use Rattle.coordinate_model.specs.BracketPolynomial.{BracketPolynomial}
use Rattle.coordinate_model.proofs.KeyProducts.{key_total, key_same}
use Rattle.bracket_poly.specs.Tracked.{Tracked, fits, has_met, met_limit, meet_key, limit_at, keys_limit, coefficient_limit, plus_term}
use Rattle.bracket_poly.specs.Kept.{IsTracked, IsKept, TrackedOf, tracked_of}
use Rattle.bracket_poly.specs.Entries.{with_coefficient}
use Rattle.bracket_poly.proofs.EntryLaws.{sum_of-more, all_written}
use Rattle.bracket_poly.proofs.MetKeys.{all_met, distinct_met, few_met, still_met, now_met}

pub same_lists : (p q : Tracked) → p.sum.terms ≡ q.sum.terms → p.met ≡ q.met → p ≡ q
same_lists p q e f =
    let sums : p.sum ≡ q.sum = same_list_of_terms key_cmp p.sum q.sum e in λ j. record { sum = sums j; met = f j }

pub not_zero : (c : ℤ) → c ≢ pos 0 → is_zero c ≡ false
not_zero (pos zero) h = absurd (h refl)
not_zero (pos (suc n)) h = refl
not_zero (negsuc n) h = refl

-- the term may be added: nothing that it makes is too large, and its key is met or has room
pub record MayAdd (p : Tracked) (t : Key × ℤ) : Type 0 where
  pub not_zero : is_zero t.1 ≡ false
  pub fits_itself : fits t.1 ≡ true
  pub sum_fits : fits (coefficient p.sum t.0 +ℤ t.1) ≡ true
  pub room : (has_met p.met t.0 ≡ true) ⊎ (length p.met < met_limit)

pub no_limit : (p : Tracked) (t : Key × ℤ) → MayAdd p t → limit_at p t ≡ None
no_limit p t may =
    decide (fits t.1) (fits (coefficient p.sum t.0 +ℤ t.1)) (has_met p.met t.0) (nat_lt (length p.met) met_limit)
    may.fits_itself may.sum_fits (elim may.room [ inl e ↦ inl e | inr h ↦ inr (less (length p.met) met_limit h) ])
  where
    less : (a b : ℕ) → a < b → nat_lt a b ≡ true
    less a b h = grind (arith, nat_tests)

    decide : (a b m r : Bool) → a ≡ true → b ≡ true → (m ≡ true) ⊎ (r ≡ true)
        → cond (not (a && b)) (Some coefficient_limit) (cond (m || r) None (Some keys_limit)) ≡ None
    decide true true true r e f h = refl
    decide true true false true e f h = refl
    decide true true false false e f h = elim h [ inl x ↦ cc | inr x ↦ cc ]
    decide true false m r e f h = cc
    decide false b m r e f h = cc

-- terms that are written so are those of the sum
pub written_terms : (f : BracketPolynomial) (k : Key) (c : ℤ) → is_zero c ≡ false
    → (sum_of key_cmp ((k, c) ∷ f.terms)).terms ≡ with_coefficient k (coefficient f k +ℤ c) f.terms
written_terms f k c z = sum_of-more key_cmp key_total key_same f k c z

-- all terms of the sum have what the old ones and the new one have
all_terms : (P : Key → ℤ → Type 0) (f : BracketPolynomial) (k : Key) (c : ℤ) → is_zero c ≡ false
    → AllByRecursion (λ t. P t.0 t.1) f.terms → P k (coefficient f k +ℤ c)
    → AllByRecursion (λ t. P t.0 t.1) (sum_of key_cmp ((k, c) ∷ f.terms)).terms
all_terms P f k c z h p =
    subst (λ (ts : Terms Key). AllByRecursion (λ t. P t.0 t.1) ts) (sym (written_terms f k c z))
    (all_written key_cmp key_total key_same P k c (coefficient f k) f.terms h p)

pub formed_after : (d : ℕ) (p : Tracked) (t : Key × ℤ) → IsTracked d p → IsKey d 64 t.0 → MayAdd p t
    → IsTracked d (plus_term p t)
formed_after d p t h k may = record {
  rank = h.rank;
  keys = all_terms (λ x c. IsKey d 64 x) p.sum t.0 t.1 may.not_zero h.keys k;
  small = all_terms (λ x c. T (fits c)) p.sum t.0 t.1 may.not_zero h.small (subst T (sym may.sum_fits) tt);
  met_keys = all_met (IsKey d 64) p.met t.0 h.met_keys k;
  once = distinct_met p.met t.0 h.once;
  few = few_met p.met t.0 h.few may.room;
  terms_met = all_terms (λ x c. T (has_met (meet_key p.met t.0) x)) p.sum t.0 t.1 may.not_zero
      (stay p.sum.terms h.terms_met) (now_met p.met t.0);
}
  where
    stay : (ts : Terms Key) → AllByRecursion (λ u. T (has_met p.met u.0)) ts
        → AllByRecursion (λ u. T (has_met (meet_key p.met t.0) u.0)) ts
    stay [] a = tt
    stay (u ∷ us) a = (still_met p.met t.0 u.0 a.0, stay us a.1)

-- lists that are those of what is tracked are kept
pub kept_by : (d : ℕ) (q : Tracked) (ts : Terms Key) (met : List Key) → IsTracked d q → ts ≡ q.sum.terms → met ≡ q.met
    → IsKept d ts met
kept_by d q ts met h e f =
    subst (λ (us : Terms Key). IsKept d us met) (sym e)
    (subst (λ (ks : List Key). IsKept d q.sum.terms ks) (sym f) (record { canonical = q.sum.canonical; formed = h }))

-- one addition of c at the key k to what a polynomial of the code is seen as
module _ (d : ℕ) (v : TrackedOf d) (k : Key) (c s : ℤ) (key : IsKey d 64 k) (may : MayAdd v.tracked (k, c))
    (e : s ≡ coefficient v.tracked.sum k +ℤ c) where
  terms_after : (ts : Terms Key) → ts ≡ with_coefficient k s v.tracked.sum.terms
      → ts ≡ (plus_term v.tracked (k, c)).sum.terms
  terms_after ts f =
      f ∙ ap (λ w. with_coefficient k w v.tracked.sum.terms) e ∙ sym (written_terms v.tracked.sum k c may.not_zero)

  pub kept_after : (ts : Terms Key) (met : List Key) → ts ≡ with_coefficient k s v.tracked.sum.terms
      → met ≡ meet_key v.tracked.met k → IsKept d ts met
  kept_after ts met f g =
      kept_by d (plus_term v.tracked (k, c)) ts met (formed_after d v.tracked (k, c) v.formed key may) (terms_after ts f) g

  pub same_after : (p : Tracked) → p.sum.terms ≡ with_coefficient k s v.tracked.sum.terms
      → p.met ≡ meet_key v.tracked.met k → p ≡ plus_term v.tracked (k, c)
  same_after p f g = same_lists p (plus_term v.tracked (k, c)) (terms_after p.sum.terms f) g

-- the lists of a polynomial of the code are those of the value that it is seen as
pub seen_terms : (d : ℕ) (ts : Terms Key) (met : List Key) (h : IsKept d ts met) (v : TrackedOf d)
    → tracked_of d ts met h ≡ v → ts ≡ v.tracked.sum.terms
seen_terms d ts met h v e = ap (λ (w : TrackedOf d). w.tracked.sum.terms) e

pub seen_met : (d : ℕ) (ts : Terms Key) (met : List Key) (h : IsKept d ts met) (v : TrackedOf d)
    → tracked_of d ts met h ≡ v → met ≡ v.tracked.met
seen_met d ts met h v e = ap (λ (w : TrackedOf d). w.tracked.met) e

-- unchanged lists are kept
pub still_kept : (d : ℕ) (v : TrackedOf d) (ts : Terms Key) (met : List Key) → ts ≡ v.tracked.sum.terms
    → met ≡ v.tracked.met → IsKept d ts met
still_kept d v ts met e f = kept_by d v.tracked ts met v.formed e f

-- after a write that may have failed
pub kept_either : {X E : Type 0} (r : Result X E) (d : ℕ) (ts : Terms Key) (met : List Key) (A B : Terms Key)
    → OnOk r (ts ≡ A) → OnErr r (ts ≡ B) → (ts ≡ A → IsKept d ts met) → (ts ≡ B → IsKept d ts met) → IsKept d ts met
kept_either (Ok x) d ts met A B p q f g = f p
kept_either (Err x) d ts met A B p q f g = g q

pub from_ok : {X E : Type 0} (r : Result X E) (P : Type 0) → IsOk r → IfOk r (λ x. P) → P
from_ok (Ok x) P i p = p
from_ok (Err e) P i p = cc

-- a sum of two numbers that were passed
pub passed_sum : (a b s r : ℤ) → SFits w128 a → SFits w128 b → s ≡ to_z w128 (of_z w128 a) +ℤ to_z w128 (of_z w128 b)
    → a ≡ r → s ≡ r +ℤ b
passed_sum a b s r p q e f =
    e ∙ ap (λ z. z +ℤ to_z w128 (of_z w128 b)) (to_z-of_z w128 a p ∙ f) ∙ ap (λ z. r +ℤ z) (to_z-of_z w128 b q)

pub true_test : (b : Bool) → T b → b ≡ true
true_test true h = refl
true_test false h = absurd h

pub may_add : (p : Tracked) (k : Key) (c s : ℤ) → c ≢ pos 0 → T (fits c) → fits s ≡ true
    → s ≡ coefficient p.sum k +ℤ c → (has_met p.met k ≡ true) ⊎ (length p.met < met_limit) → MayAdd p (k, c)
may_add p k c s z f g e room =
    record { not_zero = not_zero c z; fits_itself = true_test _ f; sum_fits = sym (ap fits e) ∙ g; room = room }

pub met_already : (met : List Key) (k : Key) → has_met met k ≡ true → met ≡ meet_key met k
met_already met k e = sym (ap (λ b. cond b met (met ++ k ∷ [])) e)
