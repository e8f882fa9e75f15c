-- The terms of a polynomial of the code.
use Rattle.std.proofs.Common.{◌≡◌, ◌≢◌, ℕ, ◌≤◌, Bool, true, false, T, cond, List, [], ◌∷◌, refl, sym, ap, ◌∙◌}
use Rattle.std.proofs.Common.{true≢false}
use Rattle.std.proofs.Common.{◌++◌, map, append-nil, subst}
use Rattle.std.specs.Prelude.{ℤ, pos}
use Rattle.std.specs.List.{AllByRecursion}
use Rattle.coordinate_model.specs.Key.{Key, IsKey}
use Rattle.coordinate_model.specs.Sums.{Terms, is_zero, has_no_zero}
use Rattle.coordinate_model.proofs.Bools.{second}
use Rattle.coordinate_model.proofs.Splits.{all_so, all_both}
use Rattle.bracket_poly.specs.Kept.{IsTracked}
use Rattle.bracket_poly.specs.Products.{HasDegree}
use Rattle.bracket_poly.specs.Tracked.{Tracked, fits}
use Rattle.contraction.specs.Pairs.{IsTerm}

abbrev HaveNoZero : Terms Key → Type 0
HaveNoZero ts = AllByRecursion (λ t. t.1 ≢ pos 0) ts

nonzero_all : (ts : Terms Key) → T (has_no_zero ts) → HaveNoZero ts
nonzero_all [] h = tt
nonzero_all (t ∷ ts) h = step (is_zero t.1) refl h (λ k. nonzero_all ts k)
  where
    step : (b : Bool) → is_zero t.1 ≡ b → T (cond b false (has_no_zero ts))
        → (T (has_no_zero ts) → HaveNoZero ts) → (t.1 ≢ pos 0) × HaveNoZero ts
    step true e k ih = absurd k
    step false e k ih = (λ z. true≢false (sym (ap is_zero z) ∙ e), ih k)

abbrev IsSmall : Key × ℤ → Type 0
IsSmall t = AllByRecursion (λ e. e ≤ 1000) t.0.exponents

pub terms_are : (d : ℕ) (p : Tracked) → IsTracked d p → HasDegree 1000 p.sum → AllByRecursion (IsTerm d) p.sum.terms
terms_are d p formed degrees =
    all_so (λ t. IsKey d 64 t.0 × (IsSmall t × ((t.1 ≢ pos 0) × T (fits t.1)))) (IsTerm d)
    (λ t h. record { key = h.0; degrees = h.1.0; not_zero = h.1.1.0; small = h.1.1.1 }) p.sum.terms
    (all_both (λ t. IsKey d 64 t.0) (λ t. IsSmall t × ((t.1 ≢ pos 0) × T (fits t.1))) p.sum.terms formed.keys
    (all_both IsSmall (λ t. (t.1 ≢ pos 0) × T (fits t.1)) p.sum.terms degrees
    (all_both (λ t. t.1 ≢ pos 0) (λ t. T (fits t.1)) p.sum.terms (nonzero_all p.sum.terms (second _ _ p.sum.canonical))
    formed.small)))

-- what holds of all terms holds of those that were listed
pub are_all : {A : Type 0} (view : A → Key × ℤ) (items seen : List A) (rest ts : Terms Key) (P : Key × ℤ → Type 0)
    → seen ≡ items → map view items ++ rest ≡ ts → rest ≡ [] → AllByRecursion P ts → AllByRecursion P (map view seen)
are_all view items seen rest ts P s e n h =
    subst (AllByRecursion P)
    (sym (ap (map view) s ∙ sym (append-nil (map view items))
    ∙ ap (λ (w : Terms Key). map view items ++ w) (sym n) ∙ e))
    h
