-- Adding one term of a multiple.
use Rattle.std.proofs.Common.{◌≡◌, ◌≢◌, ℕ, zero, suc, Bool, true, false, List, [], ◌∷◌, ◌++◌, map, refl, sym, ap}
use Rattle.std.proofs.Common.{◌∙◌, arith}
use Rattle.std.proofs.Common.{◌+◌, ◌<◌, length, drop, get_or}
use Rattle.std.proofs.Math.Seq.{drop-cons}
use Rattle.std.specs.Prelude.{ℤ, pos, negsuc, ◌*ℤ◌, flat_map, Result, Ok, Err, OnOk, OnErr}
use Rattle.std.proofs.lemmas.Int.{to_z-of_z}
use mir.Syntax.{w8, w128}
use mir.Val.{SFits, to_z, of_z}
use Rattle.bracket_poly.specs.Answers.{AnswersLimit, AddsTerms}
use Rattle.bracket_poly.specs.Kept.{TrackedOf}
use Rattle.bracket_poly.specs.Tracked.{Tracked, limit_at, plus_term}
use Rattle.bracket_poly.specs.declared.error.PolyError.{PolyError}
use Rattle.bracket_poly.proofs.Additions.{nonzero_product, not_zero_is, adds_one}
use Rattle.bracket_poly.proofs.KeyParts.{same_parts}
use Rattle.bracket_terms.specs.LogUses.{use_of}
use Rattle.bracket_terms.specs.declared.log_use.LogUse.{LogUse}
use Rattle.bracket_terms.proofs.ExponentLaws.{add_exponents-nothing}
use Rattle.coordinate_model.specs.Sums.{Terms, is_zero}
use Rattle.coordinate_model.specs.Key.{Key, row_cmp, rows_key, key_times}
use Rattle.coordinate_model.specs.Syzygy.{Use, syz, additions}
use Rattle.coordinate_model.specs.Words.{ordered}
use Rattle.syzygies.specs.declared.pair.PairTerm.{PairTerm}
use Rattle.syzygies.specs.Terms.{term_of, terms_of}
use Rattle.syzygies.specs.Additions.{addition}

-- ---- numbers that were passed

pub passed : (m s : ℤ) → SFits w128 m → SFits w8 s → to_z w128 (of_z w128 m) *ℤ to_z w8 (of_z w8 s) ≡ m *ℤ s
passed m s p q =
    ap (λ z. z *ℤ to_z w8 (of_z w8 s)) (to_z-of_z w128 m p) ∙ ap (λ z. m *ℤ z) (to_z-of_z w8 s q)

pub passed_product : (m s c : ℤ) → SFits w128 m → SFits w8 s → SFits w128 c
    → c ≡ to_z w128 (of_z w128 m) *ℤ to_z w8 (of_z w8 s) → to_z w128 (of_z w128 c) ≡ m *ℤ s
passed_product m s c p q r e = to_z-of_z w128 c r ∙ e ∙ passed m s p q

zero_is : (z : ℤ) → is_zero z ≡ true → z ≡ pos 0
zero_is (pos zero) e = refl
zero_is (pos (suc n)) e = cc
zero_is (negsuc n) e = cc

pub nonzero_is : (z : ℤ) → z ≢ pos 0 → is_zero z ≡ false
nonzero_is z h = step (is_zero z) refl
  where
    step : (b : Bool) → is_zero z ≡ b → b ≡ false
    step true e = absurd (h (zero_is z e))
    step false e = refl

pub not_zero_product : (c m s : ℤ) → c ≡ m *ℤ s → m ≢ pos 0 → s ≢ pos 0 → c ≢ pos 0
not_zero_product c m s e h k =
    not_zero_is c (ap is_zero e ∙ nonzero_product m s (nonzero_is m h) (nonzero_is s k))

-- no term of a use has the integer 0
pub nonzero_addition : {d : ℕ} (u : LogUse d) (p : PairTerm d) → is_zero (addition (use_of u) (term_of p)).1 ≡ false
nonzero_addition u p =
    nonzero_product u.multiplier p.sign_count (nonzero_is u.multiplier u.formed.formed.not_zero)
    (nonzero_is p.sign_count p.not_zero)

-- ---- the key

pub added_key : (es : List ℕ) (rest : List (List ℕ)) (low high : List ℕ) (rows : List (List ℕ))
    → rows ≡ ordered row_cmp (rest ++ low ∷ high ∷ [])
    → record { exponents = es; rows = rows }
    ≡ key_times (record { exponents = es; rows = rest }) (rows_key (low ∷ high ∷ []))
added_key es rest low high rows e =
    same_parts _ (key_times (record { exponents = es; rows = rest }) (rows_key (low ∷ high ∷ [])))
    (sym (add_exponents-nothing es)) e

-- ---- all terms

pub next_pair : {A : Type 0} (all : List A) (i : ℕ) (a : A) → i < length all → a ≡ get_or all i a
    → drop i all ≡ a ∷ drop (i + 1) all
next_pair all i a l e =
    let one : suc i ≡ i + 1 = omega arith in
    drop-cons all i a l ∙ ap (λ b. b ∷ drop (suc i) all) (sym e) ∙ ap (λ n. a ∷ drop n all) one

-- the terms one by one are those of the use, where the pairs are those of its syzygy
pub all_additions : (d : ℕ) (u : Use) (pairs : List (PairTerm d)) (α β γ : List ℕ) → α ≡ u.alpha → β ≡ u.beta
    → γ ≡ u.gamma → terms_of pairs ≡ (syz α β γ).terms
    → flat_map (λ p. addition u (term_of p) ∷ []) pairs ≡ additions u
all_additions d u pairs α β γ ea eb eg e =
    each pairs
    ∙ ap (map (addition u))
    (e ∙ ap (λ xs. (syz xs β γ).terms) ea ∙ ap (λ xs. (syz u.alpha xs γ).terms) eb
    ∙ ap (λ xs. (syz u.alpha u.beta xs).terms) eg)
  where
    each : (pairs : List (PairTerm d))
        → flat_map (λ p. addition u (term_of p) ∷ []) pairs ≡ map (addition u) (terms_of pairs)
    each [] = refl
    each (p ∷ pairs) = ap (λ ts. addition u (term_of p) ∷ ts) (each pairs)

-- ---- what is answered beside

-- the terms that are added do not depend on it
pub same_answer : {X Y : Type 0} {old new : Tracked} {ts : Terms Key} {x : X} {y : Y} → AddsTerms old ts (Ok x) new
    → AddsTerms old ts (Ok y) new
same_answer a = record { answer = a.answer; all = a.all; refused = a.refused; front = a.front }

pub same_error : {X Y : Type 0} {old new : Tracked} {ts : Terms Key} {e : PolyError}
    → AddsTerms {X = X} old ts (Err e) new → AddsTerms {X = Y} old ts (Err e) new
same_error a = record { answer = a.answer; all = a.all; refused = a.refused; front = a.front }

-- a call that adds one term, and answers something beside
pub adds_beside : {X : Type 0} (d : ℕ) (old new : TrackedOf d) (t : Key × ℤ) (r : Result X PolyError)
    → AnswersLimit r (limit_at old.tracked t) → OnOk r (new.tracked ≡ plus_term old.tracked t) → OnErr r (new ≡ old)
    → AddsTerms old.tracked (t ∷ []) r new.tracked
adds_beside d old new t (Ok x) a p q = same_answer (adds_one old.tracked new.tracked t (Ok tt) a p tt)
adds_beside d old new t (Err e) a p q =
    same_error (adds_one old.tracked new.tracked t (Err e) a tt (ap (λ (u : TrackedOf d). u.tracked) q))
