-- Exponents up to the last that is not 0.
use Rattle.std.proofs.Common.{◌≡◌, ℕ, zero, suc, ◌-◌, ◌<◌, ◌≤◌, List, [], ◌∷◌, ◌++◌, length, get_or, take}
use Rattle.std.proofs.Common.{refl, sym, ap, ◌∙◌, arith}
use Rattle.std.proofs.lemmas.Bool.Decides.{nat_tests}
use Rattle.std.specs.Prelude.{true, false, cond, nat_lt, nat_eq}
use Rattle.std.proofs.lemmas.List.{length-take-le}
use Rattle.std.proofs.Math.Seq.{take-suc}
use Rattle.std.specs.Ordering.{nat_cmp, ordering_then}
use Rattle.std.specs.Cmp.Lexicographic.{slice_cmp}
use Rattle.std.specs.declared.cmp.Ordering.{Ordering}
use Rattle.std.specs.declared.cmp.Ordering.TheVariants.{Less, Equal, Greater}
use Rattle.bracket_terms.specs.Exponents.{before_used, in_use}

abbrev cmp : List ℕ → List ℕ → Ordering
cmp = slice_cmp nat_cmp

-- a last 0 is not in use
pub used-zero : (es : List ℕ) → in_use (es ++ 0 ∷ []) ≡ in_use es
used-zero [] = refl
used-zero (e ∷ es) = ap (before_used e) (used-zero es)

-- with another last one all are in use
pub used-last : (es : List ℕ) (e : ℕ) → (e ≡ 0 → ⊥) → in_use (es ++ e ∷ []) ≡ es ++ e ∷ []
used-last [] zero h = absurd (h refl)
used-last [] (suc e) h = refl
used-last (d ∷ []) e h = ap (before_used d) (used-last [] e h)
used-last (d ∷ c ∷ es) e h = ap (before_used d) (used-last (c ∷ es) e h)

-- those in use come first
pub take-used : (es : List ℕ) → take (length (in_use es)) es ≡ in_use es
take-used [] = refl
take-used (e ∷ es) = step e (in_use es) (take-used es)
  where
    step : (e : ℕ) (us : List ℕ) → take (length us) es ≡ us → take (length (before_used e us)) (e ∷ es) ≡ before_used e us
    step zero [] h = refl
    step (suc e) [] h = refl
    step e (u ∷ us) h = ap (λ xs. e ∷ xs) h

pub few-used : (es : List ℕ) → length (in_use es) ≤ length es
few-used [] = omega arith
few-used (e ∷ es) = step e (in_use es) (few-used es)
  where
    step : (e : ℕ) (us : List ℕ) → length us ≤ length es → length (before_used e us) ≤ suc (length es)
    step zero [] h = omega arith
    step (suc e) [] h = omega arith
    step e (u ∷ us) h = omega arith

nothing_less : (e : ℕ) → nat_cmp 0 (suc e) ≡ Less
nothing_less e = ap (λ b. cond b Less (cond (nat_eq 0 (suc e)) Equal Greater)) less
  where
    less : nat_lt 0 (suc e) ≡ true
    less = grind (arith, nat_tests)

more_greater : (e : ℕ) → nat_cmp (suc e) 0 ≡ Greater
more_greater e =
    ap (λ b. cond b Less (cond (nat_eq (suc e) 0) Equal Greater)) not_less ∙ ap (λ b. cond b Equal Greater) other
  where
    not_less : nat_lt (suc e) 0 ≡ false
    not_less = grind (arith, nat_tests)

    other : nat_eq (suc e) 0 ≡ false
    other = grind (arith, nat_tests)

-- they decide the order of as many exponents
pub cmp-used : (es fs : List ℕ) → length es ≡ length fs → cmp (in_use es) (in_use fs) ≡ cmp es fs
cmp-used [] [] h = refl
cmp-used [] (f ∷ fs) h = absurd (omega arith)
cmp-used (e ∷ es) [] h = absurd (omega arith)
cmp-used (e ∷ es) (f ∷ fs) h = step e f (in_use es) (in_use fs) (cmp-used es fs (omega arith))
  where
    less : (f : ℕ) → ordering_then (nat_cmp 0 (suc f)) (cmp es fs) ≡ Less
    less f = ap (λ o. ordering_then o (cmp es fs)) (nothing_less f)

    greater : (e : ℕ) → ordering_then (nat_cmp (suc e) 0) (cmp es fs) ≡ Greater
    greater e = ap (λ o. ordering_then o (cmp es fs)) (more_greater e)

    step : (e f : ℕ) (us vs : List ℕ) → cmp us vs ≡ cmp es fs
        → cmp (before_used e us) (before_used f vs) ≡ ordering_then (nat_cmp e f) (cmp es fs)
    step zero zero [] [] h = h
    step zero (suc f) [] [] h = sym (less f)
    step (suc e) zero [] [] h = sym (greater e)
    step (suc e) (suc f) [] [] h = ap (ordering_then (nat_cmp (suc e) (suc f))) h
    step zero zero [] (v ∷ vs) h = h
    step zero (suc f) [] (v ∷ vs) h = sym (less f)
    step (suc e) f [] (v ∷ vs) h = ap (ordering_then (nat_cmp (suc e) f)) h
    step zero zero (u ∷ us) [] h = h
    step (suc e) zero (u ∷ us) [] h = sym (greater e)
    step e (suc f) (u ∷ us) [] h = ap (ordering_then (nat_cmp e (suc f))) h
    step e f (u ∷ us) (v ∷ vs) h = ap (ordering_then (nat_cmp e f)) h

-- ---- counting from the last

shorter : (es : List ℕ) (n : ℕ) → n < length es → get_or es n 0 ≡ 0 → in_use (take (suc n) es) ≡ in_use es
    → in_use (take n es) ≡ in_use es
shorter es n l z h =
    sym (used-zero (take n es)) ∙ ap (λ e. in_use (take n es ++ e ∷ [])) (sym z)
    ∙ sym (ap in_use (take-suc es n 0 l)) ∙ h

whole : (es : List ℕ) (n : ℕ) → n < length es → (get_or es n 0 ≡ 0 → ⊥) → in_use (take (suc n) es) ≡ in_use es
    → in_use es ≡ take (suc n) es
whole es n l z h =
    sym h ∙ ap in_use (take-suc es n 0 l) ∙ used-last (take n es) (get_or es n 0) z ∙ sym (take-suc es n 0 l)

-- where the last of the first n is 0, those in use are among the others
pub used-shorter : (es : List ℕ) (n : ℕ) → 0 < n → n ≤ length es → get_or es (n - 1) 0 ≡ 0
    → in_use (take n es) ≡ in_use es → in_use (take (n - 1) es) ≡ in_use es
used-shorter es zero p l z h = absurd (omega arith)
used-shorter es (suc n) p l z h =
    let one : suc n - 1 ≡ n = omega arith in
    ap (λ k. in_use (take k es)) one ∙ shorter es n (omega arith) (sym (ap (λ k. get_or es k 0) one) ∙ z) h

-- and where it is not, they are the first n
pub used-whole : (es : List ℕ) (n : ℕ) → 0 < n → n ≤ length es → (get_or es (n - 1) 0 ≡ 0 → ⊥)
    → in_use (take n es) ≡ in_use es → n ≡ length (in_use es)
used-whole es zero p l z h = absurd (omega arith)
used-whole es (suc n) p l z h =
    let one : suc n - 1 ≡ n = omega arith in
    let all : in_use es ≡ take (suc n) es = whole es n (omega arith) (λ e. z (ap (λ k. get_or es k 0) one ∙ e)) h in
    sym (ap length all ∙ length-take-le (suc n) es l)
