-- Parameters with their exponents: what is read is written again, and what is written is read again.
use Rattle.std.proofs.Common.{◌≡◌, ℕ, zero, suc, ◌+◌, ◌<◌, ◌≤◌, true, false, List, [], ◌∷◌, ◌++◌, length, length-append, map, get_or, replicate, drop, refl, sym, ap, subst, ◌∙◌, arith, codes, append_assoc, inl, inr, one-add}
use Rattle.std.specs.Prelude.{decimal, ◌==◌, nat_lt, slice_set, if◌then◌else◌}
use Rattle.std.specs.List.{list_all, AllByRecursion, IsDistinct}
use Rattle.std.proofs.lemmas.Bool.{cases_Bool, ltb-true, lt-ltb, ne_eqb, eqb-true}
use Rattle.std.proofs.lemmas.List.{length-set, get_or-set_other}
use Rattle.step_types.specs.declared.names.Names.{Names}
use Rattle.construction_reader.specs.Words.{◌is◌}
use Rattle.construction_reader.proofs.ObjectLaws.{is_itself}
use Rattle.proof_text.specs.Numbers.{is_run, is_counted, number_of}
use Rattle.proof_text.specs.Forms.{Power, power_word, IsPower, AreRuns}
use Rattle.proof_text.specs.Meant.{is_among, place_of, exponents_meant, is_rising}
use Rattle.proof_text.specs.Terms.{power_texts}
use Rattle.proof_text.specs.Kinds.{powers_named}
use Rattle.proof_text.proofs.NumberLaws.{and_true}
use Rattle.proof_text.proofs.DecimalLaws.{decimal_of_number}
use Rattle.proof_text.proofs.NameLaws.{AreDifferent, name_at, place_below}
use Rattle.proof_text.proofs.IntegerLaws.{counted_is, is_counted_by, decimal_counted, decimal_value}

-- ---- what is read is written again

-- no exponent up to this place
abbrev NoneTo : ℕ → List ℕ → Type 0
NoneTo i es = (j : ℕ) → j ≤ i → get_or es j 0 ≡ 0

-- an exponent at a place behind which alone others stand
texts_set : (names : List (List ℕ)) (es : List ℕ) (i e : ℕ) → i < length names → i < length es → 1 ≤ e → NoneTo i es
    → power_texts names (slice_set es i e) ≡ (get_or names i [] ++ (codes "^" ++ decimal e)) ∷ power_texts names es
texts_set [] es i e within below some none = absurd (omega arith)
texts_set (name ∷ names) [] i e within below some none = absurd (omega arith)
texts_set (name ∷ names) (x ∷ es) zero e within below some none =
    let first : x ≡ 0 = none 0 (omega arith) in
    rw (first, ne_eqb e 0 (λ h. omega arith)) refl
texts_set (name ∷ names) (x ∷ es) (suc i) e within below some none =
    let first : x ≡ 0 = none 0 (omega arith) in
    rw first (texts_set names es i e (omega arith) (omega arith) some (λ j h. none (suc j) (omega arith)))

pub length-meant : (names : Names) (powers : List Power) → length (exponents_meant names powers) ≡ 64
length-meant names [] = refl
length-meant names (power ∷ powers) = length-set (exponents_meant names powers) _ _ ∙ length-meant names powers

zeros_at : (n i : ℕ) → get_or {A = ℕ} (replicate n 0) i 0 ≡ 0
zeros_at zero i = refl
zeros_at (suc n) zero = refl
zeros_at (suc n) (suc i) = zeros_at n i

-- the places of parameters
abbrev pub places_of : Names → List Power → List ℕ
places_of names powers = map (λ power. place_of names.params power.name) powers

none_before : (names : Names) (i : ℕ) (powers : List Power) → is_rising (i ∷ places_of names powers) ≡ true
    → NoneTo i (exponents_meant names powers)
none_before names i [] rises j h = zeros_at 64 j
none_before names i (power ∷ powers) rises j h =
    let place = place_of names.params power.name in
    let both = and_true (nat_lt i place) (is_rising (place ∷ places_of names powers)) rises in
    let less : i < place = ltb-true i place both.0 in
    get_or-set_other (exponents_meant names powers) place j (number_of power.digits) 0 (omega arith)
    ∙ none_before names place powers both.1 j (omega arith)

rising_tail : (x : ℕ) (xs : List ℕ) → is_rising (x ∷ xs) ≡ true → is_rising xs ≡ true
rising_tail x [] rises = refl
rising_tail x (y ∷ xs) rises = (and_true (nat_lt x y) (is_rising (y ∷ xs)) rises).1

pub powers_written : (names : Names) (powers : List Power) → length names.params ≤ 64 → powers_named names powers ≡ true
    → list_all (λ power. is_counted 1000 power.digits) powers ≡ true → is_rising (places_of names powers) ≡ true
    → power_texts names.params (exponents_meant names powers) ≡ map power_word powers
powers_written names [] few named counted rises = no_powers names.params 64
  where
    no_powers : (params : List (List ℕ)) (n : ℕ) → power_texts params (replicate n 0) ≡ []
    no_powers [] zero = refl
    no_powers [] (suc n) = refl
    no_powers (name ∷ params) zero = refl
    no_powers (name ∷ params) (suc n) = no_powers params n
powers_written names (power ∷ powers) few named counted rises =
    let place = place_of names.params power.name in
    let both = and_true (is_among names.params power.name) (powers_named names powers) named in
    let also = and_true (is_counted 1000 power.digits) (list_all (λ power. is_counted 1000 power.digits) powers) counted in
    let good = counted_is 1000 power.digits also.0 in
    let below = place_below names.params power.name both.0 in
    let digits = decimal_of_number power.digits good.number good.plain (omega (arith, good.few)) in
    texts_set names.params (exponents_meant names powers) place (number_of power.digits) below
    (omega (arith, length-meant names powers)) good.some (none_before names place powers rises)
    ∙ ap (λ name. (name ++ (codes "^" ++ decimal (number_of power.digits))) ∷ power_texts names.params (exponents_meant names powers))
    (name_at names.params power.name both.0)
    ∙ ap (λ ds. (power.name ++ (codes "^" ++ ds)) ∷ power_texts names.params (exponents_meant names powers)) digits
    ∙ ap (λ ps. power_word power ∷ ps)
    (powers_written names powers few both.1 also.1 (rising_tail place (places_of names powers) rises))

-- ---- what is written is read again

-- the parameters that have an exponent
abbrev pub powers_spelt : List (List ℕ) → List ℕ → List Power
powers_spelt params [] = []
powers_spelt [] (e ∷ es) = []
powers_spelt (name ∷ params) (e ∷ es) =
    if e == 0 then powers_spelt params es else record { name = name; digits = decimal e } ∷ powers_spelt params es

pub powers_word : (params : List (List ℕ)) (es : List ℕ) → map power_word (powers_spelt params es) ≡ power_texts params es
powers_word params [] = refl
powers_word [] (e ∷ es) = refl
powers_word (name ∷ params) (e ∷ es) = elim (cases_Bool (e == 0)) [
  | inl none ↦ rw none (powers_word params es)
  | inr some ↦ rw some (ap (λ ps. (name ++ (codes "^" ++ decimal e)) ∷ ps) (powers_word params es))
]

set_behind : (n : ℕ) (x e : ℕ) (es : List ℕ) → slice_set (replicate n 0 ++ x ∷ es) n e ≡ replicate n 0 ++ e ∷ es
set_behind zero x e es = refl
set_behind (suc n) x e es = ap (λ ys. 0 ∷ ys) (set_behind n x e es)

one_more : (n : ℕ) (es : List ℕ) → replicate (suc n) 0 ++ es ≡ replicate n 0 ++ 0 ∷ es
one_more zero es = refl
one_more (suc n) es = ap (λ ys. 0 ∷ ys) (one_more n es)

place_behind : (front : List (List ℕ)) (name : List ℕ) (back : List (List ℕ)) → AreDifferent (front ++ name ∷ back)
    → place_of (front ++ name ∷ back) name ≡ length front
unfolding IsDistinct
place_behind [] name back differ = rw (is_itself name) refl
place_behind (first ∷ front) name back differ =
    rw (other front differ.0, one-add (place_of (front ++ name ∷ back) name)) (ap suc (place_behind front name back differ.1))
  where
    other : (front : List (List ℕ)) → AllByRecursion (λ b. first is b ≡ false) (front ++ name ∷ back) → first is name ≡ false
    other [] all = all.0
    other (next ∷ front) all = other front all.1

among_behind : (front : List (List ℕ)) (name : List ℕ) (back : List (List ℕ)) → is_among (front ++ name ∷ back) name ≡ true
among_behind [] name back = rw (is_itself name) refl
among_behind (first ∷ front) name back = elim (cases_Bool (first is name)) [
  | inl it ↦ rw it refl
  | inr other ↦ rw other (among_behind front name back)
]

-- what holds of the powers of the parameters behind the first n, whose exponents these are
pub record AreSpelt (names : Names) (n : ℕ) (es : List ℕ) (powers : List Power) : Type 0 where
  pub means : exponents_meant names powers ≡ replicate n 0 ++ es
  pub rising : is_rising (places_of names powers) ≡ true
  pub above : AllByRecursion (λ p. n ≤ p) (places_of names powers)
  pub formed : AllByRecursion IsPower powers
  pub named : powers_named names powers ≡ true
  pub counted : list_all (λ power. is_counted 1000 power.digits) powers ≡ true

zeros_are : (es : List ℕ) → AllByRecursion (λ e. e ≡ 0) es → replicate (length es) 0 ≡ es
zeros_are [] none = refl
zeros_are (e ∷ es) none = ap (λ x. x ∷ replicate (length es) 0) (sym none.0) ∙ ap (λ ys. e ∷ ys) (zeros_are es none.1)

all_zero : (n m : ℕ) (es : List ℕ) → n + length es ≡ m → AllByRecursion (λ e. e ≡ 0) es → replicate m 0 ≡ replicate n 0 ++ es
all_zero zero m es long none =
    let same : m ≡ length es = omega (arith, long) in ap (λ k. replicate k 0) same ∙ zeros_are es none
all_zero (suc n) zero es long none = absurd (omega arith)
all_zero (suc n) (suc m) es long none = ap (λ ys. 0 ∷ ys) (all_zero n m es (omega arith) none)

no_more : (names : Names) (n : ℕ) (es : List ℕ) → n + length es ≡ 64 → AllByRecursion (λ e. e ≡ 0) es → AreSpelt names n es []
no_more names n es long none = record {
  means = all_zero n 64 es long none;
  rising = refl;
  above = tt;
  formed = tt;
  named = refl;
  counted = refl;
}

rise_more : (n : ℕ) (xs : List ℕ) → AllByRecursion (λ p. suc n ≤ p) xs → is_rising xs ≡ true → is_rising (n ∷ xs) ≡ true
rise_more n [] above rises = refl
rise_more n (x ∷ xs) above rises = rw (lt-ltb n x (omega (arith, above.0))) rises

above_less : (n : ℕ) (xs : List ℕ) → AllByRecursion (λ p. suc n ≤ p) xs → AllByRecursion (λ p. n ≤ p) xs
above_less n [] above = tt
above_less n (x ∷ xs) above = (omega (arith, above.0), above_less n xs above.1)

spelt_none : (names : Names) (n : ℕ) (es : List ℕ) (powers : List Power) → AreSpelt names (suc n) es powers
    → AreSpelt names n (0 ∷ es) powers
spelt_none names n es powers rest = record {
  means = rest.means ∙ one_more n es;
  rising = rest.rising;
  above = above_less n (places_of names powers) rest.above;
  formed = rest.formed;
  named = rest.named;
  counted = rest.counted;
}

spelt_some : (names : Names) (n e : ℕ) (name : List ℕ) (es : List ℕ) (powers : List Power) → 1 ≤ e → e ≤ 1000
    → is_run name ≡ true → place_of names.params name ≡ n → is_among names.params name ≡ true
    → AreSpelt names (suc n) es powers → AreSpelt names n (e ∷ es) (record { name = name; digits = decimal e } ∷ powers)
spelt_some names n e name es powers some few run place among rest =
    let good = decimal_counted 1000 e some few (omega arith) in
    record {
      means =
          ap (λ p. slice_set (exponents_meant names powers) p (number_of (decimal e))) place
          ∙ ap (λ m. slice_set (exponents_meant names powers) n m) (decimal_value e (omega arith))
          ∙ ap (λ xs. slice_set xs n e) (rest.means ∙ one_more n es) ∙ set_behind n 0 e es;
      rising =
          subst (λ p. is_rising (p ∷ places_of names powers) ≡ true) (sym place)
          (rise_more n (places_of names powers) rest.above rest.rising);
      above = (omega (arith, place), above_less n (places_of names powers) rest.above);
      formed = (record { name = run; digits = good.number }, rest.formed);
      named = rw among rest.named;
      counted = rw (is_counted_by 1000 (decimal e) good) rest.counted;
    }

pub powers_read : (names : Names) (front params : List (List ℕ)) (es : List ℕ) → names.params ≡ front ++ params
    → AreDifferent names.params → AreRuns params → length front + length es ≡ 64
    → AllByRecursion (λ e. e ≡ 0) (drop (length params) es) → AllByRecursion (λ e. e ≤ 1000) es
    → AreSpelt names (length front) es (powers_spelt params es)
powers_read names front [] [] whole differ runs long none small = no_more names (length front) [] long none
powers_read names front [] (e ∷ es) whole differ runs long none small = no_more names (length front) (e ∷ es) long none
powers_read names front (name ∷ params) [] whole differ runs long none small = no_more names (length front) [] long tt
powers_read names front (name ∷ params) (e ∷ es) whole differ runs long none small =
    let run = and_true (is_run name) (list_all is_run params) runs in
    let count : length (front ++ name ∷ []) ≡ suc (length front) = omega (arith, length-append front (name ∷ [])) in
    let more = powers_read names (front ++ name ∷ []) params es (whole ∙ sym (append_assoc front (name ∷ []) params)) differ
    run.1 (omega (arith, count)) none small.1 in
    let rest : AreSpelt names (suc (length front)) es (powers_spelt params es) =
    subst (λ n. AreSpelt names n es (powers_spelt params es)) count more in
    let place : place_of names.params name ≡ length front =
    ap (λ ns. place_of ns name) whole ∙ place_behind front name params (subst AreDifferent whole differ) in
    let among : is_among names.params name ≡ true = ap (λ ns. is_among ns name) whole ∙ among_behind front name params in
    elim (cases_Bool (e == 0)) [
      | inl zero_here ↦
          rw zero_here (subst (λ x. AreSpelt names (length front) (x ∷ es) (powers_spelt params es)) (sym (eqb-true e 0 zero_here))
          (spelt_none names (length front) es (powers_spelt params es) rest))
      | inr some ↦
          rw some (spelt_some names (length front) e name es (powers_spelt params es) (not_zero e some) small.0 run.0 place among rest)
    ]
  where
    not_zero : (e : ℕ) → (e == 0) ≡ false → 1 ≤ e
    not_zero zero h = absurd cc
    not_zero (suc e) h = omega arith
