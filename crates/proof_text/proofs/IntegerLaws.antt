-- Coefficients and exponents: what is read is written again, and what is written is read again.
use Rattle.std.proofs.Common.{◌≡◌, ℕ, zero, suc, ◌+◌, ◌-◌, ◌%◌, ◌^◌, ◌<◌, ◌≤◌, Bool, true, false, not, List, [], ◌∷◌, ◌++◌, length, length-append, get_or, refl, sym, ap, ◌∙◌, arith, codes, ℤ, pos, negsuc, add-one}
use Rattle.std.specs.Prelude.{decimal, ◌==◌, ◌&&◌, nat_le, neg_ℤ, if◌then◌else◌}
use Rattle.std.proofs.lemmas.Bool.{ltb-true, lt-ltb, leb-true, le-leb, eq-eqb, ne_eqb, not-true}
use Rattle.std.proofs.lemmas.Fmt.{decimal_digit, decimal_is_IsNumeral_wide, decimal_by_steps_wide}
use Rattle.std.proofs.Math.ListN.{get_or-append}
use Rattle.coordinate_model.specs.Sums.{is_zero}
use Rattle.bracket_poly.specs.Tracked.{fits}
use Rattle.proof_text.specs.Numbers.{is_number, is_padded, is_counted, number_of, writes}
use Rattle.proof_text.specs.Forms.{signed_word}
use Rattle.proof_text.specs.Meant.{integer_meant}
use Rattle.proof_text.specs.Terms.{signed_text}
use Rattle.proof_text.proofs.NumberLaws.{and_true, own}
use Rattle.proof_text.proofs.DecimalLaws.{decimal_of_number}

-- ---- numbers in their one spelling

pub record IsCounted (most : ℕ) (digits : List ℕ) : Type 0 where
  pub number : is_number digits ≡ true
  pub plain : is_padded digits ≡ false
  pub some : 1 ≤ number_of digits
  pub few : number_of digits ≤ most

pub counted_is : (most : ℕ) (digits : List ℕ) → is_counted most digits ≡ true → IsCounted most digits
counted_is most digits e =
    let a = and_true (is_number digits && not (is_padded digits) && nat_le 1 (number_of digits)) (nat_le (number_of digits) most) e in
    let b = and_true (is_number digits && not (is_padded digits)) (nat_le 1 (number_of digits)) a.0 in
    let c = and_true (is_number digits) (not (is_padded digits)) b.0 in
    record { number = c.0; plain = not-true (is_padded digits) c.1; some = leb-true _ _ b.1; few = leb-true _ _ a.1 }

pub is_counted_by : (most : ℕ) (digits : List ℕ) → IsCounted most digits → is_counted most digits ≡ true
is_counted_by most digits good =
    rw (good.number, good.plain, le-leb 1 (number_of digits) good.some, le-leb (number_of digits) most good.few) refl

-- ---- what `decimal` writes

first_above : (n : ℕ) → 0 < n → n < 10 ^ 64 → 48 < get_or (decimal n) 0 0
first_above n some small =
    (decimal_by_steps_wide (λ m ds. (0 < length ds) × (0 < m → 48 < get_or ds 0 0)) (λ m l. (omega arith, λ a. omega arith))
    (λ m ds l h. (omega (arith, length-append ds ((48 + m % 10) ∷ [])), λ a. omega (arith, get_or-append ds ((48 + m % 10) ∷ []) 0 0 h.0, h.1 (omega arith)))) n small).1 some

first_plain : (digits : List ℕ) → 48 < get_or digits 0 0 → is_padded digits ≡ false
first_plain [] above = refl
first_plain (c ∷ digits) above = rw (ne_eqb c 48 (λ e. omega arith)) refl

pub decimal_number : (n : ℕ) → n < 10 ^ 64 → is_number (decimal n) ≡ true
decimal_number n small =
    let numeral = (decimal_is_IsNumeral_wide n small).0 in
    rw (lt-ltb 0 (length (decimal n)) numeral.0) (own.from (decimal n) numeral.1)

pub decimal_value : (n : ℕ) → n < 10 ^ 64 → number_of (decimal n) ≡ n
decimal_value n small = (decimal_is_IsNumeral_wide n small).1

pub decimal_plain : (n : ℕ) → n < 10 ^ 64 → is_padded (decimal n) ≡ false
decimal_plain zero small = ap is_padded (decimal_digit 0 (omega arith))
decimal_plain (suc n) small = first_plain (decimal (suc n)) (first_above (suc n) (omega arith) small)

pub decimal_counted : (most n : ℕ) → 1 ≤ n → n ≤ most → n < 10 ^ 64 → IsCounted most (decimal n)
decimal_counted most n some few small =
    record {
      number = decimal_number n small;
      plain = decimal_plain n small;
      some = omega (arith, decimal_value n small);
      few = omega (arith, decimal_value n small);
    }

pub decimal_writes : (n : ℕ) → n < 10 ^ 64 → writes (decimal n) n ≡ true
decimal_writes n small = rw (decimal_number n small, decimal_value n small) (own_eq n)
  where
    own_eq : (n : ℕ) → (n == n) ≡ true
    own_eq n = eq-eqb n n refl

-- ---- coefficients

pub wide : (n : ℕ) → n ≤ 2 ^ 127 - 1 → n < 10 ^ 64
wide n few = omega arith

negated_text : (n : ℕ) → 1 ≤ n → signed_text (neg_ℤ (pos n)) ≡ codes "-" ++ decimal n
negated_text zero some = absurd (omega arith)
negated_text (suc n) some = ap (λ m. codes "-" ++ decimal m) (add-one n)

pub text_again : (is_negative : Bool) (digits : List ℕ) → is_counted (2 ^ 127 - 1) digits ≡ true
    → signed_text (integer_meant is_negative digits) ≡ signed_word is_negative digits
text_again is_negative digits e =
    let good = counted_is (2 ^ 127 - 1) digits e in
    let same = decimal_of_number digits good.number good.plain (wide (number_of digits) good.few) in
    by_sign is_negative same good.some
  where
    by_sign : (is_negative : Bool) → decimal (number_of digits) ≡ digits → 1 ≤ number_of digits
        → signed_text (integer_meant is_negative digits) ≡ signed_word is_negative digits
    by_sign true same some = negated_text (number_of digits) some ∙ ap (λ ds. codes "-" ++ ds) same
    by_sign false same some = ap (λ ds. codes "+" ++ ds) same

fits_by : (is_negative : Bool) (n : ℕ) → 1 ≤ n → n ≤ 2 ^ 127 - 1
    → (fits (if is_negative then neg_ℤ (pos n) else pos n) ≡ true) × (is_zero (if is_negative then neg_ℤ (pos n) else pos n) ≡ false)
fits_by is_negative zero some few = absurd (omega arith)
fits_by true (suc n) some few = (lt-ltb (suc n) (2 ^ 127) (omega arith), refl)
fits_by false (suc n) some few = (lt-ltb (suc n) (2 ^ 127) (omega arith), refl)

pub integer_fits : (is_negative : Bool) (digits : List ℕ) → is_counted (2 ^ 127 - 1) digits ≡ true
    → (fits (integer_meant is_negative digits) ≡ true) × (is_zero (integer_meant is_negative digits) ≡ false)
integer_fits is_negative digits e =
    let good = counted_is (2 ^ 127 - 1) digits e in fits_by is_negative (number_of digits) good.some good.few

-- how an integer is spelt
abbrev pub is_below : ℤ → Bool
is_below (pos n) = false
is_below (negsuc n) = true

abbrev pub size_of : ℤ → ℕ
size_of (pos n) = n
size_of (negsuc n) = suc n

pub record IsSpeltInteger (c : ℤ) : Type 0 where
  pub counted : is_counted (2 ^ 127 - 1) (decimal (size_of c)) ≡ true
  pub number : is_number (decimal (size_of c)) ≡ true
  pub means : integer_meant (is_below c) (decimal (size_of c)) ≡ c
  pub word : signed_word (is_below c) (decimal (size_of c)) ≡ signed_text c

spelt_integer_of : (c : ℤ) → 1 ≤ size_of c → size_of c ≤ 2 ^ 127 - 1
    → integer_meant (is_below c) (decimal (size_of c)) ≡ c → signed_word (is_below c) (decimal (size_of c)) ≡ signed_text c
    → IsSpeltInteger c
spelt_integer_of c some few means word =
    let good = decimal_counted (2 ^ 127 - 1) (size_of c) some few (wide (size_of c) few) in
    record { counted = is_counted_by (2 ^ 127 - 1) (decimal (size_of c)) good; number = good.number; means = means; word = word }

pub spelt_integer : (c : ℤ) → fits c ≡ true → is_zero c ≡ false → IsSpeltInteger c
spelt_integer (pos zero) small some = absurd cc
spelt_integer (pos (suc n)) small some =
    let below : suc n < 2 ^ 127 = ltb-true (suc n) (2 ^ 127) small in
    spelt_integer_of (pos (suc n)) (omega arith) (omega arith) (ap pos (decimal_value (suc n) (wide (suc n) (omega arith)))) refl
spelt_integer (negsuc n) small some =
    let below : suc n < 2 ^ 127 = ltb-true (suc n) (2 ^ 127) small in
    spelt_integer_of (negsuc n) (omega arith) (omega arith)
    (ap (λ m. neg_ℤ (pos m)) (decimal_value (suc n) (wide (suc n) (omega arith))))
    (ap (λ m. codes "-" ++ decimal m) (sym (add-one n)))
