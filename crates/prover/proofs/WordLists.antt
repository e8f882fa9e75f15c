-- Words, and words that are numbers.
use Rattle.std.proofs.Common.{◌≡◌, ◌≢◌, ◌<◌, ◌≤◌, ◌^◌, ◌⊎◌, inl, inr, ℕ, zero, suc, Bool, true, false, true≢false}
use Rattle.std.proofs.Common.{List, [], ◌∷◌, map, length, get_or, take, drop, ◌-◌, Result, Ok, Option, Some, None}
use Rattle.std.proofs.Common.{MatchOption, codes, refl, sym, ap, ◌∙◌, subst, arith}
use Rattle.std.specs.Prelude.{decimal}
use Rattle.std.specs.Cmp.Lexicographic.{pointwise}
use Rattle.std.specs.Str.Parse.{ParsesUnsigned}
use Rattle.std.specs.Bool.{Decides}
use Rattle.std.specs.Str.{bytes_eq}
use Rattle.std.proofs.Math.Dec.{eqb}
use Rattle.std.proofs.lemmas.Bool.{cases_lt}
use Rattle.std.proofs.lemmas.Bool.Decides.{Decides-eqb}
use Rattle.std.proofs.lemmas.Slice.Eq.{slice_eq-Decides, bytes_eq-Decides}
use Rattle.std.proofs.lemmas.Fmt.{parse-decimal, decimal_injective}
use Rattle.prover.specs.Words.{IsNumber, NoNumber}

-- a word that is tested for being the text, and is it
pub same_word : (word text : List ℕ) (is : Bool) → is ≡ pointwise eqb word text → is ≡ true → word ≡ text
same_word word text is tested holds = (slice_eq-Decides Decides-eqb word text is tested).0 holds

-- and one that is not
pub other_word : (word text : List ℕ) (is : Bool) → is ≡ pointwise eqb word text → is ≡ false → word ≢ text
other_word word text is tested fails e =
    true≢false (sym ((slice_eq-Decides Decides-eqb word text is tested).1 e) ∙ fails)

-- what is behind the first
abbrev pub behind : {X : Type 0} → List X → List X
behind xs = take (length xs - 1) (drop 1 xs)

pub take_all : {X : Type 0} (xs : List X) → take (length xs) xs ≡ xs
take_all [] = refl
take_all (x ∷ xs) = ap (λ (ys : List _). x ∷ ys) (take_all xs)

-- the words begin with this one, by its test
pub front : {X : Type 0} (f : X → List ℕ) (xs : List X) (x : X) (word text : List ℕ) → 1 ≤ length xs → x ≡ get_or xs 0 x
    → word ≡ f x → word ≡ text → map f xs ≡ text ∷ map f (behind xs)
front f [] x word text some is spelled same = absurd (omega arith)
front f (y ∷ xs) x word text some is spelled same =
    let first : f y ≡ text = ap f (sym is) ∙ sym spelled ∙ same in
    let count : length (y ∷ xs) - 1 ≡ length xs = omega arith in
    let rest : behind (y ∷ xs) ≡ xs = ap (λ (n : ℕ). take n xs) count ∙ take_all xs in
    ap (λ (w : List ℕ). w ∷ map f xs) first ∙ ap (λ (ys : List _). text ∷ map f ys) (sym rest)

-- there are none
pub no_words_left : {X : Type 0} (f : X → List ℕ) (xs : List X) → length xs < 1 → map f xs ≡ []
no_words_left f [] none = refl
no_words_left f (x ∷ xs) none = absurd (omega arith)

-- what is answered by nothing
pub at_none : {T : Type 0} (P : Type 0) (Q : T → Type 0) (r : Option T) → r ≡ None → P → MatchOption r P Q
at_none P Q r is p = rw is p

-- a word that reads as no number, or as one out of the range, or in another spelling, is none
pub reads_as_none : {E : Type 0} (most : ℕ) (word : List ℕ) (r : Result ℕ E) → most < 2 ^ 64 → ParsesUnsigned 64 10 word r
    → ((number : ℕ) → r ≡ Ok number → ((number < 1) ⊎ (most < number)) ⊎ (word ≢ decimal number)) → NoNumber most word
reads_as_none most word r small parses otherwise number is =
    let fits : number < 2 ^ 64 = omega (arith, is.within) in
    split (otherwise number (parse-decimal 64 number word r fits fits is.spelled parses))
  where
    split : ((number < 1) ⊎ (most < number)) ⊎ (word ≢ decimal number) → ⊥
    split (inl (inl low)) = omega (arith, is.least)
    split (inl (inr high)) = omega (arith, is.within)
    split (inr other) = other is.spelled

-- ---- numbers that are spelled

-- some number below n has this spelling, or none has
spelled_below : (word : List ℕ) (n : ℕ)
    → ((number : ℕ) × (number < n) × (word ≡ decimal number)) ⊎ ((number : ℕ) → number < n → word ≢ decimal number)
spelled_below word zero = inr (λ number below e. omega arith)
spelled_below word (suc n) = elim (spelled_below word n) [
  | inl w ↦ inl (w.0, omega (arith, w.1), w.2)
  | inr none ↦ go (bytes_eq word (decimal n)) (bytes_eq-Decides word (decimal n)) none
]
  where
    go : (same : Bool) → Decides same (word ≡ decimal n) → ((number : ℕ) → number < n → word ≢ decimal number)
        → ((number : ℕ) × (number < suc n) × (word ≡ decimal number))
        ⊎ ((number : ℕ) → number < suc n → word ≢ decimal number)
    go true decides none = inl (n, omega arith, decides.0 refl)
    go false decides none = inr (λ number below e. last number below e (cases_lt number n))
      where
        last : (number : ℕ) → number < suc n → word ≡ decimal number → (number < n) ⊎ (n ≤ number) → ⊥
        last number below e (inl less) = none number less e
        last number below e (inr more) =
            let same : number ≡ n = omega arith in
            true≢false (sym (decides.1 (e ∙ ap decimal same)))

-- a word is such a number, or is none
pub some_number : (most : ℕ) (word : List ℕ) → most < 2 ^ 64 → ((number : ℕ) × IsNumber most word number) ⊎ NoNumber most word
some_number most word small = elim (spelled_below word (suc most)) [
  | inl w ↦ at_least w.0 w.1 w.2 (cases_lt 0 w.0)
  | inr none ↦ inr (λ number is. none number (omega (arith, is.within)) is.spelled)
]
  where
    too_low : (number n : ℕ) → IsNumber most word number → word ≡ decimal n → n ≤ 0 → n < suc most → ⊥
    too_low number n is e none below =
        let same : number ≡ n =
        decimal_injective number n (omega (arith, is.within)) (omega arith) (sym is.spelled ∙ e) in
        omega (arith, is.least)

    at_least : (n : ℕ) → n < suc most → word ≡ decimal n → (0 < n) ⊎ (n ≤ 0)
        → ((number : ℕ) × IsNumber most word number) ⊎ NoNumber most word
    at_least n below e (inl some) = inl (n, record { spelled = e; least = omega arith; within = omega arith })
    at_least n below e (inr none) = inr (λ number is. too_low number n is e none below)

-- and is one alone
pub one_number : (most : ℕ) (word : List ℕ) (a b : ℕ) → most < 2 ^ 64 → IsNumber most word a → IsNumber most word b → a ≡ b
one_number most word a b small is also =
    decimal_injective a b (omega (arith, is.within)) (omega (arith, also.within)) (sym is.spelled ∙ also.spelled)
