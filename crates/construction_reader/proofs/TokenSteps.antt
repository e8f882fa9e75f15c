-- The tokens of a line, one after the other.
use Rattle.std.proofs.Common.{◌≡◌, ℕ, suc, ◌≤◌, ◌<◌, true, false, not, List, [], ◌∷◌, ◌++◌, take, drop, length, get_or, refl, sym, ap, ◌∙◌, arith, inl, inr, append_assoc}
use Rattle.std.specs.List.{position_or_len}
use Rattle.std.proofs.Math.Numerals.{one-add}
use Rattle.std.proofs.lemmas.Bool.{cases_Bool}
use Rattle.std.proofs.lemmas.List.{append-nil}
use Rattle.construction_reader.specs.Words.{is_name_byte, is_sign}
use Rattle.construction_reader.specs.Tokens.{begins_token, front_length, onto_first, tokens_of, tokens_by}
use Rattle.construction_reader.proofs.Places.{position_in}

abbrev run : List ℕ → ℕ
run bytes = position_or_len (λ b. not (is_name_byte b)) bytes

-- behind a name byte the run goes on as far as name bytes stand
tokens_of-run : (b : ℕ) (bytes : List ℕ) → is_name_byte b ≡ true
    → tokens_of (b ∷ bytes) ≡ (b ∷ take (run bytes) bytes) ∷ tokens_of (drop (run bytes) bytes)
unfolding tokens_by
tokens_of-run b [] e = rw e refl
tokens_of-run b (c ∷ bytes) e =
    elim (cases_Bool (is_name_byte c)) [
      | inl is ↦
          let longer : run (c ∷ bytes) ≡ suc (run bytes) = rw is (one-add (run bytes)) in
          let more : tokens_of (b ∷ c ∷ bytes) ≡ onto_first b (tokens_of (c ∷ bytes)) = rw (e, is) refl in
          more ∙ ap (onto_first b) (tokens_of-run c bytes is)
          ∙ ap (λ n. (b ∷ take n (c ∷ bytes)) ∷ tokens_of (drop n (c ∷ bytes))) (sym longer)
      | inr not_it ↦
          let stop : run (c ∷ bytes) ≡ 0 = rw not_it refl in
          let one : tokens_of (b ∷ c ∷ bytes) ≡ (b ∷ []) ∷ tokens_of (c ∷ bytes) = rw (e, not_it) refl in
          one ∙ ap (λ n. (b ∷ take n (c ∷ bytes)) ∷ tokens_of (drop n (c ∷ bytes))) (sym stop)
    ]

pub tokens_of-token : (bytes : List ℕ) → 0 < length bytes → begins_token (get_or bytes 0 0) ≡ true
    → tokens_of bytes ≡ take (front_length bytes) bytes ∷ tokens_of (drop (front_length bytes) bytes)
unfolding tokens_by
tokens_of-token [] h e = absurd (omega arith)
tokens_of-token (b ∷ bytes) h e =
    elim (cases_Bool (is_name_byte b)) [
      | inl is ↦
          let longer : front_length (b ∷ bytes) ≡ suc (run bytes) = rw is (one-add (run bytes)) in
          tokens_of-run b bytes is ∙ ap (λ n. take n (b ∷ bytes) ∷ tokens_of (drop n (b ∷ bytes))) (sym longer)
      | inr not_it ↦ let sign : is_sign b ≡ true = rw not_it at e in rw (not_it, sign) refl
    ]

pub tokens_of-space : (bytes : List ℕ) → 0 < length bytes → begins_token (get_or bytes 0 0) ≡ false
    → tokens_of bytes ≡ tokens_of (drop (front_length bytes) bytes)
unfolding tokens_by
tokens_of-space [] h e = absurd (omega arith)
tokens_of-space (b ∷ bytes) h e =
    elim (cases_Bool (is_name_byte b)) [
      | inl is ↦ let never : true ≡ false = rw is at e in absurd cc
      | inr not_it ↦ let other : is_sign b ≡ false = rw not_it at e in rw (not_it, other) refl
    ]

pub front_length-in : (bytes : List ℕ) → 0 < length bytes → (0 < front_length bytes)
    × (front_length bytes ≤ length bytes)
front_length-in [] h = absurd (omega arith)
front_length-in (b ∷ bytes) h =
    elim (cases_Bool (is_name_byte b)) [
      | inl is ↦ let longer : front_length (b ∷ bytes) ≡ suc (run bytes) = rw is (one-add (run bytes)) in
          (omega arith, omega (arith, position_in (λ b. not (is_name_byte b)) bytes))
      | inr not_it ↦ let one : front_length (b ∷ bytes) ≡ 1 = rw not_it refl in (omega arith, omega arith)
    ]

pub adds : (front : List (List ℕ)) (bytes : List ℕ) (total : List (List ℕ)) → 0 < length bytes
    → begins_token (get_or bytes 0 0) ≡ true → front ++ tokens_of bytes ≡ total
    → (front ++ take (front_length bytes) bytes ∷ []) ++ tokens_of (drop (front_length bytes) bytes) ≡ total
adds front bytes total h e so_far = append_assoc front (take (front_length bytes) bytes ∷ [])
    (tokens_of (drop (front_length bytes) bytes)) ∙ ap (λ ts. front ++ ts) (sym (tokens_of-token bytes h e)) ∙ so_far

pub skips : (front : List (List ℕ)) (bytes : List ℕ) (total : List (List ℕ)) → 0 < length bytes
    → begins_token (get_or bytes 0 0) ≡ false → front ++ tokens_of bytes ≡ total → front
    ++ tokens_of (drop (front_length bytes) bytes) ≡ total
skips front bytes total h e so_far = ap (λ ts. front ++ ts) (sym (tokens_of-space bytes h e)) ∙ so_far

pub no_more : (front : List (List ℕ)) (bytes : List ℕ) (total : List (List ℕ)) → length bytes ≡ 0 → front
    ++ tokens_of bytes ≡ total → front ≡ total
unfolding tokens_by
no_more front [] total h so_far = sym (append-nil front) ∙ so_far
no_more front (b ∷ bytes) total h so_far = absurd (omega arith)
