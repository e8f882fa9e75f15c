-- The text of a line has the tokens that it was made of.
use Rattle.std.proofs.Common.{◌≡◌, ℕ, ◌<◌, Bool, true, false, ◌&&◌, List, [], ◌∷◌, ◌++◌, length, refl, sym, ap, ◌∙◌, arith, codes, inl, inr, ◌⊎◌}
use Rattle.std.specs.List.{list_all, AllByRecursion}
use Rattle.std.proofs.lemmas.Bool.{cases_Bool}
use Rattle.construction_reader.specs.Words.{◌is◌, is_name_byte}
use Rattle.construction_reader.specs.Tokens.{begins_with_name_byte, onto_first, tokens_of, tokens_by}
use Rattle.construction_reader.specs.Printed.{gap, spaced}
use Rattle.construction_reader.proofs.ObjectLaws.{is_same}

-- a run of name bytes, or one sign
abbrev pub IsToken : List ℕ → Type 0
IsToken token = ((0 < length token) × (list_all is_name_byte token ≡ true))
    ⊎ ((token ≡ codes "(") ⊎ ((token ≡ codes ")") ⊎ (token ≡ codes "=")))

pub and_true : (a b : Bool) → (a && b) ≡ true → (a ≡ true) × (b ≡ true)
and_true true b e = (refl, e)
and_true false b e = absurd cc

run_alone : (b : ℕ) (run rest : List ℕ) → list_all is_name_byte (b ∷ run) ≡ true → begins_with_name_byte rest ≡ false
    → tokens_of ((b ∷ run) ++ rest) ≡ (b ∷ run) ∷ tokens_of rest
unfolding tokens_by
run_alone b [] rest all stop = let first = and_true (is_name_byte b) _ all in rw (first.0, stop) refl
run_alone b (c ∷ run) rest all stop =
    let first = and_true (is_name_byte b) (list_all is_name_byte (c ∷ run)) all in
    let second = and_true (is_name_byte c) _ first.1 in
    let more : tokens_of (b ∷ ((c ∷ run) ++ rest)) ≡ onto_first b (tokens_of ((c ∷ run) ++ rest)) =
    rw (first.0, second.0) refl in
    more ∙ ap (onto_first b) (run_alone c run rest first.1 stop)

-- behind a run comes no name byte
spaced_stops : (tokens : List (List ℕ)) → begins_with_name_byte (spaced false tokens) ≡ false
unfolding spaced
spaced_stops [] = refl
spaced_stops (t ∷ ts) =
    elim (cases_Bool (t is codes ")")) [
      | inl closes ↦ let e : t ≡ codes ")" = is_same t (codes ")") closes in rw e refl
      | inr other ↦ rw other refl
    ]

gap_goes : (glued : Bool) (token rest : List ℕ) → tokens_of (gap glued token ++ rest) ≡ tokens_of rest
unfolding tokens_by
gap_goes true token rest = refl
gap_goes false token rest =
    elim (cases_Bool (token is codes ")")) [
      | inl closes ↦ rw closes refl
      | inr other ↦ rw other refl
    ]

is_not_opening : (b : ℕ) (run : List ℕ) → is_name_byte b ≡ true → (b ∷ run) is codes "(" ≡ false
is_not_opening b run e =
    elim (cases_Bool ((b ∷ run) is codes "(")) [
      | inl same ↦ let eq : b ∷ run ≡ codes "(" = is_same (b ∷ run) (codes "(") same in let b-is : b ≡ 40 = cc in
          let never : true ≡ false = sym e ∙ ap is_name_byte b-is in absurd cc
      | inr other ↦ other
    ]

one_token : (token : List ℕ) (tokens : List (List ℕ)) → IsToken token
    → tokens_of (token ++ spaced (token is codes "(") tokens) ≡ token ∷ tokens_of (spaced (token is codes "(") tokens)
unfolding tokens_by
one_token [] tokens (inl run) = absurd (omega (arith, run.0))
one_token (b ∷ bytes) tokens (inl run) =
    let first = and_true (is_name_byte b) (list_all is_name_byte bytes) run.1 in
    let other : (b ∷ bytes) is codes "(" ≡ false = is_not_opening b bytes first.0 in
    let stop : begins_with_name_byte (spaced ((b ∷ bytes) is codes "(") tokens) ≡ false =
    ap (λ g. begins_with_name_byte (spaced g tokens)) other ∙ spaced_stops tokens in
    run_alone b bytes (spaced ((b ∷ bytes) is codes "(") tokens) run.1 stop
one_token token tokens (inr (inl e)) = rw e refl
one_token token tokens (inr (inr (inl e))) = rw e refl
one_token token tokens (inr (inr (inr e))) = rw e refl

pub tokens_of-spaced : (glued : Bool) (tokens : List (List ℕ)) → AllByRecursion IsToken tokens
    → tokens_of (spaced glued tokens) ≡ tokens
unfolding spaced tokens_by
tokens_of-spaced glued [] each = refl
tokens_of-spaced glued (t ∷ ts) each = gap_goes glued t (t ++ spaced (t is codes "(") ts) ∙ one_token t ts each.0
    ∙ ap (λ rest. t ∷ rest) (tokens_of-spaced (t is codes "(") ts each.1)
