-- The text of a line, token by token.
use Rattle.std.proofs.Common.{◌≡◌, ℕ, zero, suc, ◌+◌, ◌<◌, ◌≤◌, Bool, List, [], ◌∷◌, ◌++◌, drop, get_or, length, refl, sym, ap, ◌∙◌, arith, codes, add-one, append_assoc}
use Rattle.std.proofs.lemmas.List.{append-nil}
use Rattle.construction_reader.specs.Words.{◌is◌}
use Rattle.construction_reader.specs.Printed.{gap, spaced}

spaced-at : (glued : Bool) (tokens : List (List ℕ)) (i : ℕ) (token : List ℕ) → i < length tokens
    → token ≡ get_or tokens i token → spaced glued (drop i tokens) ≡ gap glued token
    ++ (token ++ spaced (token is codes "(") (drop (suc i) tokens))
unfolding spaced
spaced-at glued [] i token lt e = absurd (omega arith)
spaced-at glued (t ∷ ts) zero token lt e = rw (← e) refl
spaced-at glued (t ∷ ts) (suc i) token lt e = spaced-at glued ts i token (omega arith) e

pub goes_on : (out : List ℕ) (glued : Bool) (tokens : List (List ℕ)) (i : ℕ) (token : List ℕ) (total : List ℕ)
    → i < length tokens → token ≡ get_or tokens i token → out ++ spaced glued (drop i tokens) ≡ total
    → ((out ++ gap glued token) ++ token) ++ spaced (token is codes "(") (drop (i + 1) tokens) ≡ total
goes_on out glued tokens i token total lt e so_far =
    let rest = spaced (token is codes "(") (drop (suc i) tokens) in
    let one : ((out ++ gap glued token) ++ token) ++ rest ≡ out ++ (gap glued token ++ (token ++ rest)) =
    append_assoc (out ++ gap glued token) token rest ∙ append_assoc out (gap glued token) (token ++ rest) in
    rw (add-one i) (one ∙ ap (λ r. out ++ r) (sym (spaced-at glued tokens i token lt e)) ∙ so_far)

pub at_end : (out : List ℕ) (glued : Bool) (tokens : List (List ℕ)) (i : ℕ) (total : List ℕ) → length tokens ≤ i → out
    ++ spaced glued (drop i tokens) ≡ total → out ≡ total
unfolding spaced
at_end out glued [] zero total h so_far = sym (append-nil out) ∙ so_far
at_end out glued [] (suc i) total h so_far = sym (append-nil out) ∙ so_far
at_end out glued (t ∷ ts) zero total h so_far = absurd (omega arith)
at_end out glued (t ∷ ts) (suc i) total h so_far = at_end out glued ts i total (omega arith) so_far
