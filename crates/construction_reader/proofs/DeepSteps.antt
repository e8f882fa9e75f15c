-- Counting open parentheses.
use Rattle.std.proofs.Common.{◌≡◌, ℕ, zero, suc, ◌+◌, ◌-◌, ◌<◌, ◌≤◌, Bool, true, false, ◌||◌, List, [], ◌∷◌, drop, get_or, length, refl, sym, ◌∙◌, arith, codes, nat_le, cond, add-one}
use Rattle.std.proofs.lemmas.Bool.{le-leb, lt-leb}
use Rattle.construction_reader.specs.Words.{◌is◌}
use Rattle.construction_reader.specs.Lines.{is_deep}

-- one step of is_deep
abbrev pub deep_step : ℕ → List ℕ → List (List ℕ) → Bool
deep_step depth token rest = cond (token is codes "(") (nat_le 32 depth || is_deep (depth + 1) rest)
    (cond (token is codes ")") (is_deep (depth - 1) rest) (is_deep depth rest))

is_deep-at : (depth : ℕ) (tokens : List (List ℕ)) (i : ℕ) (token : List ℕ) → i < length tokens
    → token ≡ get_or tokens i token → is_deep depth (drop i tokens) ≡ deep_step depth token (drop (suc i) tokens)
unfolding is_deep
is_deep-at depth [] i token lt e = absurd (omega arith)
is_deep-at depth (t ∷ ts) zero token lt e = rw (← e) refl
is_deep-at depth (t ∷ ts) (suc i) token lt e = is_deep-at depth ts i token (omega arith) e

pub too_many : (depth : ℕ) (tokens : List (List ℕ)) (i : ℕ) (token : List ℕ) (total : Bool) → i < length tokens
    → token ≡ get_or tokens i token → token is codes "(" ≡ true → 32 ≤ depth → is_deep depth (drop i tokens) ≡ total
    → true ≡ total
too_many depth tokens i token total lt e opens many so_far =
    let full : nat_le 32 depth ≡ true = le-leb _ _ many in
    let step : deep_step depth token (drop (suc i) tokens) ≡ true = rw (opens, full) refl in
    sym step ∙ sym (is_deep-at depth tokens i token lt e) ∙ so_far

pub opened : (depth : ℕ) (tokens : List (List ℕ)) (i : ℕ) (token : List ℕ) (total : Bool) → i < length tokens
    → token ≡ get_or tokens i token → token is codes "(" ≡ true → depth < 32 → is_deep depth (drop i tokens) ≡ total
    → is_deep (depth + 1) (drop (i + 1) tokens) ≡ total
opened depth tokens i token total lt e opens few so_far =
    let room : nat_le 32 depth ≡ false = lt-leb _ _ few in
    let step : deep_step depth token (drop (suc i) tokens) ≡ is_deep (depth + 1) (drop (suc i) tokens) =
    rw (opens, room) refl in
    rw (add-one i) (sym step ∙ sym (is_deep-at depth tokens i token lt e) ∙ so_far)

pub closed : (depth : ℕ) (tokens : List (List ℕ)) (i : ℕ) (token : List ℕ) (total : Bool) → i < length tokens
    → token ≡ get_or tokens i token → token is codes "(" ≡ false → token is codes ")" ≡ true
    → is_deep depth (drop i tokens) ≡ total → is_deep (depth - 1) (drop (i + 1) tokens) ≡ total
closed depth tokens i token total lt e other closes so_far =
    let step : deep_step depth token (drop (suc i) tokens) ≡ is_deep (depth - 1) (drop (suc i) tokens) =
    rw (other, closes) refl in
    rw (add-one i) (sym step ∙ sym (is_deep-at depth tokens i token lt e) ∙ so_far)

pub passed : (depth : ℕ) (tokens : List (List ℕ)) (i : ℕ) (token : List ℕ) (total : Bool) → i < length tokens
    → token ≡ get_or tokens i token → token is codes "(" ≡ false → token is codes ")" ≡ false
    → is_deep depth (drop i tokens) ≡ total → is_deep depth (drop (i + 1) tokens) ≡ total
passed depth tokens i token total lt e other another so_far =
    let step : deep_step depth token (drop (suc i) tokens) ≡ is_deep depth (drop (suc i) tokens) =
    rw (other, another) refl in
    rw (add-one i) (sym step ∙ sym (is_deep-at depth tokens i token lt e) ∙ so_far)

pub at_end : (depth : ℕ) (tokens : List (List ℕ)) (i : ℕ) (total : Bool) → length tokens ≤ i
    → is_deep depth (drop i tokens) ≡ total → false ≡ total
unfolding is_deep
at_end depth [] zero total h so_far = so_far
at_end depth [] (suc i) total h so_far = so_far
at_end depth (t ∷ ts) zero total h so_far = absurd (omega arith)
at_end depth (t ∷ ts) (suc i) total h so_far = at_end depth ts i total (omega arith) so_far
