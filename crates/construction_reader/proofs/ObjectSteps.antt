-- One step of reading an object.
use Rattle.std.proofs.Common.{◌≡◌, ℕ, zero, suc, ◌-◌, ◌<◌, ◌≤◌, true, false, List, [], ◌∷◌, drop, get_or, length, refl, arith, codes}
use Rattle.construction_reader.specs.Words.{◌is◌}
use Rattle.construction_reader.specs.Objects.{named_at, pair_at, object_at}

pub object_at-opens : (room : ℕ) (tokens : List (List ℕ)) (first : List ℕ) → 0 < room → 1 ≤ length tokens
    → first ≡ get_or tokens 0 first → first is codes "(" ≡ true
    → object_at room tokens ≡ pair_at (object_at (room - 1)) (drop 1 tokens)
unfolding object_at
object_at-opens zero tokens first h l f e = absurd (omega arith)
object_at-opens (suc room) [] first h l f e = absurd (omega arith)
object_at-opens (suc room) (token ∷ rest) first h l f e =
    let opens : token is codes "(" ≡ true = rw (← f) e in
    let less : suc room - 1 ≡ room = omega arith in
    rw (opens, less) refl

pub object_at-named : (room : ℕ) (tokens : List (List ℕ)) (first : List ℕ) → first ≡ get_or tokens 0 first
    → first is codes "(" ≡ false → object_at room tokens ≡ named_at tokens
unfolding object_at
object_at-named zero tokens first f e = refl
object_at-named (suc room) [] first f e = refl
object_at-named (suc room) (token ∷ rest) first f e = let other : token is codes "(" ≡ false = rw (← f) e in
    rw other refl

pub object_at-no_room : (room : ℕ) (tokens : List (List ℕ)) → room ≤ 0 → object_at room tokens ≡ named_at tokens
unfolding object_at
object_at-no_room zero tokens h = refl
object_at-no_room (suc room) tokens h = absurd (omega arith)

pub object_at-empty : (room : ℕ) (tokens : List (List ℕ)) → length tokens < 1 → object_at room tokens ≡ named_at tokens
unfolding object_at
object_at-empty zero tokens h = refl
object_at-empty (suc room) [] h = refl
object_at-empty (suc room) (token ∷ rest) h = absurd (omega arith)

pub ruleset object_steps = (object_at-opens, object_at-named, object_at-no_room, object_at-empty)
