-- The first place at which a test passes, or the length.
use Rattle.std.proofs.Common.{◌≡◌, ◌≤◌, ℕ, Bool, true, false, not, cond, ltb, List, length, Some, None, refl, sym, arith}
use Rattle.std.specs.List.{position_or_len}
use Rattle.std.specs.Option.{unwrap_or}
use Rattle.std.proofs.lemmas.Bool.{ltb-false}
use Rattle.std.proofs.lemmas.List.Sums.{prefix_len-le-length}

pub position_in : {X : Type 0} (p : X → Bool) (xs : List X) → position_or_len p xs ≤ length xs
position_in p xs = prefix_len-le-length (λ x. not (p x)) xs

either : (b : Bool) (m n : ℕ) → (b ≡ false → m ≡ n) → unwrap_or (cond b (Some m) None) n ≡ m
either true m n h = refl
either false m n h = sym (h refl)

pub unwrap_position : {X : Type 0} (p : X → Bool) (xs : List X)
    → unwrap_or (cond (ltb (position_or_len p xs) (length xs)) (Some (position_or_len p xs)) None)
    (length xs) ≡ position_or_len p xs
unwrap_position p xs = either (ltb (position_or_len p xs) (length xs)) (position_or_len p xs) (length xs)
    (λ e. let low : length xs ≤ position_or_len p xs = ltb-false _ _ e in omega (arith, position_in p xs))

pub ruleset places = (unwrap_position, position_in)
