-- How large the measures of nested objects are.
use Rattle.std.proofs.Common.{ℕ, ◌+◌, ◌*◌, ◌^◌, ◌≤◌, max, arith, add-one}
use Rattle.std.proofs.Math.Nat.{le-max_left, le-max_right, pow-suc}
use Rattle.std.proofs.Math.Pow.{pow_mono}

-- each join or meet at most doubles what the measures weigh
pub doubled : (a b v w : ℕ) → v ≤ 1069 * 2 ^ a → w ≤ 1069 * 2 ^ b → v + w ≤ 1069 * 2 ^ (max a b + 1)
doubled a b v w first second =
    let left : 2 ^ a ≤ 2 ^ max a b = pow_mono (le-max_left a b) in
    let right : 2 ^ b ≤ 2 ^ max a b = pow_mono (le-max_right a b) in
    rw (add-one, pow-suc) (omega arith)

-- with at most 32 parentheses open
pub bounded : (n w : ℕ) → n ≤ 32 → w ≤ 1069 * 2 ^ n → w ≤ 2 ^ 44
bounded n w shallow small =
    let most : 2 ^ n ≤ 2 ^ 32 = pow_mono shallow in
    omega arith
