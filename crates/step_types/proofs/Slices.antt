-- A slice behind its first item.
use Rattle.std.proofs.Common.{◌≡◌, ◌-◌, List, take, drop, length, arith, length-drop}
use Rattle.std.proofs.lemmas.List.{take_all}

-- all that is behind the first item
pub take_rest : {A : Type 0} (xs : List A) → take (length xs - 1) (drop 1 xs) ≡ drop 1 xs
take_rest xs = take_all _ _ (omega (arith, length-drop 1 xs))
