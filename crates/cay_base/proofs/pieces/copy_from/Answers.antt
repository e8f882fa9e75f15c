use Rattle.std.proofs.Common.{◌≡◌, ◌-◌, ◌≤◌, List, ◌++◌, ℕ, length, take, drop, arith, ◌∙◌, ap}
use Rattle.std.proofs.lemmas.List.{drop-drop, length-drop, take_all}
use Rattle.cay_base.proofs.Fronts.{copied_front}
use Rattle.cay_base.proofs.pieces.copy_from.Goals as goal

pub returns-clause-copied : goal.returns-clause-copied
returns-clause-copied c =
    let left : List ℕ = drop c.args.at c.args.bytes.now in
    let n : ℕ = c.min-count.result in
    let all : take (length c.args.bytes.now - c.args.at) left ≡ left =
    take_all _ left (omega (arith, length-drop c.args.at c.args.bytes.now)) in
    let few : n ≤ length left = omega (arith, c.min-count.ensures, ap length all) in
    copied_front n left c.copy_from_slice.new.self (drop n c.args.room.now) few
    (c.copy_from_slice.ensures.after ∙ ap (take n) all)
    ∙ ap (λ rest. take n (c.copy_from_slice.new.self ++ drop n c.args.room.now) ++ rest)
    (drop-drop n c.args.at c.args.bytes.now)
