-- Fronts of lists, and a front that was copied.
use Rattle.std.proofs.Common.{◌≡◌, ℕ, ◌≤◌, List, ◌++◌, length, take, drop, sym, ap, ◌∙◌, append_assoc, arith}
use Rattle.std.proofs.lemmas.List.{take-append-drop, length-take}
use Rattle.std.proofs.Math.Seq.{take-append_seam}
use Rattle.cay_base.specs.Bytes.{IsFrontOf}

pub front_of_take : (n : ℕ) (xs : List ℕ) → IsFrontOf (take n xs) xs
front_of_take n xs = (drop n xs, take-append-drop n xs)

pub front_of_both : (n m : ℕ) (xs : List ℕ) → IsFrontOf (take n (take m xs)) xs
front_of_both n m xs = (
  drop n (take m xs) ++ drop m xs,
  sym (append_assoc (take n (take m xs)) (drop n (take m xs)) (drop m xs))
      ∙ ap (λ front. front ++ drop m xs) (take-append-drop n (take m xs)) ∙ take-append-drop m xs,
)

-- a front that was copied, and what follows it
pub copied_front : (n : ℕ) (left copy room : List ℕ) → n ≤ length left → copy ≡ take n left
    → left ≡ take n (copy ++ room) ++ drop n left
copied_front n left copy room le e =
    let len : length copy ≡ n = ap length e ∙ length-take n left ∙ omega arith in
    let front : take n (copy ++ room) ≡ copy = ap (λ k. take k (copy ++ room)) (sym len) ∙ take-append_seam copy room in
    sym (ap (λ xs. xs ++ drop n left) (front ∙ e) ∙ take-append-drop n left)
