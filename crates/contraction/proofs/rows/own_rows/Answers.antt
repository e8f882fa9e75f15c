use Rattle.std.proofs.Common.{◌≤◌, ◌++◌, [], ◌∷◌, length, ℕ, List, sym, ap, ◌∙◌, append-nil, append_assoc}
use Rattle.contraction.specs.Passes.{own_rows}
use Rattle.contraction.proofs.Differences.{are_first, behind, sorted_behind, own_at_less, own_at_equal, own_at_greater}
use Rattle.contraction.proofs.Differences.{own_of_none}
use Rattle.contraction.proofs.rows.own_rows.Goals as goal

pub loop-left-preserved-in-Less : goal.loop-left-preserved-in-Less
loop-left-preserved-in-Less g c =
    let at = c.loop-left in
    let left : List (List ℕ) = at.left.now in
    let right : List (List ℕ) = at.right.now in
    let own : List (List ℕ) = at.own.items in
    let row : List ℕ = c.row-item.result in
    let other : List ℕ = c.other-item.result in
    let some : 1 ≤ length left = c.in-len1-up.len_at_least in
    let more : 1 ≤ length right = c.in-len1-up-right.len_at_least in
    let first =
    are_first left right row other some more c.row-item.is c.other-item.is at.invariant.1.0 at.invariant.1.1 in (
      ap (λ (w : List (List ℕ)). w ++ own_rows (behind left) right) c.in_ok-push-in-Less.ensures.items
          ∙ append_assoc own (row ∷ []) (own_rows (behind left) right)
          ∙ ap (λ (w : List (List ℕ)). own ++ w)
          (own_at_less row other left right first (sym c.cmp.ensures ∙ c.in-Less.is))
          ∙ at.invariant.0,
      (sorted_behind left some at.invariant.1.0, at.invariant.1.1),
    )

pub loop-left-preserved-in-Equal : goal.loop-left-preserved-in-Equal
loop-left-preserved-in-Equal g c =
    let at = c.loop-left in
    let left : List (List ℕ) = at.left.now in
    let right : List (List ℕ) = at.right.now in
    let own : List (List ℕ) = at.own.items in
    let row : List ℕ = c.row-item.result in
    let other : List ℕ = c.other-item.result in
    let some : 1 ≤ length left = c.in-len1-up.len_at_least in
    let more : 1 ≤ length right = c.in-len1-up-right.len_at_least in
    let first =
    are_first left right row other some more c.row-item.is c.other-item.is at.invariant.1.0 at.invariant.1.1 in (
      ap (λ (w : List (List ℕ)). own ++ w)
          (own_at_equal row other left right first (sym c.cmp.ensures ∙ c.in-Equal.is))
          ∙ at.invariant.0,
      (sorted_behind left some at.invariant.1.0, sorted_behind right more at.invariant.1.1),
    )

pub loop-left-preserved : goal.loop-left-preserved
loop-left-preserved g c =
    let at = c.loop-left in
    let left : List (List ℕ) = at.left.now in
    let right : List (List ℕ) = at.right.now in
    let own : List (List ℕ) = at.own.items in
    let row : List ℕ = c.row-item.result in
    let other : List ℕ = c.other-item.result in
    let some : 1 ≤ length left = c.in-len1-up.len_at_least in
    let more : 1 ≤ length right = c.in-len1-up-right.len_at_least in
    let first =
    are_first left right row other some more c.row-item.is c.other-item.is at.invariant.1.0 at.invariant.1.1 in (
      ap (λ (w : List (List ℕ)). own ++ w)
          (own_at_greater row other left right first (sym c.cmp.ensures ∙ c.in-Greater.is))
          ∙ at.invariant.0,
      (at.invariant.1.0, sorted_behind right more at.invariant.1.1),
    )

pub returns : goal.returns
returns g c =
    let at = c.loop-left in
    let left : List (List ℕ) = at.left.now in
    let right : List (List ℕ) = at.right.now in
    let own : List (List ℕ) = at.own.items in
    sym (append-nil own)
    ∙ ap (λ (w : List (List ℕ)). own ++ w) (sym (own_of_none left right c.in_default.len_below))
    ∙ at.invariant.0
