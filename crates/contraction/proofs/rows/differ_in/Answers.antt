use Rattle.std.proofs.Common.{◌≤◌, length, ℕ, List, sym, ◌∙◌, arith}
use Rattle.contraction.proofs.Differences.{are_first, sorted_behind, at_less, not_less, at_equal, at_greater}
use Rattle.contraction.proofs.Differences.{not_greater, no_rows, no_others}
use Rattle.contraction.proofs.rows.differ_in.Goals as goal

pub returns-then-left-own : goal.returns-then-left-own
returns-then-left-own g c =
    let at = c.loop-left in
    let left : List (List ℕ) = at.left.now in
    let right : List (List ℕ) = at.right.now in
    no_others left right at.own at.more c.in_default-right.len_below c.if-left-own.true ∙ at.invariant.0

pub returns-then-own-eq0 : goal.returns-then-own-eq0
returns-then-own-eq0 g c =
    let at = c.loop-left in
    let left : List (List ℕ) = at.left.now in
    let right : List (List ℕ) = at.right.now in
    let row : List ℕ = c.row-item.result in
    let other : List ℕ = c.other-item.result in
    let some : 1 ≤ length left = c.in-len1-up.len_at_least in
    let more : 1 ≤ length right = c.in-len1-up-right.len_at_least in
    let first =
    are_first left right row other some more c.row-item.is c.other-item.is at.invariant.1.0 at.invariant.1.1 in
    not_less row other at.own at.more left right first (sym c.cmp.ensures ∙ c.in-Less.is)
    (omega (arith, c.if-own-eq0.true))
    ∙ at.invariant.0

pub loop-left-preserved-in-Less : goal.loop-left-preserved-in-Less
loop-left-preserved-in-Less g c =
    let at = c.loop-left in
    let left : List (List ℕ) = at.left.now in
    let right : List (List ℕ) = at.right.now in
    let row : List ℕ = c.row-item.result in
    let other : List ℕ = c.other-item.result in
    let some : 1 ≤ length left = c.in-len1-up.len_at_least in
    let more : 1 ≤ length right = c.in-len1-up-right.len_at_least in
    let first =
    are_first left right row other some more c.row-item.is c.other-item.is at.invariant.1.0 at.invariant.1.1 in (
      at_less row other at.own at.more left right first (sym c.cmp.ensures ∙ c.in-Less.is)
          (omega (arith, c.if-own-eq0.false))
          ∙ at.invariant.0,
      (sorted_behind left some at.invariant.1.0, at.invariant.1.1),
    )

pub loop-left-preserved-in-Equal : goal.loop-left-preserved-in-Equal
loop-left-preserved-in-Equal g c =
    let at = c.loop-left in
    let left : List (List ℕ) = at.left.now in
    let right : List (List ℕ) = at.right.now in
    let row : List ℕ = c.row-item.result in
    let other : List ℕ = c.other-item.result in
    let some : 1 ≤ length left = c.in-len1-up.len_at_least in
    let more : 1 ≤ length right = c.in-len1-up-right.len_at_least in
    let first =
    are_first left right row other some more c.row-item.is c.other-item.is at.invariant.1.0 at.invariant.1.1 in (
      at_equal row other at.own at.more left right first (sym c.cmp.ensures ∙ c.in-Equal.is) ∙ at.invariant.0,
      (sorted_behind left some at.invariant.1.0, sorted_behind right more at.invariant.1.1),
    )

pub returns-then-more-eq0 : goal.returns-then-more-eq0
returns-then-more-eq0 g c =
    let at = c.loop-left in
    let left : List (List ℕ) = at.left.now in
    let right : List (List ℕ) = at.right.now in
    let row : List ℕ = c.row-item.result in
    let other : List ℕ = c.other-item.result in
    let some : 1 ≤ length left = c.in-len1-up.len_at_least in
    let more : 1 ≤ length right = c.in-len1-up-right.len_at_least in
    let first =
    are_first left right row other some more c.row-item.is c.other-item.is at.invariant.1.0 at.invariant.1.1 in
    not_greater row other at.own at.more left right first (sym c.cmp.ensures ∙ c.in-Greater.is)
    (omega (arith, c.if-more-eq0.true))
    ∙ at.invariant.0

pub loop-left-preserved : goal.loop-left-preserved
loop-left-preserved g c =
    let at = c.loop-left in
    let left : List (List ℕ) = at.left.now in
    let right : List (List ℕ) = at.right.now in
    let row : List ℕ = c.row-item.result in
    let other : List ℕ = c.other-item.result in
    let some : 1 ≤ length left = c.in-len1-up.len_at_least in
    let more : 1 ≤ length right = c.in-len1-up-right.len_at_least in
    let first =
    are_first left right row other some more c.row-item.is c.other-item.is at.invariant.1.0 at.invariant.1.1 in (
      at_greater row other at.own at.more left right first (sym c.cmp.ensures ∙ c.in-Greater.is)
          (omega (arith, c.if-more-eq0.false))
          ∙ at.invariant.0,
      (at.invariant.1.0, sorted_behind right more at.invariant.1.1),
    )

pub returns-then-right-more : goal.returns-then-right-more
returns-then-right-more g c =
    let at = c.loop-left in
    let left : List (List ℕ) = at.left.now in
    let right : List (List ℕ) = at.right.now in
    no_rows left right at.own at.more c.in_default.len_below c.if-right-more.true ∙ at.invariant.0
