use Rattle.std.proofs.Common.{◌≡◌, ℕ, List, [], ◌∷◌, Bool, true, false, Ordering, Less, Equal, Greater, is_gt, refl, sym, ap, ◌∙◌}
use Rattle.std.proofs.Common.{true≢false, if◌then◌else◌}
use Rattle.std.specs.Cmp.Lexicographic.{nat_list_cmp_total}
use Rattle.std.specs.Ordering.{ordering_reverse}
use Rattle.coordinate_model.specs.Key.{row_cmp}
use Rattle.syzygies.proofs.split_term.in_order.Goals as goal

-- the comparison the other way round
other_way : (a b : List ℕ) (r : Ordering) → row_cmp a b ≡ r → is_gt r ≡ true → is_gt (row_cmp b a) ≡ false
other_way a b Less e h = absurd (true≢false (sym h))
other_way a b Equal e h = absurd (true≢false (sym h))
other_way a b Greater e h = ap is_gt (nat_list_cmp_total.antisymm b a ∙ ap ordering_reverse e)

choice : (a b : List ℕ) (greater : Bool) → is_gt (row_cmp a b) ≡ greater
    → (if greater then b ∷ a ∷ [] else a ∷ b ∷ []) ≡ (if is_gt (row_cmp a b) then b ∷ a ∷ [] else a ∷ b ∷ [])
choice a b greater e = ap (λ t. if t then b ∷ a ∷ [] else a ∷ b ∷ []) (sym e)

pub returns-then-is_gt : goal.returns-then-is_gt
returns-then-is_gt g c =
    let a : List ℕ = c.args.first in
    let b : List ℕ = c.args.second in
    let e : is_gt (row_cmp a b) ≡ true =
    ap is_gt (sym c.cmp.ensures) ∙ sym c.is_gt.ensures ∙ c.if-is_gt.true in
    record { rows = choice a b true e; ascending = other_way a b (row_cmp a b) refl e }

pub returns-else-is_gt : goal.returns-else-is_gt
returns-else-is_gt g c =
    let a : List ℕ = c.args.first in
    let b : List ℕ = c.args.second in
    let e : is_gt (row_cmp a b) ≡ false =
    ap is_gt (sym c.cmp.ensures) ∙ sym c.is_gt.ensures ∙ c.if-is_gt.false in
    record { rows = choice a b false e; ascending = e }
