use Rattle.std.proofs.Common.{◌≡◌, ◌∙◌, sym, ap, ap₂, ℕ, ◌<◌, Some, None, map, List, ℤ, pos, to_z, of_z, get_or}
use Rattle.std.proofs.Common.{rules, length, subst, arith}
use Rattle.std.specs.List.{zip}
use Rattle.std.specs.Prelude.{Contains}
use Rattle.std.proofs.lemmas.Int.{to_z-of_z}
use Rattle.std.proofs.lemmas.Slice.Zip.{get_or-zip}
use mir.Syntax.{w128}
use mir.Val.{SFits}
use Rattle.placement.specs.Numbers.{combination_of}
use Rattle.placement.proofs.Steps.{made_next, made_none, made_all, in_both, past_both}
use Rattle.placement.proofs.combined.mixed.Goals as goal

-- the coordinate at the place
at_place : (s t : ℤ) (a b : List ℤ) (k : ℕ) → k < length a → k < length b
    → combination_of s t (get_or a k (pos 0), get_or b k (pos 0)) ≡ combination_of s t
    (get_or (zip a b) k (pos 0, pos 0))
at_place s t a b k h i = ap (combination_of s t) (sym (get_or-zip a b k (pos 0, pos 0) h i))

pub returns-in_default : goal.returns-in_default
returns-in_default c =
    let a = c.args.a.now in
    let b = c.args.b.now in
    let k : ℕ = c.loop-k.k in
    let s : ℤ = to_z w128 (of_z w128 c.args.s) in
    let t : ℤ = to_z w128 (of_z w128 c.args.t) in
    let x : ℤ = get_or a k (pos 0) in
    let y : ℤ = get_or b k (pos 0) in
    let x_fits : SFits w128 x = search rules in
    let y_fits : SFits w128 y = search rules in
    let here : k < length a = c.loop-k-test.true in
    let also : k < length b = omega (arith, c.requires) in
    let both : combination_of s t (to_z w128 (of_z w128 x), to_z w128 (of_z w128 y))
    ≡ combination_of s t (get_or (zip a b) k (pos 0, pos 0)) =
    ap₂ (λ x y. combination_of s t (x, y)) (to_z-of_z w128 x x_fits) (to_z-of_z w128 y y_fits)
    ∙ at_place s t a b k here also in
    let same : combination_of s t ≡ combination_of c.args.s c.args.t =
    ap₂ combination_of (to_z-of_z w128 c.args.s c.ranges.s) (to_z-of_z w128 c.args.t c.ranges.t) in
    subst (λ f. Contains (map f (zip a b)) None) same
    (made_none (combination_of s t) (zip a b) k (pos 0, pos 0) (in_both a b k c.requires here)
    (sym both ∙ sym c.in_default.ensures))

pub loop-k-preserved : goal.loop-k-preserved
loop-k-preserved c =
    let a = c.args.a.now in
    let b = c.args.b.now in
    let k : ℕ = c.loop-k.k in
    let s : ℤ = to_z w128 (of_z w128 c.args.s) in
    let t : ℤ = to_z w128 (of_z w128 c.args.t) in
    let x : ℤ = get_or a k (pos 0) in
    let y : ℤ = get_or b k (pos 0) in
    let x_fits : SFits w128 x = search rules in
    let y_fits : SFits w128 y = search rules in
    let here : k < length a = c.loop-k-test.true in
    let also : k < length b = omega (arith, c.requires) in
    let both : combination_of s t (to_z w128 (of_z w128 x), to_z w128 (of_z w128 y))
    ≡ combination_of s t (get_or (zip a b) k (pos 0, pos 0)) =
    ap₂ (λ x y. combination_of s t (x, y)) (to_z-of_z w128 x x_fits) (to_z-of_z w128 y y_fits)
    ∙ at_place s t a b k here also in
    let fits : SFits w128 c.in-Some.coordinate = search rules in
    let made : ℤ = to_z w128 (of_z w128 c.in-Some.coordinate) in
    ap (λ zs. map (λ z. Some z) zs) c.in_ok-push.ensures.items
    ∙ made_next (combination_of s t) (zip a b) c.loop-k.made.items k made (pos 0, pos 0) (in_both a b k c.requires here)
    (ap Some (to_z-of_z w128 c.in-Some.coordinate fits) ∙ c.in-Some.ensures ∙ both)
    c.loop-k.invariant

pub returns : goal.returns
returns c =
    let a = c.args.a.now in
    let b = c.args.b.now in
    let s : ℤ = to_z w128 (of_z w128 c.args.s) in
    let t : ℤ = to_z w128 (of_z w128 c.args.t) in
    let same : combination_of s t ≡ combination_of c.args.s c.args.t =
    ap₂ combination_of (to_z-of_z w128 c.args.s c.ranges.s) (to_z-of_z w128 c.args.t c.ranges.t) in
    made_all (combination_of s t) (zip a b) c.loop-k.made.items c.loop-k.k
    (past_both a b c.loop-k.k c.requires c.loop-k-test.false)
    c.loop-k.invariant
    ∙ ap (λ f. map f (zip a b)) same
