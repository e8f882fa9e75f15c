use Rattle.std.proofs.Common.{◌≡◌, ◌∙◌, sym, ap, Some, None, map, pos, suc, take, drop, ℕ, ℤ, to_z, of_z, List, []}
use Rattle.std.proofs.Common.{◌+◌, get_or, arith, rules}
use Rattle.std.proofs.lemmas.Int.{to_z-of_z}
use mir.Syntax.{w128}
use mir.Val.{SFits}
use Rattle.coordinate_model.specs.Limited.{Limited, limited_product}
use Rattle.coordinate_model.specs.InOrder.{product_behind}
use Rattle.coordinate_model.specs.PlacedPoints.{placed_within}
use Rattle.coordinate_model.proofs.BracketSteps.{product_next, product_of_none}
use Rattle.coordinate_model.proofs.determinant.product.Goals as goal

pub returns-in_err-product-clause-in_order : goal.returns-in_err-product-clause-in_order
returns-in_err-product-clause-in_order g c =
    let points = c.args.points.now in
    let cs : List ℕ = c.args.order.now.columns in
    let k = c.loop-k.k in
    let x : ℤ = get_or (get_or points k []) (get_or cs k 0) (pos 0) in
    let fits : SFits w128 x = search rules in
    let none : limited_product (Some (to_z w128 c.loop-k.product-bits)) (Some x) ≡ None =
    ap (λ y. limited_product (Some (to_z w128 c.loop-k.product-bits)) (Some y)) (sym (to_z-of_z w128 x fits))
    ∙ sym c.in_err-product.ensures.product in
    c.from_residual.ensures
    ∙ sym (product_of_none (drop (k + 1) (map placed_within points)) (drop (k + 1) (map suc (take g.row.D cs))))
    ∙ ap (λ a. product_behind Limited a (drop (k + 1) (map placed_within points))
    (drop (k + 1) (map suc (take g.row.D cs))))
    (sym none)
    ∙ sym (product_next points cs g.row.D k (Some (to_z w128 c.loop-k.product-bits))
    (omega (arith, c.requires.count)) c.loop-k-test.true (omega (arith, c.requires.rank.1)))
    ∙ c.loop-k.invariant.0

pub loop-k-preserved : goal.loop-k-preserved
loop-k-preserved g c =
    let points = c.args.points.now in
    let cs : List ℕ = c.args.order.now.columns in
    let k = c.loop-k.k in
    let x : ℤ = get_or (get_or points k []) (get_or cs k 0) (pos 0) in
    let fits : SFits w128 x = search rules in
    let made : SFits w128 c.in_ok-product.product = search rules in
    let before : ℤ = to_z w128 c.loop-k.product-bits in
    let same : Some (to_z w128 (of_z w128 c.in_ok-product.product)) ≡ limited_product (Some before) (Some x) =
    ap Some (to_z-of_z w128 c.in_ok-product.product made) ∙ c.in_ok-product.ensures.product
    ∙ ap (λ y. limited_product (Some before) (Some y)) (to_z-of_z w128 x fits) in (
      ap (λ a. product_behind Limited a (drop (k + 1) (map placed_within points))
          (drop (k + 1) (map suc (take g.row.D cs)))) same
          ∙ sym (product_next points cs g.row.D k (Some before) (omega (arith, c.requires.count)) c.loop-k-test.true
          (omega (arith, c.requires.rank.1)))
          ∙ c.loop-k.invariant.0,
      rw (to_z-of_z w128 c.in_ok-product.product made) c.in_ok-product.ensures.limited,
    )
