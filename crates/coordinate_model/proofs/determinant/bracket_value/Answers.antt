use Rattle.std.proofs.Common.{◌≡◌, ◌∙◌, sym, ap, Some, map, drop, ℕ, ℤ, to_z, of_z, List, [], ◌+◌, ◌≤◌, get_or}
use Rattle.std.proofs.Common.{length, rules, subst, false}
use Rattle.std.proofs.lemmas.Int.{to_z-of_z}
use Rattle.std.proofs.lemmas.List.{length-map}
use Rattle.std.proofs.Math.ListN.{drop_of_length-le}
use mir.Syntax.{w128}
use mir.Val.{SFits}
use Rattle.std.specs.Prelude.{Option}
use Rattle.coordinate_model.specs.Ring.{Integers}
use Rattle.coordinate_model.specs.Brackets.{bracket}
use Rattle.coordinate_model.specs.Sequences.{columns, IsRank}
use Rattle.coordinate_model.specs.declared.column_orders.Order.{Order}
use Rattle.coordinate_model.specs.Limited.{limited_sum, signed_number}
use Rattle.coordinate_model.specs.InOrder.{orders}
use Rattle.coordinate_model.specs.PlacedPoints.{placed}
use Rattle.coordinate_model.proofs.LimitedLaws.{Shows}
use Rattle.coordinate_model.proofs.BracketSteps.{rest, term, sum_next, no_more, no_sum_more, term_at, columns_of}
use Rattle.coordinate_model.proofs.BracketSteps.{whole, bracket_value_is}
use Rattle.coordinate_model.proofs.determinant.bracket_value.Goals as goal

abbrev no_order : Order
no_order = record { columns = []; is_odd = false }

pub returns-in_err-product-clause-in_order : goal.returns-in_err-product-clause-in_order
returns-in_err-product-clause-in_order g c =
    let points = c.args.points.now in
    let table : List Order = c.orders-order-items.result.now in
    let i : ℕ = c.loop-order.order-index in
    let sum : Option ℤ = Some (to_z w128 c.loop-order.sum-bits) in
    let w : List ℕ = columns_of g.row.D (get_or table i no_order) in
    c.from_residual.ensures
    ∙ no_more points sum w (drop (i + 1) (orders (columns g.row.D))) c.in_err-product.ensures.in_order
    ∙ sym
    (sum_next table g.row.D i (term points) sum no_order c.orders-order-items.ensures.columns c.loop-order-test.true)
    ∙ c.loop-order.invariant
    ∙ whole points g.row.D c.requires.count

pub returns-in_err-sum-clause-in_order : goal.returns-in_err-sum-clause-in_order
returns-in_err-sum-clause-in_order g c =
    let points = c.args.points.now in
    let table : List Order = c.orders-order-items.result.now in
    let i : ℕ = c.loop-order.order-index in
    let before : ℤ = to_z w128 c.loop-order.sum-bits in
    let o : Order = get_or table i no_order in
    let w : List ℕ = columns_of g.row.D o in
    let product : SFits w128 c.in_ok-product.product = search rules in
    let term_fits : SFits w128 c.signed.result = search rules in
    let number : c.signed.result ≡ signed_number o.is_odd c.in_ok-product.product =
    c.signed.ensures ∙ ap (signed_number o.is_odd) (to_z-of_z w128 c.in_ok-product.product product) in
    let same : limited_sum (Some before) (Some (to_z w128 (of_z w128 c.signed.result)))
    ≡ limited_sum (Some before) (term points w) =
    ap (λ y. limited_sum (Some before) (Some y)) (to_z-of_z w128 c.signed.result term_fits ∙ number)
    ∙ ap (limited_sum (Some before))
    (sym (term_at table g.row.D i no_order points c.in_ok-product.product c.orders-order-items.ensures.columns
    c.orders-order-items.ensures.signs c.loop-order-test.true c.in_ok-product.ensures.in_order)) in
    c.from_residual-in_err-sum.ensures
    ∙ no_sum_more points (drop (i + 1) (orders (columns g.row.D))) (limited_sum (Some before) (term points w))
    (sym same ∙ sym c.in_err-sum.ensures.sum)
    ∙ sym
    (sum_next table g.row.D i (term points) (Some before) no_order c.orders-order-items.ensures.columns
    c.loop-order-test.true)
    ∙ c.loop-order.invariant
    ∙ whole points g.row.D c.requires.count

pub loop-order-preserved : goal.loop-order-preserved
loop-order-preserved g c =
    let points = c.args.points.now in
    let table : List Order = c.orders-order-items.result.now in
    let i : ℕ = c.loop-order.order-index in
    let before : ℤ = to_z w128 c.loop-order.sum-bits in
    let o : Order = get_or table i no_order in
    let w : List ℕ = columns_of g.row.D o in
    let product : SFits w128 c.in_ok-product.product = search rules in
    let term_fits : SFits w128 c.signed.result = search rules in
    let made : SFits w128 c.in_ok-sum.sum = search rules in
    let number : c.signed.result ≡ signed_number o.is_odd c.in_ok-product.product =
    c.signed.ensures ∙ ap (signed_number o.is_odd) (to_z-of_z w128 c.in_ok-product.product product) in
    let same : Some (to_z w128 (of_z w128 c.in_ok-sum.sum)) ≡ limited_sum (Some before) (term points w) =
    ap Some (to_z-of_z w128 c.in_ok-sum.sum made) ∙ c.in_ok-sum.ensures.sum
    ∙ ap (λ y. limited_sum (Some before) (Some y)) (to_z-of_z w128 c.signed.result term_fits ∙ number)
    ∙ ap (limited_sum (Some before))
    (sym (term_at table g.row.D i no_order points c.in_ok-product.product c.orders-order-items.ensures.columns
    c.orders-order-items.ensures.signs c.loop-order-test.true c.in_ok-product.ensures.in_order)) in
    ap (λ a. rest points a (drop (i + 1) (orders (columns g.row.D)))) same
    ∙ sym
    (sum_next table g.row.D i (term points) (Some before) no_order c.orders-order-items.ensures.columns
    c.loop-order-test.true)
    ∙ c.loop-order.invariant

-- the orders are all passed
past : (table : List Order) (d i : ℕ) (points : List (List ℤ)) (sum : Option ℤ)
    → map (columns_of d) table ≡ orders (columns d)
    → length table ≤ i → rest points sum (drop i (orders (columns d))) ≡ sum
past table d i points sum same done =
    let long : length table ≡ length (orders (columns d)) = sym (length-map table (columns_of d)) ∙ ap length same in
    ap (rest points sum) (drop_of_length-le (orders (columns d)) (subst (λ n. n ≤ i) long done))

pub returns-clause-in_order : goal.returns-clause-in_order
returns-clause-in_order g c =
    let points = c.args.points.now in
    let sum : ℤ = to_z w128 c.loop-order.sum-bits in
    sym
    (past c.orders-order-items.result.now g.row.D c.loop-order.order-index points (Some sum)
    c.orders-order-items.ensures.columns c.loop-order-test.false)
    ∙ c.loop-order.invariant ∙ whole points g.row.D c.requires.count

pub returns-clause-value : goal.returns-clause-value
returns-clause-value g c =
    let points = c.args.points.now in
    let sum : ℤ = to_z w128 c.loop-order.sum-bits in
    let rank : IsRank (length points) = subst IsRank (sym c.requires.count) c.requires.rank in
    subst (λ (x : Option ℤ). Shows x (bracket Integers (map placed points)))
    (sym (sym
    (past c.orders-order-items.result.now g.row.D c.loop-order.order-index points (Some sum)
    c.orders-order-items.ensures.columns c.loop-order-test.false)
    ∙ c.loop-order.invariant ∙ whole points g.row.D c.requires.count))
    (bracket_value_is points rank)
