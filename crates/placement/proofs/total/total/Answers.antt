use Rattle.std.proofs.Common.{◌≡◌, ◌∙◌, sym, ap, ℕ, Some, None, ℤ, pos, to_z, of_z, rules, false, cond, List, drop}
use Rattle.std.proofs.Common.{◌+◌, get_or}
use Rattle.std.specs.Prelude.{Option}
use Rattle.std.proofs.lemmas.Int.{to_z-of_z}
use mir.Syntax.{w128}
use mir.Val.{SFits}
use Rattle.coordinate_model.specs.Limited.{limited_sum, limited_product, limited_negative, signed_number}
use Rattle.placement.specs.declared.terms.Term.{Term}
use Rattle.placement.specs.Numbers.{term_value, total_behind}
use Rattle.placement.proofs.Steps.{no_sum, total_next, no_more, term_of_product, term_of_none}
use Rattle.placement.proofs.total.total.Goals as goal

abbrev no_term : Term
no_term = record { first = 0; second = 0; is_odd = false }

pub returns-in_err-product : goal.returns-in_err-product
returns-in_err-product c =
    let a = c.args.a.now in
    let b = c.args.b.now in
    let terms : List Term = c.args.terms.now in
    let i : ℕ = c.loop-term.term-index in
    let t : Term = get_or terms i no_term in
    let sum : Option ℤ = Some (to_z w128 c.loop-term.sum-bits) in
    let x : ℤ = get_or a t.first (pos 0) in
    let y : ℤ = get_or b t.second (pos 0) in
    let x_fits : SFits w128 x = search rules in
    let y_fits : SFits w128 y = search rules in
    let product : None ≡ limited_product (Some x) (Some y) =
    c.in_err-product.ensures.product
    ∙ ap (λ z. limited_product (Some z) (Some (to_z w128 (of_z w128 y)))) (to_z-of_z w128 x x_fits)
    ∙ ap (λ z. limited_product (Some x) (Some z)) (to_z-of_z w128 y y_fits) in
    c.from_residual.ensures
    ∙ no_more a b (drop (i + 1) terms) (limited_sum sum (term_value a b t))
    (ap (limited_sum sum) (term_of_none t.is_odd (limited_product (Some x) (Some y)) (sym product)) ∙ no_sum sum)
    ∙ sym (total_next a b terms i sum no_term c.loop-term-test.true)
    ∙ c.loop-term.invariant

-- the sum with the term at the place
abbrev next_sum : (a b : List ℤ) (t : Term) (sum product : ℤ) → Type 0
next_sum a b t sum product =
    limited_sum (Some sum) (Some (signed_number t.is_odd product)) ≡ limited_sum (Some sum) (term_value a b t)

next_sum_is : (a b : List ℤ) (t : Term) (sum product : ℤ)
    → Some product ≡ limited_product (Some (get_or a t.first (pos 0))) (Some (get_or b t.second (pos 0)))
    → next_sum a b t sum product
next_sum_is a b t sum product e =
    ap (limited_sum (Some sum))
    (sym (term_of_product t.is_odd product)
    ∙ ap (λ x. cond t.is_odd (limited_negative x) x) e)

pub returns-in_err-sum : goal.returns-in_err-sum
returns-in_err-sum c =
    let a = c.args.a.now in
    let b = c.args.b.now in
    let terms : List Term = c.args.terms.now in
    let i : ℕ = c.loop-term.term-index in
    let t : Term = get_or terms i no_term in
    let before : ℤ = to_z w128 c.loop-term.sum-bits in
    let x : ℤ = get_or a t.first (pos 0) in
    let y : ℤ = get_or b t.second (pos 0) in
    let x_fits : SFits w128 x = search rules in
    let y_fits : SFits w128 y = search rules in
    let product_fits : SFits w128 c.in_ok-product.product = search rules in
    let signed_fits : SFits w128 c.signed.result = search rules in
    let product : Some c.in_ok-product.product ≡ limited_product (Some x) (Some y) =
    c.in_ok-product.ensures.product
    ∙ ap (λ z. limited_product (Some z) (Some (to_z w128 (of_z w128 y)))) (to_z-of_z w128 x x_fits)
    ∙ ap (λ z. limited_product (Some x) (Some z)) (to_z-of_z w128 y y_fits) in
    let same : limited_sum (Some before) (Some (to_z w128 (of_z w128 c.signed.result)))
    ≡ limited_sum (Some before) (term_value a b t) =
    ap (λ z. limited_sum (Some before) (Some z))
    (to_z-of_z w128 c.signed.result signed_fits ∙ c.signed.ensures
    ∙ ap (signed_number t.is_odd) (to_z-of_z w128 c.in_ok-product.product product_fits))
    ∙ next_sum_is a b t before c.in_ok-product.product product in
    c.from_residual-in_err-sum.ensures
    ∙ no_more a b (drop (i + 1) terms) (limited_sum (Some before) (term_value a b t))
    (sym same ∙ sym c.in_err-sum.ensures.sum)
    ∙ sym (total_next a b terms i (Some before) no_term c.loop-term-test.true)
    ∙ c.loop-term.invariant

pub loop-term-preserved : goal.loop-term-preserved
loop-term-preserved c =
    let a = c.args.a.now in
    let b = c.args.b.now in
    let terms : List Term = c.args.terms.now in
    let i : ℕ = c.loop-term.term-index in
    let t : Term = get_or terms i no_term in
    let before : ℤ = to_z w128 c.loop-term.sum-bits in
    let x : ℤ = get_or a t.first (pos 0) in
    let y : ℤ = get_or b t.second (pos 0) in
    let x_fits : SFits w128 x = search rules in
    let y_fits : SFits w128 y = search rules in
    let product_fits : SFits w128 c.in_ok-product.product = search rules in
    let signed_fits : SFits w128 c.signed.result = search rules in
    let product : Some c.in_ok-product.product ≡ limited_product (Some x) (Some y) =
    c.in_ok-product.ensures.product
    ∙ ap (λ z. limited_product (Some z) (Some (to_z w128 (of_z w128 y)))) (to_z-of_z w128 x x_fits)
    ∙ ap (λ z. limited_product (Some x) (Some z)) (to_z-of_z w128 y y_fits) in
    let same : limited_sum (Some before) (Some (to_z w128 (of_z w128 c.signed.result)))
    ≡ limited_sum (Some before) (term_value a b t) =
    ap (λ z. limited_sum (Some before) (Some z))
    (to_z-of_z w128 c.signed.result signed_fits ∙ c.signed.ensures
    ∙ ap (signed_number t.is_odd) (to_z-of_z w128 c.in_ok-product.product product_fits))
    ∙ next_sum_is a b t before c.in_ok-product.product product in
    let made : SFits w128 c.in_ok-sum.sum = search rules in
    ap (λ z. total_behind a b z (drop (i + 1) terms))
    (ap Some (to_z-of_z w128 c.in_ok-sum.sum made) ∙ c.in_ok-sum.ensures.sum ∙ same)
    ∙ sym (total_next a b terms i (Some before) no_term c.loop-term-test.true)
    ∙ c.loop-term.invariant
