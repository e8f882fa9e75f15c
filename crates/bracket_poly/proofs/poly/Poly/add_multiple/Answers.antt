use Rattle.std.proofs.Common.{rules, refl, ap, ◌∙◌, ◌≡◌, ◌∷◌, [], ◌++◌, List, ℤ, ℕ, ◌≤◌}
use mir.Syntax.{w8, w128}
use mir.Val.{SFits, to_z, of_z}
use Rattle.std.proofs.lemmas.Int.{to_z-of_z}
use Rattle.std.specs.List.{AllByRecursion}
use Rattle.std.specs.Prelude.{false, ⊤, Option, Ok, Err}
use Rattle.std.specs.Option.{option_copied}
use Rattle.coordinate_model.specs.Sums.{Terms, is_zero}
use Rattle.bracket_poly.specs.declared.error.PolyError.{PolyError}
use Rattle.bracket_poly.specs.Answers.{AddsTerms}
use Rattle.coordinate_model.specs.Key.{Key, add_exponents}
use Rattle.bracket_poly.specs.Products.{product_term}
use Rattle.bracket_poly.proofs.Additions.{SoFar, next_item, all_items, error_item, item_has, nonzero_terms, handed_on, with_error}
use Rattle.bracket_poly.proofs.Additions.{one_by_one, adds_listed, adds_this, passed_sign, passed_multiple}
use Rattle.bracket_poly.proofs.poly.Poly.add_multiple.Goals as goal

pub add_product-requires : goal.add_product-requires
add_product-requires g c =
    let second : SFits w128 c.in-Some.second = search rules in
    let i = c.loop-right.invariant in
    let split = i.split ∙ ap (λ ts. i.done ++ ts) c.in-Some.ensures.steps in (
      search rules,
      (
        search rules,
        (
          search rules,
          (
            passed_sign _ c.ranges.sign c.requires.sign,
            (
              ap is_zero (to_z-of_z w128 _ c.ranges.first) ∙ c.requires.not_zero,
              (
                ap is_zero (to_z-of_z w128 _ second)
                    ∙ item_has (λ (t : Key × ℤ). is_zero t.1 ≡ false) _ _ _ _ (nonzero_terms c.args.b.now.tracked.sum) split,
                item_has (λ (t : Key × ℤ). AllByRecursion (λ e. e ≤ 65535) (add_exponents c.args.left.now.exponents t.0.exponents)) _ _ _ _
                    c.requires.exponents split,
              ),
            ),
          ),
        ),
      ),
    )

pub loop-right-preserved : goal.loop-right-preserved
loop-right-preserved g c =
    let second : SFits w128 c.in-Some.second = search rules in
    let row : Option (List ℕ) = option_copied c.args.row in
    let sign : ℤ = to_z w8 (of_z w8 c.args.sign) in
    let number : ℤ = to_z w128 (of_z w128 c.args.first) in
    let one : Key × ℤ → Terms Key = λ u. product_term row sign (c.args.left.now, number) u ∷ [] in
    let so_far : SoFar one c.args.self.now.tracked c.loop-right.self.tracked c.args.b.now.tracked.sum.terms c.loop-right.right-iterator =
    c.loop-right.invariant in
    let added : AddsTerms c.loop-right.self.tracked (one (c.in-Some.right.now, c.in-Some.second)) (Ok tt) c.add_product.new.self.tracked =
    adds_this _ _ _ _ _ (ap (λ z. product_term row sign (c.args.left.now, number) (c.in-Some.right.now, z)) (to_z-of_z w128 _ second)) c.in_ok-add_product.ensures in
    next_item one _ _ _ _ _ _ _ tt so_far c.in-Some.ensures.steps added

pub returns-in_err-add_product : goal.returns-in_err-add_product
returns-in_err-add_product g c =
    let second : SFits w128 c.in-Some.second = search rules in
    let row : Option (List ℕ) = option_copied c.args.row in
    let sign : ℤ = to_z w8 (of_z w8 c.args.sign) in
    let number : ℤ = to_z w128 (of_z w128 c.args.first) in
    let one : Key × ℤ → Terms Key = λ u. product_term row sign (c.args.left.now, number) u ∷ [] in
    let so_far : SoFar one c.args.self.now.tracked c.loop-right.self.tracked c.args.b.now.tracked.sum.terms c.loop-right.right-iterator =
    c.loop-right.invariant in
    let error : PolyError = c.in_err-add_product.field-0.0 in
    let added : AddsTerms {X = ⊤} c.loop-right.self.tracked (one (c.in-Some.right.now, c.in-Some.second)) (Err error) c.add_product.new.self.tracked =
    adds_this _ _ _ _ _ (ap (λ z. product_term row sign (c.args.left.now, number) (c.in-Some.right.now, z)) (to_z-of_z w128 _ second)) c.in_err-add_product.ensures in
    with_error _ _ _ _ error (handed_on c.from_residual.result error c.from_residual.ensures.1)
    (adds_listed _ _ _ _ _ (one_by_one (product_term row sign (c.args.left.now, number)) c.args.b.now.tracked.sum.terms
    ∙ passed_multiple row row _ _ c.args.b.now.tracked.sum.terms c.args.left.now refl c.ranges.sign c.ranges.first)
    (error_item one _ _ _ _ _ _ _ error so_far c.in-Some.ensures.steps added))

pub returns : goal.returns
returns g c =
    let row : Option (List ℕ) = option_copied c.args.row in
    let sign : ℤ = to_z w8 (of_z w8 c.args.sign) in
    let number : ℤ = to_z w128 (of_z w128 c.args.first) in
    let one : Key × ℤ → Terms Key = λ u. product_term row sign (c.args.left.now, number) u ∷ [] in
    let so_far : SoFar one c.args.self.now.tracked c.loop-right.self.tracked c.args.b.now.tracked.sum.terms c.loop-right.right-iterator =
    c.loop-right.invariant in
    adds_listed _ _ _ _ _ (one_by_one (product_term row sign (c.args.left.now, number)) c.args.b.now.tracked.sum.terms
    ∙ passed_multiple row row _ _ c.args.b.now.tracked.sum.terms c.args.left.now refl c.ranges.sign c.ranges.first)
    (all_items one _ _ _ _ _ so_far c.in-None.ensures.steps.0)
