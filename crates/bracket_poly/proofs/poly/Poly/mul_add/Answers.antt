use Rattle.std.proofs.Common.{rules, ap, ◌∙◌, ◌≡◌, ◌++◌, List, ℤ, ℕ, ◌≤◌, Option}
use mir.Syntax.{w8, w128}
use mir.Val.{SFits, to_z, of_z}
use Rattle.std.proofs.lemmas.Int.{to_z-of_z}
use Rattle.std.specs.List.{AllByRecursion}
use Rattle.std.specs.Prelude.{false, ⊤, Ok, Err}
use Rattle.coordinate_model.specs.Sums.{Terms, is_zero}
use Rattle.coordinate_model.specs.BracketPolynomial.{BracketPolynomial}
use Rattle.bracket_poly.specs.declared.error.PolyError.{PolyError}
use Rattle.bracket_poly.specs.Answers.{AddsTerms}
use Rattle.coordinate_model.specs.Key.{Key, add_exponents}
use Rattle.bracket_poly.specs.Products.{multiple_terms}
use Rattle.bracket_poly.proofs.Additions.{SoFar, next_item, all_items, error_item, item_has, nonzero_terms, handed_on, with_error}
use Rattle.bracket_poly.proofs.Additions.{adds_listed, passed_sign, product-terms}
use Rattle.coordinate_model.specs.Starts.{product_terms}
use Rattle.bracket_poly.proofs.poly.Poly.mul_add.Goals as goal

pub add_multiple-requires : goal.add_multiple-requires
add_multiple-requires g c =
    let first : SFits w128 c.in-Some.first = search rules in
    let f : BracketPolynomial = c.args.a.now.tracked.sum in
    let h : BracketPolynomial = c.args.b.now.tracked.sum in
    let row : Option (List ℕ) = c.args.row in
    let sign : ℤ = to_z w8 (of_z w8 c.args.sign) in
    let many : Key × ℤ → Terms Key = multiple_terms row sign h.terms in
    let so_far : SoFar many c.args.self.now.tracked c.loop-left.self.tracked f.terms c.loop-left.left-iterator =
    c.loop-left.invariant in
    let split = so_far.split ∙ ap (λ ts. so_far.done ++ ts) c.in-Some.ensures.steps in (
      search rules,
      (
        search rules,
        (
          search rules,
          (
            passed_sign _ c.ranges.sign c.requires.sign,
            (
              ap is_zero (to_z-of_z w128 _ first)
                  ∙ item_has (λ (t : Key × ℤ). is_zero t.1 ≡ false) _ _ _ _ (nonzero_terms f) split,
              item_has (λ (t : Key × ℤ). AllByRecursion (λ (u : Key × ℤ). AllByRecursion (λ e. e ≤ 65535) (add_exponents t.0.exponents u.0.exponents)) h.terms)
                  _ _ _ _ c.requires.exponents split,
            ),
          ),
        ),
      ),
    )

pub loop-left-preserved : goal.loop-left-preserved
loop-left-preserved g c =
    let first : SFits w128 c.in-Some.first = search rules in
    let f : BracketPolynomial = c.args.a.now.tracked.sum in
    let h : BracketPolynomial = c.args.b.now.tracked.sum in
    let row : Option (List ℕ) = c.args.row in
    let sign : ℤ = to_z w8 (of_z w8 c.args.sign) in
    let many : Key × ℤ → Terms Key = multiple_terms row sign h.terms in
    let so_far : SoFar many c.args.self.now.tracked c.loop-left.self.tracked f.terms c.loop-left.left-iterator =
    c.loop-left.invariant in
    let added : AddsTerms c.loop-left.self.tracked (many (c.in-Some.left.now, c.in-Some.first)) (Ok tt) c.add_multiple.new.self.tracked =
    adds_listed _ _ _ _ _ (ap (λ r. multiple_terms r sign h.terms (c.in-Some.left.now, to_z w128 (of_z w128 c.in-Some.first))) c.as_ref.ensures.value
    ∙ ap (λ z. multiple_terms row sign h.terms (c.in-Some.left.now, z)) (to_z-of_z w128 _ first)) c.in_ok-add_multiple.ensures in
    next_item many _ _ _ _ _ _ _ tt so_far c.in-Some.ensures.steps added

pub returns-in_err-add_multiple : goal.returns-in_err-add_multiple
returns-in_err-add_multiple g c =
    let first : SFits w128 c.in-Some.first = search rules in
    let f : BracketPolynomial = c.args.a.now.tracked.sum in
    let h : BracketPolynomial = c.args.b.now.tracked.sum in
    let row : Option (List ℕ) = c.args.row in
    let sign : ℤ = to_z w8 (of_z w8 c.args.sign) in
    let many : Key × ℤ → Terms Key = multiple_terms row sign h.terms in
    let so_far : SoFar many c.args.self.now.tracked c.loop-left.self.tracked f.terms c.loop-left.left-iterator =
    c.loop-left.invariant in
    let error : PolyError = c.in_err-add_multiple.field-0.0 in
    let added : AddsTerms {X = ⊤} c.loop-left.self.tracked (many (c.in-Some.left.now, c.in-Some.first)) (Err error) c.add_multiple.new.self.tracked =
    adds_listed _ _ _ _ _ (ap (λ r. multiple_terms r sign h.terms (c.in-Some.left.now, to_z w128 (of_z w128 c.in-Some.first))) c.as_ref.ensures.value
    ∙ ap (λ z. multiple_terms row sign h.terms (c.in-Some.left.now, z)) (to_z-of_z w128 _ first)) c.in_err-add_multiple.ensures in
    with_error _ _ _ _ error (handed_on c.from_residual.result error c.from_residual.ensures.1)
    (adds_listed _ _ _ _ _ (product-terms f h row sign ∙ ap (product_terms f h row) (to_z-of_z w8 _ c.ranges.sign))
    (error_item many _ _ _ _ _ _ _ error so_far c.in-Some.ensures.steps added))

pub returns : goal.returns
returns g c =
    let f : BracketPolynomial = c.args.a.now.tracked.sum in
    let h : BracketPolynomial = c.args.b.now.tracked.sum in
    let row : Option (List ℕ) = c.args.row in
    let sign : ℤ = to_z w8 (of_z w8 c.args.sign) in
    let many : Key × ℤ → Terms Key = multiple_terms row sign h.terms in
    let so_far : SoFar many c.args.self.now.tracked c.loop-left.self.tracked f.terms c.loop-left.left-iterator =
    c.loop-left.invariant in
    adds_listed _ _ _ _ _ (product-terms f h row sign ∙ ap (product_terms f h row) (to_z-of_z w8 _ c.ranges.sign)) (all_items many _ _ _ _ _ so_far c.in-None.ensures.steps.0)
