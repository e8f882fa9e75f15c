use Rattle.std.proofs.Common.{rules, ap, ◌∙◌, ◌≡◌, ◌++◌, ℤ}
use mir.Syntax.{w128}
use mir.Val.{SFits}
use Rattle.std.proofs.lemmas.Int.{to_z-of_z}
use Rattle.std.proofs.Common.{subst, sym}
use Rattle.std.specs.Prelude.{T, false, ⊤, Ok, Err}
use Rattle.coordinate_model.specs.Sums.{is_zero}
use Rattle.coordinate_model.specs.Key.{Key}
use Rattle.bracket_poly.specs.declared.error.PolyError.{PolyError}
use Rattle.bracket_poly.specs.Answers.{AddsTerms}
use Rattle.bracket_poly.specs.Tracked.{fits}
use Rattle.bracket_poly.proofs.Additions.{SoFar, next_item, all_items, error_item, item_has, nonzero_terms, handed_on, with_error}
use Rattle.bracket_poly.proofs.Additions.{adds_listed, adds_this}
use Rattle.bracket_poly.proofs.Signs.{signed_term, each_signed, can_be_added, signed_passed}
use Rattle.bracket_poly.proofs.poly.Poly.add_signed.Goals as goal

pub signed_by-requires : goal.signed_by-requires
signed_by-requires g c =
    let first : SFits w128 c.in-Some.c = search rules in
    let i = c.loop-key.invariant in
    let split = i.split ∙ ap (λ ts. i.done ++ ts) c.in-Some.ensures.steps in
    subst (λ (z : ℤ). T (fits z)) (sym (to_z-of_z w128 c.in-Some.c first))
    (item_has (λ (t : Key × ℤ). T (fits t.1)) _ _ _ _ c.args.other.now.formed.small split)

pub add_copy-requires : goal.add_copy-requires
add_copy-requires g c =
    let first : SFits w128 c.in-Some.c = search rules in
    let last : SFits w128 c.signed_by.result = search rules in
    let i = c.loop-key.invariant in
    let split = i.split ∙ ap (λ ts. i.done ++ ts) c.in-Some.ensures.steps in (
      search rules,
      (
        search rules,
        can_be_added c.args.negative c.in-Some.c _
            (item_has (λ (t : Key × ℤ). T (fits t.1)) _ _ _ _ c.args.other.now.formed.small split)
            (item_has (λ (t : Key × ℤ). is_zero t.1 ≡ false) _ _ _ _ (nonzero_terms c.args.other.now.tracked.sum) split)
            (signed_passed c.args.negative c.in-Some.c c.signed_by.result first last c.signed_by.ensures),
      ),
    )

pub loop-key-preserved : goal.loop-key-preserved
loop-key-preserved g c =
    let first : SFits w128 c.in-Some.c = search rules in
    let last : SFits w128 c.signed_by.result = search rules in
    let so_far : SoFar (signed_term c.args.negative) c.args.self.now.tracked c.loop-key.self.tracked c.args.other.now.tracked.sum.terms c.loop-key.key-iterator =
    c.loop-key.invariant in
    let added : AddsTerms c.loop-key.self.tracked (signed_term c.args.negative (c.in-Some.key.now, c.in-Some.c)) (Ok tt) c.add_copy.new.self.tracked =
    adds_this _ _ _ _ _ (ap (λ z. (c.in-Some.key.now, z)) (signed_passed c.args.negative c.in-Some.c c.signed_by.result first last c.signed_by.ensures)) c.in_ok-add_copy.ensures in
    next_item (signed_term c.args.negative) _ _ _ _ _ _ _ tt so_far c.in-Some.ensures.steps added

pub returns-in_err-add_copy : goal.returns-in_err-add_copy
returns-in_err-add_copy g c =
    let first : SFits w128 c.in-Some.c = search rules in
    let last : SFits w128 c.signed_by.result = search rules in
    let so_far : SoFar (signed_term c.args.negative) c.args.self.now.tracked c.loop-key.self.tracked c.args.other.now.tracked.sum.terms c.loop-key.key-iterator =
    c.loop-key.invariant in
    let error : PolyError = c.in_err-add_copy.field-0.0 in
    let added : AddsTerms {X = ⊤} c.loop-key.self.tracked (signed_term c.args.negative (c.in-Some.key.now, c.in-Some.c)) (Err error) c.add_copy.new.self.tracked =
    adds_this _ _ _ _ _ (ap (λ z. (c.in-Some.key.now, z)) (signed_passed c.args.negative c.in-Some.c c.signed_by.result first last c.signed_by.ensures)) c.in_err-add_copy.ensures in
    with_error _ _ _ _ error (handed_on c.from_residual.result error c.from_residual.ensures.1)
    (adds_listed _ _ _ _ _ (each_signed c.args.negative c.args.other.now.tracked.sum.terms)
    (error_item (signed_term c.args.negative) _ _ _ _ _ _ _ error so_far c.in-Some.ensures.steps added))

pub returns : goal.returns
returns g c =
    let so_far : SoFar (signed_term c.args.negative) c.args.self.now.tracked c.loop-key.self.tracked c.args.other.now.tracked.sum.terms c.loop-key.key-iterator =
    c.loop-key.invariant in
    adds_listed _ _ _ _ _ (each_signed c.args.negative c.args.other.now.tracked.sum.terms)
    (all_items (signed_term c.args.negative) _ _ _ _ _ so_far c.in-None.ensures.steps.0)
