use Rattle.std.proofs.Common.{rules, ap, sym, subst, ◌∙◌, ◌≡◌, ◌++◌, ℤ, ℕ, List}
use mir.Syntax.{w128}
use mir.Val.{SFits}
use Rattle.std.proofs.lemmas.Int.{to_z-of_z}
use Rattle.std.specs.Prelude.{T, false, ⊤, Ok, Err}
use Rattle.coordinate_model.specs.Sums.{is_zero}
use Rattle.coordinate_model.specs.Key.{Key}
use Rattle.bracket_poly.specs.declared.error.PolyError.{PolyError}
use Rattle.bracket_poly.specs.Answers.{AddsTerms}
use Rattle.bracket_poly.specs.Tracked.{fits}
use Rattle.bracket_poly.specs.Values.{entry_of}
use Rattle.bracket_poly.proofs.Additions.{next_item, all_items, error_item, item_has, nonzero_terms, handed_on, with_error}
use Rattle.bracket_poly.proofs.Additions.{adds_listed, adds_this, not_zero_is}
use Rattle.degeneracy_report.specs.Joined.{with_row, fresh_points}
use Rattle.degeneracy_report.proofs.StartSteps.{row_term, entry_terms}
use Rattle.degeneracy_report.proofs.start.add_entry.Goals as goal

pub add_with_row-requires : goal.add_with_row-requires
add_with_row-requires g c =
    let number : SFits w128 c.in-Some.c = search rules in
    let i = c.loop-key.invariant in
    let split = i.split ∙ ap (λ ts. i.done ++ ts) c.in-Some.ensures.steps in (
      search rules,
      (
        search rules,
        (
          search rules,
          (
            not_zero_is _ (ap is_zero (to_z-of_z w128 _ number)
                ∙ item_has (λ (t : Key × ℤ). is_zero t.1 ≡ false) _ _ _ _ (nonzero_terms c.args.entry.now.1.tracked.sum) split),
            subst (λ (z : ℤ). T (fits z)) (sym (to_z-of_z w128 c.in-Some.c number))
                (item_has (λ (t : Key × ℤ). T (fits t.1)) _ _ _ _ c.args.entry.now.1.formed.small split),
          ),
        ),
      ),
    )

pub loop-key-preserved : goal.loop-key-preserved
loop-key-preserved g c =
    let number : SFits w128 c.in-Some.c = search rules in
    let row : List ℕ = c.bracket_with-row.result in
    let added : AddsTerms c.loop-key.start.tracked (row_term row (c.in-Some.key.now, c.in-Some.c)) (Ok tt) c.add_with_row.new.start.tracked =
    adds_this _ _ _ _ _ (ap (λ (z : ℤ). (with_row row c.in-Some.key.now, z)) (to_z-of_z w128 c.in-Some.c number))
    c.in_ok-add_with_row.ensures in
    next_item (row_term row) _ _ _ _ _ _ _ tt c.loop-key.invariant c.in-Some.ensures.steps added

pub returns-in_err-add_with_row : goal.returns-in_err-add_with_row
returns-in_err-add_with_row g c =
    let number : SFits w128 c.in-Some.c = search rules in
    let row : List ℕ = c.bracket_with-row.result in
    let error : PolyError = c.in_err-add_with_row.field-0.0 in
    let added : AddsTerms {X = ⊤} c.loop-key.start.tracked (row_term row (c.in-Some.key.now, c.in-Some.c)) (Err error) c.add_with_row.new.start.tracked =
    adds_this _ _ _ _ _ (ap (λ (z : ℤ). (with_row row c.in-Some.key.now, z)) (to_z-of_z w128 c.in-Some.c number))
    c.in_err-add_with_row.ensures in
    with_error _ _ _ _ error (handed_on c.from_residual.result error c.from_residual.ensures.1)
    (adds_listed _ _ _ _ _
    (entry_terms row (fresh_points g.row.D c.args.entry.now.0.size c.args.fresh) (entry_of c.args.entry.now)
    c.bracket_with-row.ensures)
    (error_item (row_term row) _ _ _ _ _ _ _ error c.loop-key.invariant c.in-Some.ensures.steps added))

pub returns : goal.returns
returns g c =
    let row : List ℕ = c.bracket_with-row.result in
    adds_listed _ _ _ _ _
    (entry_terms row (fresh_points g.row.D c.args.entry.now.0.size c.args.fresh) (entry_of c.args.entry.now)
    c.bracket_with-row.ensures)
    (all_items (row_term row) _ _ _ _ _ c.loop-key.invariant c.in-None.ensures.steps.0)
