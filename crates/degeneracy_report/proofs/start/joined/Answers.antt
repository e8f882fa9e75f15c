use Rattle.std.proofs.Common.{rules, ap, sym, subst, ◌∙◌, ℕ, List}
use Rattle.bracket_terms.specs.declared.extensor.Extensor.{Extensor}
use Rattle.bracket_poly.specs.Answers.{IsStop}
use Rattle.bracket_poly.specs.Kept.{TrackedOf}
use Rattle.bracket_poly.specs.Makings.{adding}
use Rattle.bracket_poly.specs.Tracked.{nothing}
use Rattle.bracket_poly.specs.Values.{value_of}
use Rattle.bracket_poly.proofs.Makings.{error_answers}
use Rattle.degeneracy_report.specs.Joined.{fresh_points, start_terms}
use Rattle.degeneracy_report.proofs.StartSteps.{IsReadyEntry, ready_at, entry_added, next_entry, stop_entry, last_entry}
use Rattle.degeneracy_report.proofs.start.joined.Goals as goal

pub add_entry-requires : goal.add_entry-requires
add_entry-requires g c =
    let here : IsReadyEntry g.row.D c.args.value.now.step c.args.fresh c.entry-item.result =
    ready_at c.args.value.now c.args.fresh c.items-entry-items.result.now c.loop-entry.entry-index c.entry-item.result
    c.requires.least c.requires.most c.requires.points c.items-entry-items.ensures c.loop-entry-test.true c.entry-item.is in
    (search rules, (here.least, (here.most, (here.points, c.requires.fresh))))

pub loop-entry-preserved : goal.loop-entry-preserved
loop-entry-preserved g c =
    let points : List ℕ = fresh_points g.row.D c.args.value.now.step c.args.fresh in
    let here : IsReadyEntry g.row.D c.args.value.now.step c.args.fresh c.entry-item.result =
    ready_at c.args.value.now c.args.fresh c.items-entry-items.result.now c.loop-entry.entry-index c.entry-item.result
    c.requires.least c.requires.most c.requires.points c.items-entry-items.ensures c.loop-entry-test.true c.entry-item.is in
    next_entry points c.items-entry-items.result.now c.loop-entry.entry-index _ _ _ c.entry-item.result
    c.loop-entry-test.true c.entry-item.is c.loop-entry.invariant
    (entry_added g.row.D c.args.fresh c.args.value.now.step c.entry-item.result here.size _ _ _ c.in_ok-add_entry.ensures)

pub returns-in_err-add_entry : goal.returns-in_err-add_entry
returns-in_err-add_entry g c =
    let points : List ℕ = fresh_points g.row.D c.args.value.now.step c.args.fresh in
    let here : IsReadyEntry g.row.D c.args.value.now.step c.args.fresh c.entry-item.result =
    ready_at c.args.value.now c.args.fresh c.items-entry-items.result.now c.loop-entry.entry-index c.entry-item.result
    c.requires.least c.requires.most c.requires.points c.items-entry-items.ensures c.loop-entry-test.true c.entry-item.is in
    error_answers _ c.from_residual.result c.in_err-add_entry.field-0.0 _ c.from_residual.ensures.1
    (subst (λ (es : List (Extensor × TrackedOf g.row.D)). IsStop c.in_err-add_entry.field-0.0 (adding nothing (start_terms points (value_of es))))
    c.items-entry-items.ensures
    (stop_entry points c.items-entry-items.result.now c.loop-entry.entry-index _ _ c.entry-item.result
    c.in_err-add_entry.field-0.0 c.loop-entry-test.true c.entry-item.is c.loop-entry.invariant
    (entry_added g.row.D c.args.fresh c.args.value.now.step c.entry-item.result here.size _ _ _ c.in_err-add_entry.ensures)))

pub returns : goal.returns
returns g c =
    let points : List ℕ = fresh_points g.row.D c.args.value.now.step c.args.fresh in
    sym (ap (λ (es : List (Extensor × TrackedOf g.row.D)). adding nothing (start_terms points (value_of es))) c.items-entry-items.ensures)
    ∙ last_entry points c.items-entry-items.result.now c.loop-entry.entry-index _ c.loop-entry-test.false c.loop-entry.invariant
