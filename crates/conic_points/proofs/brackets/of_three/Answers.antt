use Rattle.std.proofs.Common.{rules, ap, sym, subst, ◌∙◌, ◌+◌, ◌++◌, take, drop, [], ◌∷◌, arith}
use Rattle.std.specs.Prelude.{Result}
use Rattle.coordinate_model.specs.Starts.{Entry}
use Rattle.bracket_poly.specs.Answers.{IsStop}
use Rattle.bracket_poly.specs.Makings.{each_item}
use Rattle.bracket_poly.specs.Tracked.{Tracked, Limit, nothing}
use Rattle.bracket_poly.specs.Values.{entry_of, value_of}
use Rattle.bracket_poly.proofs.Makings.{next_place, stop_place, last_place, error_answers}
use Rattle.conic_points.specs.Makings.{adding_entry, made_bracket}
use Rattle.conic_points.specs.Points.{IsPointEntry}
use Rattle.conic_points.proofs.Rows.{entry_at, steps_same}
use Rattle.conic_points.proofs.brackets.of_three.Goals as goal

pub loop-entry-init : goal.loop-entry-init
loop-entry-init g c =
    let step : Tracked → Entry → Result Tracked Limit =
    λ p a. each_item (adding_entry (drop (c.args.place + 3) c.args.row) (value_of c.args.last.now.entries ∷ []) a.1 (take c.args.place c.args.row ++ a.0)) p
    (value_of c.args.second.now.entries) in
    ap (each_item step nothing) (ap value_of (sym c.items-entry-items.ensures))
    ∙ ap (λ p. each_item step p (value_of c.items-entry-items.result.now)) (sym c.new-sum.ensures)

pub with_point-row-requires : goal.with_point-row-requires
with_point-row-requires g c =
    let entry : IsPointEntry c.entry-item.result =
    entry_at c.args.first.now c.items-entry-items.result.now c.loop-entry.entry-index c.entry-item.result c.requires.rank
    c.requires.points.0 c.items-entry-items.ensures c.loop-entry-test.true c.entry-item.is in
    (search rules, (omega (arith, c.requires.room), entry.one))

pub add_two-requires : goal.add_two-requires
add_two-requires g c =
    let entry : IsPointEntry c.entry-item.result =
    entry_at c.args.first.now c.items-entry-items.result.now c.loop-entry.entry-index c.entry-item.result c.requires.rank
    c.requires.points.0 c.items-entry-items.ensures c.loop-entry-test.true c.entry-item.is in (
      search rules,
      (
        search rules,
        (
          search rules,
          (c.requires.rank, (omega (arith, c.requires.room), (entry.small, (c.requires.points.1.0, c.requires.points.1.1.0)))),
        ),
      ),
    )

pub loop-entry-preserved : goal.loop-entry-preserved
loop-entry-preserved g c =
    let step : Tracked → Entry → Result Tracked Limit =
    λ p a. each_item (adding_entry (drop (c.args.place + 3) c.args.row) (value_of c.args.last.now.entries ∷ []) a.1 (take c.args.place c.args.row ++ a.0)) p
    (value_of c.args.second.now.entries) in
    next_place step c.items-entry-items.result.now _ _ _ c.loop-entry.entry-index c.entry-item.result c.loop-entry-test.true
    c.entry-item.is c.loop-entry.invariant
    (sym (steps_same c.args.row c.with_point-row.result c.args.place (c.args.place + 3) (entry_of c.entry-item.result)
    (c.args.place + 1 + 2) (omega arith) c.with_point-row.ensures.front
    (c.with_point-row.ensures.behind (c.args.place + 1 + 2) (omega arith)) (value_of c.args.last.now.entries ∷ []) (value_of c.args.second.now.entries)
    c.entry-item.result.1.tracked.sum c.loop-entry.sum.tracked)
    ∙ c.in_ok-add_two.ensures)

pub returns-in_err-add_two : goal.returns-in_err-add_two
unfolding made_bracket
returns-in_err-add_two g c =
    let step : Tracked → Entry → Result Tracked Limit =
    λ p a. each_item (adding_entry (drop (c.args.place + 3) c.args.row) (value_of c.args.last.now.entries ∷ []) a.1 (take c.args.place c.args.row ++ a.0)) p
    (value_of c.args.second.now.entries) in
    error_answers _ c.from_residual.result c.in_err-add_two.field-0.0 _ c.from_residual.ensures.1
    (stop_place step c.items-entry-items.result.now _ _ c.loop-entry.entry-index c.entry-item.result
    c.in_err-add_two.field-0.0 c.loop-entry-test.true c.entry-item.is c.loop-entry.invariant
    (subst (λ (r : Result Tracked Limit). IsStop c.in_err-add_two.field-0.0 r)
    (steps_same c.args.row c.with_point-row.result c.args.place (c.args.place + 3) (entry_of c.entry-item.result)
    (c.args.place + 1 + 2) (omega arith) c.with_point-row.ensures.front
    (c.with_point-row.ensures.behind (c.args.place + 1 + 2) (omega arith)) (value_of c.args.last.now.entries ∷ []) (value_of c.args.second.now.entries)
    c.entry-item.result.1.tracked.sum c.loop-entry.sum.tracked)
    c.in_err-add_two.ensures))

pub returns : goal.returns
unfolding made_bracket
returns g c =
    let step : Tracked → Entry → Result Tracked Limit =
    λ p a. each_item (adding_entry (drop (c.args.place + 3) c.args.row) (value_of c.args.last.now.entries ∷ []) a.1 (take c.args.place c.args.row ++ a.0)) p
    (value_of c.args.second.now.entries) in
    last_place step c.items-entry-items.result.now _ _ c.loop-entry.entry-index c.loop-entry-test.false c.loop-entry.invariant
