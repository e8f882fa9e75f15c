use Rattle.std.proofs.Common.{rules, ap, sym, subst, ◌∙◌, ◌+◌, lit≤, take, drop, [], ◌∷◌, arith}
use Rattle.std.specs.Prelude.{Result}
use Rattle.coordinate_model.specs.Starts.{Entry}
use Rattle.bracket_poly.specs.Answers.{IsStop}
use Rattle.bracket_poly.specs.Makings.{each_item}
use Rattle.bracket_poly.specs.Tracked.{Tracked, Limit}
use Rattle.bracket_poly.specs.Values.{entry_of, value_of}
use Rattle.bracket_poly.proofs.Degrees.{exponents_fit}
use Rattle.bracket_poly.proofs.Makings.{next_place, stop_place, last_place, error_answers, stop_then}
use Rattle.bracket_poly.proofs.ProductKeys.{product_degree}
use Rattle.conic_points.specs.Makings.{adding_entry}
use Rattle.conic_points.specs.Points.{IsPointEntry}
use Rattle.conic_points.proofs.Rows.{entry_at, before_same}
use Rattle.conic_points.proofs.brackets.add_two.Goals as goal

pub loop-entry-init : goal.loop-entry-init
loop-entry-init g c =
    ap (λ es. each_item (adding_entry (drop (c.args.place + 2) c.args.row) (value_of c.args.last.now.entries ∷ [])
    c.args.f.now.tracked.sum (take c.args.place c.args.row)) c.args.sum.now.tracked (value_of es)) (sym c.items-entry-items.ensures)

pub with_point-row-requires : goal.with_point-row-requires
with_point-row-requires g c =
    let entry : IsPointEntry c.entry-item.result =
    entry_at c.args.value.now c.items-entry-items.result.now c.loop-entry.entry-index c.entry-item.result c.requires.rank
    c.requires.value c.items-entry-items.ensures c.loop-entry-test.true c.entry-item.is in
    (search rules, (omega (arith, c.requires.room), entry.one))

pub times-requires : goal.times-requires
times-requires g c =
    let entry : IsPointEntry c.entry-item.result =
    entry_at c.args.value.now c.items-entry-items.result.now c.loop-entry.entry-index c.entry-item.result c.requires.rank
    c.requires.value c.items-entry-items.ensures c.loop-entry-test.true c.entry-item.is in (
      search rules,
      exponents_fit 1000 1000 c.args.f.now.tracked.sum c.entry-item.result.1.tracked.sum (lit≤ tt) c.requires.degree entry.small,
    )

pub add_last-requires : goal.add_last-requires
add_last-requires g c =
    let entry : IsPointEntry c.entry-item.result =
    entry_at c.args.value.now c.items-entry-items.result.now c.loop-entry.entry-index c.entry-item.result c.requires.rank
    c.requires.value c.items-entry-items.ensures c.loop-entry-test.true c.entry-item.is in (
      search rules,
      (
        search rules,
        (
          search rules,
          (
            c.requires.rank,
            (
              omega (arith, c.requires.room),
              (
                product_degree 1000 1000 c.args.f.now.tracked.sum c.entry-item.result.1.tracked.sum c.in_ok-both.both.tracked
                    c.in_ok-both.ensures c.requires.degree entry.small,
                c.requires.last,
              ),
            ),
          ),
        ),
      ),
    )

pub loop-entry-preserved : goal.loop-entry-preserved
loop-entry-preserved g c =
    let step : Tracked → Entry → Result Tracked Limit =
    adding_entry (drop (c.args.place + 2) c.args.row) (value_of c.args.last.now.entries ∷ []) c.args.f.now.tracked.sum
    (take c.args.place c.args.row) in
    next_place step c.items-entry-items.result.now _ _ _ c.loop-entry.entry-index c.entry-item.result c.loop-entry-test.true
    c.entry-item.is c.loop-entry.invariant
    (sym (before_same c.args.row c.with_point-row.result c.args.place (c.args.place + 2) (entry_of c.entry-item.result)
    (c.args.place + 1 + 1) (omega arith) c.with_point-row.ensures.front
    (c.with_point-row.ensures.behind (c.args.place + 1 + 1) (omega arith)) [] (value_of c.args.last.now.entries)
    c.args.f.now.tracked.sum c.loop-entry.sum.tracked c.in_ok-both.both.tracked c.in_ok-both.ensures)
    ∙ c.in_ok-add_last.ensures)

pub returns-in_err-both : goal.returns-in_err-both
returns-in_err-both g c =
    let step : Tracked → Entry → Result Tracked Limit =
    adding_entry (drop (c.args.place + 2) c.args.row) (value_of c.args.last.now.entries ∷ []) c.args.f.now.tracked.sum
    (take c.args.place c.args.row) in
    error_answers _ c.from_residual.result c.in_err-both.field-0.0 _ c.from_residual.ensures.1
    (stop_place step c.items-entry-items.result.now _ _ c.loop-entry.entry-index c.entry-item.result c.in_err-both.field-0.0
    c.loop-entry-test.true c.entry-item.is c.loop-entry.invariant
    (stop_then c.in_err-both.field-0.0 _ _ c.in_err-both.ensures))

pub returns-in_err-add_last : goal.returns-in_err-add_last
returns-in_err-add_last g c =
    let step : Tracked → Entry → Result Tracked Limit =
    adding_entry (drop (c.args.place + 2) c.args.row) (value_of c.args.last.now.entries ∷ []) c.args.f.now.tracked.sum
    (take c.args.place c.args.row) in
    error_answers _ c.from_residual-in_err-add_last.result c.in_err-add_last.field-0.0 _ c.from_residual-in_err-add_last.ensures.1
    (stop_place step c.items-entry-items.result.now _ _ c.loop-entry.entry-index c.entry-item.result c.in_err-add_last.field-0.0
    c.loop-entry-test.true c.entry-item.is c.loop-entry.invariant
    (subst (λ (r : Result Tracked Limit). IsStop c.in_err-add_last.field-0.0 r)
    (before_same c.args.row c.with_point-row.result c.args.place (c.args.place + 2) (entry_of c.entry-item.result)
    (c.args.place + 1 + 1) (omega arith) c.with_point-row.ensures.front
    (c.with_point-row.ensures.behind (c.args.place + 1 + 1) (omega arith)) [] (value_of c.args.last.now.entries)
    c.args.f.now.tracked.sum c.loop-entry.sum.tracked c.in_ok-both.both.tracked c.in_ok-both.ensures)
    c.in_err-add_last.ensures))

pub returns : goal.returns
returns g c =
    let step : Tracked → Entry → Result Tracked Limit =
    adding_entry (drop (c.args.place + 2) c.args.row) (value_of c.args.last.now.entries ∷ []) c.args.f.now.tracked.sum
    (take c.args.place c.args.row) in
    last_place step c.items-entry-items.result.now _ _ c.loop-entry.entry-index c.loop-entry-test.false c.loop-entry.invariant
