use Rattle.std.proofs.Common.{List, fold, map, drop, sym, ◌∙◌, ap}
use Rattle.construction_reader.specs.declared.types.Statement.{Statement}
use Rattle.construction_reader.specs.Said.{row}
use Rattle.construction_reader.specs.Seen.{account}
use Rattle.cayley_terms.specs.Meaning.{Variables}
use Rattle.cayley_terms.specs.Straight.{row_lowered}
use Rattle.cayley_terms.proofs.StatementSteps.{rows_next, rows_room, formed_at}
use Rattle.cayley_terms.proofs.ProgramLaws.{params_in, fits_whole, lowered_from}
use Rattle.cayley_terms.proofs.straight.lowering.Goals as goal

pub loop-statement-init : goal.loop-statement-init
loop-statement-init c =
    let params = params_in (account c.args.c.now) in
    ap (λ (items : List Statement). fold (row_lowered params) c.new-lowering.result (map row (drop 0 items)))
    c.items-statement-items.ensures
    ∙ lowered_from (account c.args.c.now) c.new-lowering.result c.new-lowering.ensures

pub statement-requires-clause-formed : goal.statement-requires-clause-formed
statement-requires-clause-formed c =
    formed_at c.args.c.now.statements c.loop-statement.statement-index c.statement-item.result
    (rw c.items-statement-items.ensures at c.loop-statement-test.true)
    (rw c.items-statement-items.ensures at c.statement-item.is) c.args.c.now.given.good.each

pub statement-requires-clause-params : goal.statement-requires-clause-params
statement-requires-clause-params c = rw c.requires.params c.args.c.now.given.good.few_params

pub statement-requires-clause-room : goal.statement-requires-clause-room
statement-requires-clause-room c =
    let a = account c.args.c.now in
    rw c.requires.params
    (rows_room (params_in a) c.items-statement-items.result.now c.loop-statement.statement-index c.statement-item.result
    c.loop-statement.lowering _ c.loop-statement-test.true c.statement-item.is
    c.loop-statement.invariant (fits_whole Variables a c.requires.good c.args.c.now.given.good c.requires.one))

pub loop-statement-preserved : goal.loop-statement-preserved
loop-statement-preserved c =
    let a = account c.args.c.now in
    sym
    (rows_next (params_in a) c.items-statement-items.result.now c.loop-statement.statement-index c.statement-item.result
    c.loop-statement.lowering c.statement.new.self c.loop-statement-test.true c.statement-item.is
    (c.in_ok-statement.ensures {u = tt}
    ∙ ap (λ params. row_lowered params c.loop-statement.lowering (row c.statement-item.result)) c.requires.params))
    ∙ c.loop-statement.invariant
