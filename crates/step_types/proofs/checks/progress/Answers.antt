use Rattle.std.proofs.Common.{arith}
use Rattle.std.proofs.lemmas.Result.{err_from_is_err_and}
use Rattle.construction_reader.specs.Seen.{account}
use Rattle.step_types.specs.Seen.{known}
use Rattle.step_types.specs.Checks.{checked}
use Rattle.step_types.proofs.RowSteps.{goes_on, stops, at_end, sentence_at}
use Rattle.step_types.proofs.checks.progress.Goals as goal

pub take-requires-clause-body : goal.take-requires-clause-body
take-requires-clause-body c =
    sentence_at c.items-statement-items.result.now c.loop-statement.statement-index c.statement-item.result
    c.loop-statement-test.true c.statement-item.is
    (rw c.items-statement-items.ensures c.args.c.now.given.good.each)

pub returns-in_err-take : goal.returns-in_err-take
returns-in_err-take c =
    let error = err_from_is_err_and c.from_residual.result c.from_residual.ensures.1 in
    let fails = stops c.from-rank.result (known c.loop-statement.progress) c.items-statement-items.result.now
    c.loop-statement.statement-index c.statement-item.result (checked (account c.args.c.now)) c.in_err-take.field-0.0
    c.loop-statement-test.true c.statement-item.is c.in_err-take.ensures
    (rw c.from-rank.ensures c.loop-statement.invariant) in
    rw (error.1, error.2) fails

pub loop-statement-preserved : goal.loop-statement-preserved
loop-statement-preserved c =
    goes_on c.args.c.now.rank (known c.loop-statement.progress) (known c.take.new.self)
    c.items-statement-items.result.now c.loop-statement.statement-index c.statement-item.result _
    c.loop-statement-test.true c.statement-item.is
    (rw c.from-rank.ensures at (c.in_ok-take.ensures {u = tt})) c.loop-statement.invariant

pub returns : goal.returns
returns c =
    at_end _ (known c.loop-statement.progress) c.items-statement-items.result.now c.loop-statement.statement-index _
    (omega arith) c.loop-statement.invariant
