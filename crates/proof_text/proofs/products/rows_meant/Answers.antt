use Rattle.std.proofs.Common.{ap, arith, length}
use Rattle.proof_text.proofs.PointSteps.{row_count, row_pushed}
use Rattle.proof_text.proofs.products.rows_meant.Goals as goal

pub points_in_front-requires : goal.points_in_front-requires
points_in_front-requires g c =
    let count = row_count g.row.D c.args.rows.now c.loop-row.row-index c.row-item.result c.requires.each
    c.loop-row-test.true c.row-item.is in
    let size = ap length c.deref.ensures.value in (
      omega (arith, c.requires.rank.1),
      (omega (arith, ap length c.items.ensures, c.requires.few), omega (arith, count, size)),
    )

pub loop-row-preserved : goal.loop-row-preserved
loop-row-preserved g c =
    let count = row_count g.row.D c.args.rows.now c.loop-row.row-index c.row-item.result c.requires.each
    c.loop-row-test.true c.row-item.is in
    rw c.in_ok-push.ensures.items
    (row_pushed c.args.names.now g.row.D c.loop-row.points.items c.args.rows.now c.loop-row.row-index c.row-item.result
    c.points_in_front.result c.loop-row.invariant c.loop-row-test.true c.row-item.is count
    (rw (c.deref.ensures.value, c.items.ensures) at c.points_in_front.ensures))
