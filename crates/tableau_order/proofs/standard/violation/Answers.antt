use Rattle.std.proofs.Common.{◌-◌, refl, arith, true≢false}
use Rattle.tableau_order.specs.Standard.{IsFirstViolation}
use Rattle.tableau_order.proofs.Columns.{steps_standard, falls_not_standard, found_violation}
use Rattle.tableau_order.proofs.standard.violation.Goals as goal

pub returns-in-Some-clause-standard : goal.returns-in-Some-clause-standard
returns-in-Some-clause-standard g c =
    let found : IsFirstViolation g.row.D c.args.rows.now (c.loop-row.row - 1) c.in-Some.column =
    found_violation g.row.D c.args.rows.now c.loop-row.row c.index-rows-row.result
    c.index-rows-row-in-loop-row.result c.in-Some.column (omega arith) (omega arith) c.index-rows-row.is
    c.index-rows-row-in-loop-row.is c.in-Some.ensures.first c.loop-row.invariant in (
      λ h. absurd (true≢false h),
      λ s. absurd (falls_not_standard g.row.D c.args.rows.now (c.loop-row.row - 1) c.in-Some.column found s),
    )

pub returns-clause-standard : goal.returns-clause-standard
returns-clause-standard g c =
    (λ h. steps_standard g.row.D c.args.rows.now (λ i l. c.loop-row.invariant i (omega arith)), λ s. refl)
