use Rattle.std.proofs.Common.{ℕ, ◌+◌, ◌<◌}
use Rattle.tableau_order.proofs.Columns.{StepsUp}
use Rattle.tableau_order.proofs.standard.violation.Given as goal

abbrev pub invariant-loop-row : goal.invariant-loop-row
invariant-loop-row g l = (i : ℕ) → i + 1 < l.row → StepsUp g.row.D l.rows i
