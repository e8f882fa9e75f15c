use Rattle.std.proofs.Common.{ℕ, ◌<◌, ◌≤◌, slice_index}
use Rattle.tableau_order.proofs.standard.first_fall.Given as goal

abbrev pub invariant-loop-column : goal.invariant-loop-column
invariant-loop-column g l = (i : ℕ) → i < l.column → slice_index l.low i ≤ slice_index l.high i
