use Rattle.std.proofs.Common.{ℕ, ◌<◌, List, get_or}
use Rattle.coordinate_model.specs.Key.{IsRow}
use Rattle.bracket_terms.proofs.laws.brackets.Given as goal

abbrev pub invariant-loop-row : goal.invariant-loop-row
invariant-loop-row g l = (k : ℕ) → k < l.row-index → (other : List ℕ) → IsRow g.row.D (get_or l.rows k other)
