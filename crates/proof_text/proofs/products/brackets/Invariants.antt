use Rattle.std.proofs.Common.{◌≡◌, take}
use Rattle.proof_text.proofs.products.brackets.Given as goal

abbrev pub invariant-loop-row : goal.invariant-loop-row
invariant-loop-row g l = l.brackets.items ≡ take l.row-index l.rows
