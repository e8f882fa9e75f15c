use Rattle.std.proofs.Common.{◌≡◌, take, map}
use Rattle.proof_text.specs.Meant.{points_meant}
use Rattle.proof_text.specs.Seen.{row_seen}
use Rattle.proof_text.proofs.products.rows_meant.Given as goal

abbrev pub invariant-loop-row : goal.invariant-loop-row
invariant-loop-row g l = l.points.items ≡ map (points_meant l.names) (map row_seen (take l.row-index l.rows))
