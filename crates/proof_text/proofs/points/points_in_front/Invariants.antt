use Rattle.std.proofs.Common.{◌≡◌, ◌-◌, ◌++◌, take, map, replicate}
use Rattle.proof_text.specs.Meant.{place_of}
use Rattle.proof_text.proofs.points.points_in_front.Given as goal

abbrev pub invariant-loop-i : goal.invariant-loop-i
invariant-loop-i g l = l.points ≡ map (place_of l.names) (take l.i l.words) ++ replicate (g.row.N - l.i) 0
