use Rattle.bracket_terms.specs.Joins.{points_of}
use Rattle.shuffle_meet.proofs.Parts.{IsFront}
use Rattle.shuffle_meet.proofs.points.part.Given as goal

abbrev pub invariant-loop-place : goal.invariant-loop-place
invariant-loop-place l = IsFront l.places (points_of l.extensor) l.place l.size l.points
