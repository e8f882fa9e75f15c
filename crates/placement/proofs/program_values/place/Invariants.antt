use Rattle.std.proofs.Common.{map}
use Rattle.placement.specs.Ready.{AreSoFar}
use Rattle.placement.proofs.program_values.place.Given as goal

abbrev pub invariant-loop-n : goal.invariant-loop-n
invariant-loop-n l = AreSoFar l.program (map (λ v. v.items) l.points) l.params l.n l.objects.items
