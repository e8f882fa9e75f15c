use Rattle.shuffle_meet.proofs.Sifting.{Sifted}
use Rattle.shuffle_meet.proofs.starts.Starts.finish.Given as goal

abbrev pub invariant-loop-extensor : goal.invariant-loop-extensor
invariant-loop-extensor g l = Sifted l.fn.self.polys.entries l.yielded l.extensor-iterator l.entries.items
