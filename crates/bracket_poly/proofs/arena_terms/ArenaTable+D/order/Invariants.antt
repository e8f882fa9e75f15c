use Rattle.bracket_poly.proofs.ArenaOrder.{Reaches}
use Rattle.bracket_poly.proofs.arena_terms.ArenaTable+D.order.Given as goal

abbrev pub invariant-loop-key : goal.invariant-loop-key
invariant-loop-key g l = Reaches l.self.tracked.met l.order l.key-iterator
