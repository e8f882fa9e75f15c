use Rattle.bracket_poly.proofs.ArenaCopies.{LaidIn}
use Rattle.bracket_poly.proofs.arena_loading.ArenaTable+D.load.Given as goal

abbrev pub invariant-loop-key : goal.invariant-loop-key
invariant-loop-key g l = LaidIn l.poly.tracked l.met.entries l.store l.key-iterator
