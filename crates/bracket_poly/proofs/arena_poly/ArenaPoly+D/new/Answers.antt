use Rattle.std.proofs.Common.{ap}
use Rattle.bracket_poly.specs.Tracked.{Tracked}
use Rattle.bracket_poly.proofs.ArenaOrder.{all_of_none}
use Rattle.bracket_poly.proofs.arena_poly.ArenaPoly+D.new.Goals as goal

pub invariant_of-result : goal.invariant_of-result
invariant_of-result g c = all_of_none _ _ (ap (λ (p : Tracked). p.met) c.new.ensures)
