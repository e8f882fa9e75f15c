use Rattle.std.proofs.Common.{◌≡◌, length}
use Rattle.bracket_poly.specs.Arena.{terms_at}
use Rattle.bracket_poly.proofs.arena_terms.next_term.Given as goal

abbrev pub invariant-loop-headed : goal.invariant-loop-headed
invariant-loop-headed g l = terms_at l.entries.entries l.fn.keys ≡ terms_at l.entries.entries l.keys

abbrev pub decreases-loop-headed : goal.decreases-loop-headed
decreases-loop-headed g l = length l.keys
