use Rattle.std.proofs.Common.{◌≡◌, ◌++◌, map}
use Rattle.contraction.proofs.search.next_pass.Given as goal

abbrev pub invariant-loop-term : goal.invariant-loop-term
invariant-loop-term g l = map (λ t. (t.0.now, t.1)) l.terms.items ++ l.term-iterator ≡ l.poly.tracked.sum.terms
