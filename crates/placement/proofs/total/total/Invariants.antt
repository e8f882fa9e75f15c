use Rattle.std.proofs.Common.{◌≡◌, Some, drop}
use Rattle.placement.specs.Numbers.{total_behind, total_of}
use Rattle.placement.proofs.total.total.Given as goal

abbrev pub invariant-loop-term : goal.invariant-loop-term
invariant-loop-term l = total_behind l.a l.b (Some l.sum) (drop l.term-index l.terms) ≡ total_of l.a l.b l.terms
