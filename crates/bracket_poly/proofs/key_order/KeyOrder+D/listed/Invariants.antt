use Rattle.std.proofs.Common.{◌≡◌, ◌++◌}
use Rattle.bracket_poly.proofs.key_order.KeyOrder+D.listed.Given as goal

abbrev pub invariant-loop-key : goal.invariant-loop-key
invariant-loop-key g l = l.list.items ++ l.key-iterator ≡ l.self
