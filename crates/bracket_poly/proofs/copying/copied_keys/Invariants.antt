use Rattle.std.proofs.Common.{◌≡◌, ◌++◌}
use Rattle.bracket_poly.proofs.copying.copied_keys.Given as goal

abbrev pub invariant-loop-key : goal.invariant-loop-key
invariant-loop-key g l = l.keys.keys ≡ l.copy.keys ++ l.key-iterator
