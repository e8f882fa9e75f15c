use Rattle.std.proofs.Common.{◌≡◌, ◌++◌}
use Rattle.bracket_poly.proofs.copying.copied_terms.Given as goal

abbrev pub invariant-loop-key : goal.invariant-loop-key
invariant-loop-key g l = l.terms.entries ≡ l.copy.entries ++ l.key-iterator
