use Rattle.bracket_poly.specs.Products.{HasDegree}
use Rattle.worked_values.proofs.reading.poly.Given as goal

abbrev pub invariant-loop-word : goal.invariant-loop-word
invariant-loop-word g l = HasDegree 1000 l.poly.tracked.sum
