use Rattle.construction_reader.specs.Said.{object}
use Rattle.cayley_terms.proofs.ObjectSteps.{parts}
use Rattle.cayley_terms.proofs.lowering.Lowering.+object.Given as goal

abbrev pub decreases-object : goal.decreases-object
decreases-object l = parts (object l.arg.now)
