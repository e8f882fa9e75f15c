-- The value of a conclusion is the conclusion of the values.
use Rattle.cayley_terms.proofs.Images.{conclusion_at_placement, conclusion_put_in}
use Rattle.cayley_terms.proofs.laws.conclusions.Goals as goal

pub returns-clause-placed : goal.returns-clause-placed
returns-clause-placed c = conclusion_at_placement

pub returns-clause-put_in : goal.returns-clause-put_in
returns-clause-put_in c = conclusion_put_in
