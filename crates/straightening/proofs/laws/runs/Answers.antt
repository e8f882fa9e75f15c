use Rattle.straightening.proofs.RunLemmas.{run_keeps_value, run_ends_well, run_keeps_classes, no_turn_of_normal}
use Rattle.straightening.proofs.laws.runs.Goals as goal

pub returns-clause-value : goal.returns-clause-value
returns-clause-value c = run_keeps_value

pub returns-clause-ends : goal.returns-clause-ends
returns-clause-ends c = run_ends_well

pub returns-clause-classes : goal.returns-clause-classes
returns-clause-classes c = run_keeps_classes

pub returns-clause-normal : goal.returns-clause-normal
returns-clause-normal c = no_turn_of_normal
