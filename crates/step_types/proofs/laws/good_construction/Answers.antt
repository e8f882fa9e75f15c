use Rattle.step_types.proofs.GoodLaws.{faultless, all_objects}
use Rattle.step_types.proofs.SizeLaws.{all_sized}
use Rattle.step_types.proofs.laws.good_construction.Goals as goal

pub returns-clause-statements : goal.returns-clause-statements
returns-clause-statements c = faultless

pub returns-clause-objects : goal.returns-clause-objects
returns-clause-objects c = all_objects

pub returns-clause-sizes : goal.returns-clause-sizes
returns-clause-sizes c = all_sized
