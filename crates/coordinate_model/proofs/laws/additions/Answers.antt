-- The terms that a use adds are its multiple.
use Rattle.coordinate_model.proofs.StartLaws.{additions_of_multiple}
use Rattle.coordinate_model.proofs.laws.additions.Goals as goal

pub returns : goal.returns
returns c = additions_of_multiple
