-- Numbers put in for variables.
use Rattle.coordinate_model.proofs.Putting.{put_in-none, put_in-and_then, put_in-turn, value_at-put}
use Rattle.coordinate_model.proofs.laws.numbers.Goals as goal

pub returns-clause-none : goal.returns-clause-none
returns-clause-none c = put_in-none

pub returns-clause-both : goal.returns-clause-both
returns-clause-both c = put_in-and_then

pub returns-clause-in_turn : goal.returns-clause-in_turn
returns-clause-in_turn c = put_in-turn

pub returns-clause-value : goal.returns-clause-value
returns-clause-value c = value_at-put
