use Rattle.split_tables.proofs.ChoiceLaws.{lists_each_choice}
use Rattle.split_tables.proofs.laws.splits.Goals as goal

pub returns : goal.returns
returns c = lists_each_choice
