use Rattle.straightening.proofs.TurnLaws.{turns_where_not_normal, turn_is_at_greatest, rewrites_greatest}
use Rattle.straightening.proofs.laws.turns.Goals as goal

pub returns-clause-where_not_normal : goal.returns-clause-where_not_normal
returns-clause-where_not_normal c = turns_where_not_normal

pub returns-clause-greatest : goal.returns-clause-greatest
returns-clause-greatest c = rewrites_greatest

pub returns-clause-at : goal.returns-clause-at
returns-clause-at c = turn_is_at_greatest
