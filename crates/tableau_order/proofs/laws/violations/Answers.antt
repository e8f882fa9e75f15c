use Rattle.tableau_order.proofs.Splits.{splits_at_fall, splits_at_violation}
use Rattle.tableau_order.proofs.laws.violations.Goals as goal

pub returns-clause-rows : goal.returns-clause-rows
returns-clause-rows c = splits_at_fall

pub returns-clause-tableaux : goal.returns-clause-tableaux
returns-clause-tableaux c = splits_at_violation
