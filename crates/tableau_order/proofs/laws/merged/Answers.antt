use Rattle.tableau_order.proofs.MergedRows.{keeps_order, smaller_pairs, keeps_points}
use Rattle.tableau_order.proofs.laws.merged.Goals as goal

pub returns-clause-order : goal.returns-clause-order
returns-clause-order c = keeps_order

pub returns-clause-smaller : goal.returns-clause-smaller
returns-clause-smaller c = smaller_pairs

pub returns-clause-points : goal.returns-clause-points
returns-clause-points c = keeps_points
