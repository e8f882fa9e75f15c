use Rattle.contraction.proofs.PassEnds.{contraction_ends_alike}
use Rattle.contraction.proofs.PassRuns.{contraction_contracts}
use Rattle.contraction.proofs.laws.runs.Goals as goal

pub returns-clause-contracts : goal.returns-clause-contracts
returns-clause-contracts c = contraction_contracts

pub returns-clause-ends : goal.returns-clause-ends
returns-clause-ends c = contraction_ends_alike
