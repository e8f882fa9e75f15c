use Rattle.prover.proofs.CutLaws as cuts
use Rattle.prover.proofs.laws.one_cut.Goals as goal

pub returns-clause-some : goal.returns-clause-some
returns-clause-some c = λ separator input is. cuts.some_cut separator is input

pub returns-clause-unique : goal.returns-clause-unique
returns-clause-unique c = λ separator input a r b s is. cuts.one_cut separator is input a r b s
