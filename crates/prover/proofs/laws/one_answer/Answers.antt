use Rattle.prover.proofs.AnswerLaws as answers
use Rattle.prover.proofs.laws.one_answer.Goals as goal

pub returns-clause-some : goal.returns-clause-some
returns-clause-some c = answers.some_answer

pub returns-clause-unique : goal.returns-clause-unique
returns-clause-unique c = answers.one_answer
