use Rattle.construction_reader.specs.Said.{sentences_of}
use Rattle.construction_reader.proofs.ConclusionLaws as laws
use Rattle.construction_reader.proofs.laws.one_conclusion.Goals as goal

pub returns-clause-one : goal.returns-clause-one
returns-clause-one c account given = laws.one_conclusion (sentences_of account.rows) given.good.ends

pub returns-clause-last : goal.returns-clause-last
returns-clause-last c = laws.ends_once
