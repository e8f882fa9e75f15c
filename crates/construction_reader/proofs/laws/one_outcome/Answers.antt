use Rattle.construction_reader.proofs.TextAgain.{text_of-unique}
use Rattle.construction_reader.proofs.FaultTexts as faults
use Rattle.construction_reader.proofs.laws.one_outcome.Goals as goal

pub returns-clause-one_construction : goal.returns-clause-one_construction
returns-clause-one_construction c = text_of-unique

pub returns-clause-one_fault : goal.returns-clause-one_fault
returns-clause-one_fault c = faults.one_fault

pub returns-clause-not_both : goal.returns-clause-not_both
returns-clause-not_both c = faults.never_both

pub returns-clause-either : goal.returns-clause-either
returns-clause-either c = faults.either
