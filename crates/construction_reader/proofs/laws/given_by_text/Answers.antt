use Rattle.construction_reader.proofs.GivenLaws.{text_of-given}
use Rattle.construction_reader.proofs.GivenTexts.{given_text}
use Rattle.construction_reader.proofs.laws.given_by_text.Goals as goal

pub returns-clause-given : goal.returns-clause-given
returns-clause-given c = text_of-given

pub returns-clause-some_text : goal.returns-clause-some_text
returns-clause-some_text c = given_text
