use Rattle.construction_reader.proofs.PrintedLaws.{printed-gives}
use Rattle.construction_reader.proofs.laws.printed_text.Goals as goal

pub returns : goal.returns
returns c = printed-gives
