use Rattle.construction_reader.specs.Said.{sentences_of}
use Rattle.construction_reader.specs.Seen.{account}
use Rattle.construction_reader.proofs.ConclusionLaws.{one_conclusion}
use Rattle.worked_values.proofs.texts.show_lower.Goals as goal

pub lower-requires : goal.lower-requires
lower-requires c =
    record { one = one_conclusion (sentences_of (account c.in_ok-checked.checked).rows) c.in_ok-checked.checked.given.good.ends }
