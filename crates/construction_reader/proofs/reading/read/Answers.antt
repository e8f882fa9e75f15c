use Rattle.std.proofs.Common.{subst, sym}
use Rattle.construction_reader.specs.Printed.{renumbered}
use Rattle.construction_reader.specs.TextOf.{TextOf}
use Rattle.construction_reader.proofs.WholeTexts.{is_found}
use Rattle.construction_reader.proofs.TextAgain.{is_only}
use Rattle.construction_reader.proofs.FaultTexts.{is_cause}
use Rattle.construction_reader.proofs.PrintedLaws.{printed-gives}
use Rattle.construction_reader.proofs.reading.read.Goals as goal

pub returns-clause-found : goal.returns-clause-found
returns-clause-found c = is_found c.args.text.now c.read_lines.result c.read_lines.ensures

pub returns-clause-only : goal.returns-clause-only
returns-clause-only c = is_only c.args.text.now c.read_lines.result c.read_lines.ensures

pub returns-clause-fault : goal.returns-clause-fault
returns-clause-fault c = is_cause c.args.text.now c.read_lines.result c.read_lines.ensures

pub returns-clause-printed : goal.returns-clause-printed
returns-clause-printed c account good same =
    is_only c.args.text.now c.read_lines.result c.read_lines.ensures (renumbered account)
    (subst (λ text. TextOf text (renumbered account)) (sym same) (printed-gives account good))
