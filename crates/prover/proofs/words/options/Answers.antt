use Rattle.prover.proofs.WordLists.{at_none}
use Rattle.prover.proofs.Choices.{gives_none}
use Rattle.prover.proofs.words.options.Goals as goal

pub returns-in_err-chosen : goal.returns-in_err-chosen
returns-in_err-chosen c =
    at_none _ _ c.from_residual.result c.from_residual.ensures (gives_none _ c.in_err-chosen.ensures)
