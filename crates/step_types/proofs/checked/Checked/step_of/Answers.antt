use Rattle.construction_reader.specs.Seen.{account}
use Rattle.step_types.proofs.StepLaws.{step_exactly}
use Rattle.step_types.proofs.checked.Checked.step_of.Goals as goal

pub returns-clause-made : goal.returns-clause-made
returns-clause-made c =
    rw c.step_found.ensures.step (step_exactly (account c.args.self.now) c.args.name.now c.step_found.ensures.good)
