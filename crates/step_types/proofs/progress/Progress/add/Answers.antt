use Rattle.construction_reader.specs.Said.{sentence}
use Rattle.step_types.specs.Seen.{known}
use Rattle.step_types.proofs.NewNames.{once_new}
use Rattle.step_types.proofs.progress.Progress.add.Goals as goal

pub add_objects-requires-clause-new_names : goal.add_objects-requires-clause-new_names
add_objects-requires-clause-new_names c =
    once_new (known c.args.self.now) (sentence c.args.body.now) c.requires.once
