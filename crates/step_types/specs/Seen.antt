-- What the code keeps while it checks.
use Rattle.step_types.specs.declared.progress.Progress.{Progress}
use Rattle.step_types.specs.Known.{Known}

-- what is known so far
abbrev pub known : Progress → Known
known p = record { made = p.made; params = p.params.items }
