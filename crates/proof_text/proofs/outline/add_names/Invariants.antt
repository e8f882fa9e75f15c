use Rattle.std.proofs.Common.{◌≡◌, ◌++◌, take}
use Rattle.proof_text.specs.Lines.{behind_spaces}
use Rattle.proof_text.proofs.outline.add_names.Given as goal

abbrev pub invariant-loop-name : goal.invariant-loop-name
invariant-loop-name l = l.line.items ≡ l.fn.line.items ++ behind_spaces (take l.name-index l.names)
