-- The number with which the program ends, by its status.
use Rattle.std.specs.Prelude.{ℕ}
use Rattle.prover.specs.declared.status.Status.{Status}
use Rattle.prover.specs.declared.status.Status.TheVariants.{Proved, Done, Refuted, Usage, TextRefused, Stopped}
use Rattle.prover.specs.declared.status.Status.TheVariants.{ReadFault, WriteFault, Memory, ProofRefused, Unlike}

-- the number of a status
abbrev pub number_of : Status → ℕ
number_of Proved = 0
number_of Done = 0
number_of Refuted = 1
number_of Usage = 2
number_of TextRefused = 3
number_of Stopped = 4
number_of ReadFault = 5
number_of WriteFault = 6
number_of Memory = 7
number_of ProofRefused = 8
number_of Unlike = 9
