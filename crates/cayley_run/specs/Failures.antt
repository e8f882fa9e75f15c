-- Why lines were not put.
use Rattle.proof_text.specs.declared.error.WriteError.{WriteError}
use Rattle.proof_text.specs.declared.error.WriteError.TheVariants as write_error
use Rattle.cayley_run.specs.declared.answer.IntoError.{IntoError}
use Rattle.cayley_run.specs.declared.answer.IntoError.TheVariants.{Write, Memory}

-- the same failure as the error of a run
abbrev pub failure_of : WriteError → IntoError
failure_of write_error.Write = Write
failure_of write_error.Memory = Memory
