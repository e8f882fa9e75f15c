-- What a run that writes its sections as they end does: to the sink, and in its answer.
use Rattle.std.specs.Prelude.{◌≡◌, ⊤, ℕ, List, flat_map, Some, None, Result, Ok, Err}
use Rattle.std.specs.List.{AllByRecursion}
use Rattle.coordinate_model.specs.BracketPolynomial.{IsNormal, value}
use Rattle.bracket_poly.specs.Sections.{Worked}
use Rattle.cayley_terms.specs.Kept.{polynomial_of}
use Rattle.cayley_terms.specs.declared.program.Program.{Program}
use Rattle.proof_text.specs.Proofs.{object_lines, IsSectionNamed}
use Rattle.proof_text.specs.declared.error.WriteError.{WriteError}
use Rattle.proof_text.specs.declared.error.WriteError.TheVariants as write_error
use Rattle.step_types.specs.declared.names.Names.{Names}
use Rattle.cayley_run.specs.Results.{stop_of}
use Rattle.cayley_run.specs.RunLaws.{LastEnds}
use Rattle.cayley_run.specs.Runs.{Log, turns_of}
use Rattle.cayley_run.specs.declared.answer.IntoError.{IntoError}
use Rattle.cayley_run.specs.declared.answer.IntoError.TheVariants.{Stop, Write, Memory}
use Rattle.cayley_run.specs.declared.answer.Summary.{Summary}

-- ---- the sink

-- the lines of a run: those of its objects
abbrev pub run_lines : Names → Log → List (List ℕ)
run_lines names log = flat_map (object_lines names) log.objects

-- all points and parameters of the objects have names
abbrev pub AreNamed : Names → List Worked → Type 0
AreNamed names objects = AllByRecursion (λ o. AllByRecursion (IsSectionNamed names) o.sections) objects

-- whether the lines up to the end or the stop were put
abbrev pub written_of : {d : ℕ} → Result (Summary d) IntoError → Result ⊤ WriteError
written_of (Ok summary) = Ok tt
written_of (Err (Stop kind)) = Ok tt
written_of (Err Write) = Err write_error.Write
written_of (Err Memory) = Err write_error.Memory

-- ---- the answer

-- nothing stopped the run; it made so many turns, and the last section ends with this polynomial, the normal one whose
-- value is the conclusion's
pub record IsSummary {d : ℕ} (s : Summary d) (p : Program) (log : Log) : Type 0 where
  pub no_stop : log.stop ≡ None
  pub turns : s.turns ≡ turns_of log
  pub ends : LastEnds log s.end.tracked.sum
  pub normal : IsNormal p.rank 64 s.end.tracked.sum
  pub same_value : value s.end.tracked.sum ≡ polynomial_of p

-- the answer sums the run up, or tells its stop; where writing failed or memory lacked it tells nothing
abbrev pub AnswersSummary : {d : ℕ} → Result (Summary d) IntoError → Program → Log → Type 0
AnswersSummary (Ok s) p log = IsSummary s p log
AnswersSummary (Err (Stop kind)) p log = log.stop ≡ Some (stop_of kind)
AnswersSummary (Err Write) p log = ⊤
AnswersSummary (Err Memory) p log = ⊤
