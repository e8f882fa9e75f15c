-- What `prove` wrote at a verdict is a proof within the limits of its text, and is accepted: the laws.
use Rattle.std.specs.Prelude.{◌≡◌, ℕ, ◌-◌, ◌≤◌, ◌==◌, Bool, if◌then◌else◌, List, [], ◌∷◌, ◌++◌, length, codes, slice_index, None}
use Rattle.std.specs.List.{AllByRecursion}
use Rattle.construction_reader.specs.Said.{Account}
use Rattle.cayley_terms.specs.Kept.{IsNamed}
use Rattle.cayley_terms.specs.declared.program.Program.{Program}
use Rattle.cayley_run.specs.Runs.{Log, run_of}
use Rattle.cayley_run.specs.declared.answer.Options.{Options}
use Rattle.log_checker.specs.Accepted.{IsProofAccepted}
use Rattle.log_checker.specs.Objects.{program_steps}
use Rattle.proof_text.specs.Lines.{text_of}
use Rattle.proof_text.specs.Told.{Told, IsProof}
use Rattle.step_types.specs.declared.names.Names.{Names}
use Rattle.prover.specs.Answer.{Answer, IsVerdict}
use Rattle.prover.specs.Checked.{IsProofText, IsAcceptedFor, claims_read}
use Rattle.prover.specs.Cuts.{IsCut}
use Rattle.prover.specs.Modes.{IsInputAnswer}
use Rattle.prover.specs.Modes.Check.{accepted}
use Rattle.prover.specs.Modes.Prove.{IsProveAnswer, verdict}
use Rattle.prover.specs.declared.mode.Mode.TheVariants as mode
use Rattle.prover.specs.Parts.{Gives}
use Rattle.prover.specs.Runs.{ends_in_zero}

-- ---- runs

-- what a run tells: its objects, and whether they end with zero
abbrev pub told_by : Log → Told
told_by log = record { objects = log.objects; proved = ends_in_zero log.objects }

-- where nothing stopped the run of a program, what it wrote is accepted for the program
abbrev pub RunIsAccepted : Type 0
RunIsAccepted =
    (options : Options) (p : Program) → (run_of options p).stop ≡ None
    → IsProofAccepted p (claims_read (told_by (run_of options p)))

-- and it is a proof within the limits of a text, by the names of its points and parameters
abbrev pub RunIsProof : Type 0
RunIsProof =
    (options : Options) (p : Program) (names : Names) → names.rank ≡ p.rank → AllByRecursion (IsNamed names) p.instrs
    → (run_of options p).stop ≡ None → IsProof names (program_steps p) (told_by (run_of options p))

-- ---- answers

-- the text with an LF behind its last line
abbrev pub with_feed : List ℕ → List ℕ
with_feed text = if slice_index text (length text - 1) == 10 then text else text ++ 10 ∷ []

-- behind the text these lines are cut off again, and are the text of a proof that is accepted for the construction,
-- with the verdict of the answer
pub record IsAcceptedBehind (text : List ℕ) (answer : Answer) : Type 0 where
  pub account : Account
  pub gives : Gives text account
  pub cut : IsCut (codes "proof 1") (text ++ text_of answer.lines) text (text_of answer.lines)
  pub told : Told
  pub is_text : IsProofText account (text_of answer.lines) told
  pub accepted : IsAcceptedFor account told
  pub same_verdict : answer.status ≡ verdict told.proved

-- what `prove` answers at a verdict is accepted behind its text
abbrev pub WrittenIsAccepted : Type 0
WrittenIsAccepted =
    (options : Options) (text : List ℕ) (answer : Answer) → IsProveAnswer options text answer → IsVerdict answer.status
    → IsAcceptedBehind (with_feed text) answer

-- so within the two limits of length `check` accepts it there, with the same verdict
abbrev pub WrittenIsChecked : Type 0
WrittenIsChecked =
    (options : Options) (text : List ℕ) (answer : Answer) → IsProveAnswer options text answer → IsVerdict answer.status
    → length (with_feed text) ≤ 1048576 → length (with_feed text ++ text_of answer.lines) ≤ 1073741824
    → (proved : Bool) × (answer.status ≡ verdict proved)
    × IsInputAnswer mode.Check (with_feed text ++ text_of answer.lines) (accepted proved)
