-- Bytes are the text of one proof or have one fault, and not both.
use Rattle.std.proofs.Common.{◌≡◌, ℕ, List, Result, Ok, sym, ◌∙◌, inl, inr, ◌⊎◌}
use Rattle.step_types.specs.declared.names.Names.{Names}
use Rattle.proof_text.specs.declared.fault.ProofFault.{ProofFault}
use Rattle.proof_text.specs.Told.{Told, TextOf}
use Rattle.proof_text.specs.Faults.{IsFault}
use Rattle.proof_text.specs.Outcome.{AreOfText}
use Rattle.proof_text.specs.Readings.{read_of}
use Rattle.proof_text.proofs.FaultLaws as faults
use Rattle.proof_text.proofs.ReadLaws.{result_cases, read_refused}
use Rattle.proof_text.proofs.TermLaws.{knows_names}
use Rattle.proof_text.proofs.MoveLaws.{Knows}
use Rattle.proof_text.proofs.FoundTexts.{read_text}
use Rattle.proof_text.proofs.TextAgain.{read_again}

pub knows : (names : Names) (steps : List ℕ) → AreOfText names steps → Knows names steps
knows names steps given = record {
  rank = given.rank;
  names_known = knows_names names given.names_good;
  few_steps = given.steps_good.few;
  steps_within = given.steps_good.within;
}

pub one_proof : (names : Names) (steps bytes : List ℕ) (p q : Told) → AreOfText names steps → TextOf names steps bytes p
    → TextOf names steps bytes q → p ≡ q
one_proof names steps bytes p q given this that =
    let known = knows names steps given in
    let same : ◌≡◌ {A = Result Told ProofFault} (Ok p) (Ok q) =
    sym (read_again names steps known bytes p this) ∙ read_again names steps known bytes q that in
    cc

pub one_fault : (names : Names) (steps bytes : List ℕ) (fault other : ProofFault) → AreOfText names steps
    → IsFault names steps bytes fault → IsFault names steps bytes other → fault ≡ other
one_fault names steps bytes fault other given this that = faults.one_fault names steps bytes fault other given.rank.0 this that

pub not_both : (names : Names) (steps bytes : List ℕ) (p : Told) (fault : ProofFault) → AreOfText names steps
    → TextOf names steps bytes p → IsFault names steps bytes fault → ⊥
not_both names steps bytes p fault given text faulty =
    let read = read_again names steps (knows names steps given) bytes p text in
    let refused = faults.fault_read names steps bytes fault given.rank.0 faulty in
    cc

pub either : (names : Names) (steps bytes : List ℕ) → AreOfText names steps
    → ((p : Told) × TextOf names steps bytes p) ⊎ ((fault : ProofFault) × IsFault names steps bytes fault)
either names steps bytes given = elim (result_cases (read_of names steps bytes)) [
  | inl read ↦ inl (read.0, read_text names steps bytes read.0 (knows names steps given) read.1)
  | inr refused ↦ inr (refused.0, read_refused names steps bytes refused.0 given.rank.0 refused.1)
]
