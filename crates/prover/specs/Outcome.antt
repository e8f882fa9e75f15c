-- What a call of the program does: it answers, or it tells of a fault after a front of the answer's bytes.
use Rattle.std.specs.Prelude.{◌≡◌, ◌≢◌, ◌⊎◌, ◌≤◌, ℕ, List, [], Option, IfSome, Result, Ok, Err, IfOk}
use Rattle.cay_base.specs.Bytes.{Gains, GainsFront}
use Rattle.cay_base.specs.Causes.{Rose}
use Rattle.proof_text.specs.Lines.{text_of}
use Rattle.proof_text.specs.Writes as lines
use Rattle.proof_text.specs.declared.error.WriteError.{WriteError}
use Rattle.proof_text.specs.declared.error.WriteError.TheVariants as write
use Rattle.prover.specs.declared.mode.Mode.{Mode}
use Rattle.prover.specs.declared.status.Status.{Status}
use Rattle.prover.specs.declared.status.Status.TheVariants.{ReadFault, WriteFault, Memory}
use Rattle.prover.specs.Answer.{Answer}
use Rattle.prover.specs.Modes.{IsAnswer, IsCause, IsModeAnswer, IsInputAnswer, IsDecision, Decides, IsMode}

-- the whole input: what the source had left, where it told it
abbrev pub IsInput : Option (List ℕ) → List ℕ → Type 0
IsInput left input = IfSome left (λ bytes. input ≡ bytes)

-- what the sink held before and after, by the status: all of the answer, a front of it, or nothing
abbrev pub Writes : Answer → Status → Option (List ℕ) → Option (List ℕ) → Type 0
Writes answer ReadFault before after = Gains before after []
Writes answer WriteFault before after = GainsFront before after (text_of answer.lines)
Writes answer Memory before after = GainsFront before after (text_of answer.lines)
Writes answer status before after = (answer.status ≡ status) × Gains before after (text_of answer.lines)

-- ---- what puts an answer's text

-- the status where the answer's lines were put, or where they were not
abbrev pub status_of : Result Status WriteError → Status
status_of (Ok status) = status
status_of (Err write.Write) = WriteFault
status_of (Err write.Memory) = Memory

-- a call puts the lines of an answer of this kind and answers its status, or a front of them and why not all; these
-- statuses mean this
pub record PutsAnswer (IsRight : Answer → Type 0) (Decided : Status → Type 0) (Means : Answer → Type 0)
    (result : Result Status WriteError) (before after : Option (List ℕ)) (faults_before faults_after : ℕ) : Type 0 where
  pub answer : Answer
  pub right : IsRight answer
  pub status : IfOk result (λ status. status ≡ answer.status)
  pub means : IfOk result (λ status. Decided status → Means answer)
  pub writes : lines.Writes before after faults_before faults_after result answer.lines

-- a call puts an answer's text and answers its status, or a write fault or want of memory after a front of the text
abbrev pub IsTold : Answer → Status → Option (List ℕ) → Option (List ℕ) → ℕ → ℕ → Type 0
IsTold answer result before after faults_before faults_after =
    ((result ≡ answer.status) × Gains before after (text_of answer.lines))
    ⊎ ((result ≡ WriteFault) × GainsFront before after (text_of answer.lines) × Rose faults_before faults_after)
    ⊎ ((result ≡ Memory) × GainsFront before after (text_of answer.lines))

-- and the sink's count of faults does not fall, and stays at every status but a write fault
pub record Written (answer : Answer) (result : Status) (before after : Option (List ℕ)) (faults_before faults_after : ℕ) : Type 0 where
  pub told : IsTold answer result before after faults_before faults_after
  pub later : faults_before ≤ faults_after
  pub kept : result ≢ WriteFault → faults_after ≡ faults_before

-- a call of a mode on an input that is not too long
pub record Tells (m : Mode) (input : List ℕ) (result : Status) (before after : Option (List ℕ))
    (faults_before faults_after : ℕ) : Type 0 where
  pub answer : Answer
  pub is_answer : IsModeAnswer m input answer
  pub decides : IsDecision m result → Decides m input answer
  pub written : Written answer result before after faults_before faults_after

-- ---- a whole call

-- what a mode does, where the source told what it had left and the sink what it held
pub record ModeAnswers (m : Mode) (left before after : Option (List ℕ)) (status : Status) : Type 0 where
  pub input : List ℕ
  pub is_input : IsInput left input
  pub answer : Answer
  pub is_answer : IsInputAnswer m input answer
  pub writes : Writes answer status before after
  pub decides : IsDecision m status → Decides m input answer

-- what a call does with these words
pub record Answers (words : List (List ℕ)) (left before after : Option (List ℕ)) (status : Status) : Type 0 where
  pub input : List ℕ
  pub is_input : IsInput left input
  pub answer : Answer
  pub is_answer : IsAnswer words input answer
  pub writes : Writes answer status before after
  pub decides : (m : Mode) → IsMode words m → IsDecision m status → Decides m input answer

-- it ended for a fault or for want of memory
abbrev pub IsBrokenOff : Status → Type 0
IsBrokenOff result = (result ≡ ReadFault) ⊎ (result ≡ WriteFault) ⊎ (result ≡ Memory)

-- it answers this status only where there is a cause of it in the words and the input, and wherever there is one, but for
-- a fault and for want of memory
pub record ComesExactly (words : List (List ℕ)) (left : Option (List ℕ)) (result status : Status) : Type 0 where
  pub input : List ℕ
  pub is_input : IsInput left input
  pub only : result ≡ status → IsCause words input status
  pub wherever : IsCause words input status → (result ≡ status) ⊎ IsBrokenOff result

-- it answers the whole answer, or that memory was wanting
pub record IsComplete (words : List (List ℕ)) (left before after : Option (List ℕ)) (result : Status) : Type 0 where
  pub input : List ℕ
  pub is_input : IsInput left input
  pub answer : Answer
  pub is_answer : IsAnswer words input answer
  pub whole : (result ≡ Memory) ⊎ ((result ≡ answer.status) × Gains before after (text_of answer.lines))
