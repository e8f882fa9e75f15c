-- The modes: for each its words, what it reads, its answer, and what its verdict means.
use Rattle.std.specs.Prelude.{◌≡◌, ◌<◌, ◌≤◌, ◌⊎◌, ℕ, List, [], ◌∷◌, ◌++◌, codes, decimal, Option, Some, None}
use Rattle.std.specs.Prelude.{IfSome, length}
use Rattle.cayley_run.specs.declared.answer.Options.{Options}
use Rattle.prover.specs.declared.mode.Mode.{Mode}
use Rattle.prover.specs.declared.mode.Mode.TheVariants as mode
use Rattle.prover.specs.declared.status.Status.{Status}
use Rattle.prover.specs.declared.status.Status.TheVariants.{Done, Usage, TextRefused, Stopped, ProofRefused, Unlike}
use Rattle.prover.specs.Answer.{Answer, IsVerdict, usage, refused}
use Rattle.prover.specs.Words.{GiveOptions}
use Rattle.prover.specs.Modes.Prove.{IsProveAnswer, IsProveCause, ProveDecides}
use Rattle.prover.specs.Modes.Check.{IsCheckAnswer, IsCheckCause, CheckDecides}
use Rattle.prover.specs.Modes.Same.{IsSameAnswer, IsSameCause, SameDecides}
use Rattle.prover.specs.Modes.Sample.{sample_options, sample_answer, IsSampleCause, SampleDecides}
pub mod Prove
pub mod Check
pub mod Same
pub mod Sample

-- ---- the table of modes

-- the words with which a mode begins
abbrev pub front_words : Mode → List (List ℕ)
front_words (mode.Prove options) = codes "prove" ∷ []
front_words mode.Check = codes "check" ∷ []
front_words (mode.Same options) = codes "same" ∷ []
front_words (mode.Sample number budget) = codes "sample" ∷ decimal number ∷ []

-- the words are options that it has, and give its own
abbrev pub HasOptions : Mode → List (List ℕ) → Type 0
HasOptions (mode.Prove options) words = GiveOptions words options
HasOptions mode.Check words = words ≡ []
HasOptions (mode.Same options) words = GiveOptions words options
HasOptions (mode.Sample number budget) words = GiveOptions words (sample_options budget)

-- its number is one that it takes
abbrev pub HasNumber : Mode → Type 0
HasNumber (mode.Prove options) = Unit {0}
HasNumber mode.Check = Unit {0}
HasNumber (mode.Same options) = Unit {0}
HasNumber (mode.Sample number budget) = (1 ≤ number) × (number ≤ 12)

-- the most bytes that it reads, where it reads anything
abbrev pub longest_input : Mode → Option ℕ
longest_input (mode.Prove options) = Some 1048576
longest_input mode.Check = Some 1073741824
longest_input (mode.Same options) = Some 2097216
longest_input (mode.Sample number budget) = None

-- the statuses that say that its input was read to the end
abbrev pub IsReadToEnd : Mode → Status → Type 0
IsReadToEnd (mode.Prove options) status = IsVerdict status ⊎ (status ≡ Stopped)
IsReadToEnd mode.Check status = IsVerdict status ⊎ (status ≡ ProofRefused)
IsReadToEnd (mode.Same options) status = IsVerdict status ⊎ (status ≡ Stopped) ⊎ (status ≡ Unlike)
IsReadToEnd (mode.Sample number budget) status = ⊥

-- the answer to an input that is not too long
abbrev pub IsModeAnswer : Mode → List ℕ → Answer → Type 0
IsModeAnswer (mode.Prove options) input answer = IsProveAnswer options input answer
IsModeAnswer mode.Check input answer = IsCheckAnswer input answer
IsModeAnswer (mode.Same options) input answer = IsSameAnswer options input answer
IsModeAnswer (mode.Sample number budget) input answer = answer ≡ sample_answer number budget

-- why such an input gives it this status
abbrev pub IsModeCause : Mode → List ℕ → Status → Type 0
IsModeCause (mode.Prove options) input status = IsProveCause options input status
IsModeCause mode.Check input status = IsCheckCause input status
IsModeCause (mode.Same options) input status = IsSameCause options input status
IsModeCause (mode.Sample number budget) input status = IsSampleCause number budget status

-- the statuses with which it decides, and what that means
abbrev pub IsDecision : Mode → Status → Type 0
IsDecision (mode.Prove options) status = IsVerdict status
IsDecision mode.Check status = IsVerdict status
IsDecision (mode.Same options) status = IsVerdict status
IsDecision (mode.Sample number budget) status = status ≡ Done

abbrev pub Decides : Mode → List ℕ → Answer → Type 0
Decides (mode.Prove options) input answer = ProveDecides input answer
Decides mode.Check input answer = CheckDecides input answer
Decides (mode.Same options) input answer = SameDecides input answer
Decides (mode.Sample number budget) input answer = SampleDecides number answer

-- ---- words

-- the words are the mode's own, and then options that it has, in any order, each kind at most once
pub record IsMode (words : List (List ℕ)) (m : Mode) : Type 0 where
  pub rest : List (List ℕ)
  pub front : words ≡ front_words m ++ rest
  pub options : HasOptions m rest
  pub number : HasNumber m

-- the words are in no list
abbrev pub IsUsage : List (List ℕ) → Type 0
IsUsage words = (m : Mode) → IsMode words m → ⊥

-- the words say that nothing is read
abbrev pub IsUnread : List (List ℕ) → Type 0
IsUnread words = IsUsage words ⊎ ((m : Mode) × IsMode words m × (longest_input m ≡ None))

-- ---- the whole input

-- the input is longer than the mode takes
abbrev pub IsTooLong : Mode → List ℕ → Type 0
IsTooLong m input = (longest : ℕ) × (longest_input m ≡ Some longest) × (longest < length input)

-- it is not
abbrev pub IsShort : Mode → List ℕ → Type 0
IsShort m input = IfSome (longest_input m) (λ longest. length input ≤ longest)

-- the answer of a mode to the whole input
abbrev pub IsInputAnswer : Mode → List ℕ → Answer → Type 0
IsInputAnswer m input answer =
    (IsTooLong m input × (answer ≡ refused (codes "long"))) ⊎ (IsShort m input × IsModeAnswer m input answer)

-- the answer to the words and the whole input
abbrev pub IsAnswer : List (List ℕ) → List ℕ → Answer → Type 0
IsAnswer words input answer =
    (IsUsage words × (answer ≡ usage)) ⊎ ((m : Mode) × IsMode words m × IsInputAnswer m input answer)

-- ---- causes

-- why an input gives a mode this status
abbrev pub IsInputCause : Mode → List ℕ → Status → Type 0
IsInputCause m input status =
    (IsTooLong m input × (status ≡ TextRefused)) ⊎ (IsShort m input × IsModeCause m input status)

-- why the words and the whole input have this status
abbrev pub IsCause : List (List ℕ) → List ℕ → Status → Type 0
IsCause words input status =
    (IsUsage words × (status ≡ Usage)) ⊎ ((m : Mode) × IsMode words m × IsInputCause m input status)

-- the status of an answer is the one that has a cause
abbrev pub StatusHasCause : Type 0
StatusHasCause =
    (words : List (List ℕ)) (input : List ℕ) (a : Answer) (status : Status) → IsAnswer words input a
    → (a.status ≡ status → IsCause words input status) × (IsCause words input status → a.status ≡ status)
