-- The mode that checks the proof behind a text, apart from how it was made.
use Rattle.std.specs.Prelude.{◌≡◌, ◌≢◌, ◌<◌, ◌≤◌, ◌⊎◌, ℕ, pos, Bool, List, [], ◌∷◌, ◌++◌, length, codes, Some}
use Rattle.coordinate_model.specs.BracketPolynomial.{BracketPolynomial, IsNormal, value}
use Rattle.coordinate_model.specs.Placement.{Placement, value_at}
use Rattle.coordinate_model.specs.Polynomial.{Polynomials}
use Rattle.construction_reader.specs.Said.{Account}
use Rattle.step_types.specs.Checks.{names_of}
use Rattle.step_types.specs.declared.names.Names.{Names}
use Rattle.cayley_terms.specs.declared.program.Program.{Program}
use Rattle.cayley_terms.specs.Meaning.{conclusion_polynomial}
use Rattle.proof_text.specs.declared.fault.ProofFault.{ProofFault}
use Rattle.proof_text.specs.Forms.{verdict_word}
use Rattle.proof_text.specs.Lines.{spaced}
use Rattle.proof_text.specs.Told.{Told}
use Rattle.log_checker.specs.declared.refusal.ProofRefusal.{ProofRefusal}
use Rattle.log_checker.specs.Accepted.{IsProofAccepted}
use Rattle.log_checker.specs.ProofLaws.{Concludes}
use Rattle.log_checker.specs.ProofRefused.{IsProofRefused}
use Rattle.prover.specs.declared.parts.Fault.{Fault}
use Rattle.prover.specs.declared.status.Status.{Status}
use Rattle.prover.specs.declared.status.Status.TheVariants.{Proved, Refuted, TextRefused, ProofRefused}
use Rattle.prover.specs.Answer.{Answer, refused}
use Rattle.prover.specs.Checked.{claims_read, IsProofText, IsProofFault, IsAcceptedFor, IsRefusedFor}
use Rattle.prover.specs.Cuts.{IsCut}
use Rattle.prover.specs.Modes.Prove.{verdict}
use Rattle.prover.specs.Parts.{Gives, IsFault, IsPart}
use Rattle.prover.specs.Refusals.{fault_line, refusal_line}
use Rattle.prover.specs.Runs.{last_end}

-- ---- the answer

-- the proof begins at the first line that is its first one
abbrev pub separator : List ℕ
separator = codes "proof 1"

-- where the proof is refused, for what this line tells
abbrev pub proof_refused : List ℕ → Answer
proof_refused line = record { status = ProofRefused; lines = line ∷ [] }

-- where it is accepted: its verdict
abbrev pub accepted_line : Bool → List ℕ
accepted_line proved = spaced (codes "accepted" ∷ verdict_word proved ∷ [])

abbrev pub accepted : Bool → Answer
accepted proved = record { status = verdict proved; lines = accepted_line proved ∷ [] }

-- the answer to a proof that was read for the construction
abbrev pub IsToldAnswer : Account → Told → Answer → Type 0
IsToldAnswer c p answer =
    (IsAcceptedFor c p × (answer ≡ accepted p.proved))
    ⊎ ((r : ProofRefusal c.rank) × IsRefusedFor c p r × (answer ≡ proof_refused (refusal_line (names_of c) r)))

-- the answer to a proof that was read for a program
abbrev pub IsProgramAnswer : (d : ℕ) → Names → Program → Told → Answer → Type 0
IsProgramAnswer d names p told answer =
    (IsProofAccepted p (claims_read told) × (answer ≡ accepted told.proved))
    ⊎ ((r : ProofRefusal d) × IsProofRefused p (claims_read told) r
    × (answer ≡ proof_refused (refusal_line names r)))

-- the answer to bytes that are to be the text of a proof for the construction
abbrev pub IsBytesAnswer : List ℕ → Account → Answer → Type 0
IsBytesAnswer bytes c answer =
    ((fault : ProofFault) × IsProofFault c bytes fault × (answer ≡ proof_refused (fault_line fault)))
    ⊎ ((p : Told) × IsProofText c bytes p × IsToldAnswer c p answer)

-- the answer to a construction text and the bytes behind it
abbrev pub IsTextAnswer : List ℕ → List ℕ → Answer → Type 0
IsTextAnswer text bytes answer =
    ((1048576 < length text) × (answer ≡ refused (codes "long")))
    ⊎ ((length text ≤ 1048576) × IsPart [] text (IsBytesAnswer bytes) answer)

-- the answer to the input
pub record IsCheckAnswer (input : List ℕ) (answer : Answer) : Type 0 where
  pub text : List ℕ
  pub bytes : List ℕ
  pub cut : IsCut separator input text bytes
  pub answers : IsTextAnswer text bytes answer

-- ---- the causes of the statuses

-- the bytes are the text of a proof that is accepted for the construction
abbrev pub AreAccepted : Account → List ℕ → Type 0
AreAccepted c bytes = (p : Told) × IsProofText c bytes p × IsAcceptedFor c p

-- they are the text of none, or of one that is refused
abbrev pub AreRefused : Account → List ℕ → Type 0
AreRefused c bytes =
    ((fault : ProofFault) × IsProofFault c bytes fault)
    ⊎ ((p : Told) × IsProofText c bytes p × (r : ProofRefusal c.rank) × IsRefusedFor c p r)

-- The text is too long or has a fault; or it gives a construction, and the bytes behind it are refused, or accepted, and
-- the conclusion's polynomial is zero, or it is not.
abbrev pub IsTextCause : List ℕ → List ℕ → Status → Type 0
IsTextCause text bytes TextRefused = (1048576 < length text) ⊎ ((f : Fault) × IsFault text f)
IsTextCause text bytes ProofRefused = (length text ≤ 1048576) × (c : Account) × Gives text c × AreRefused c bytes
IsTextCause text bytes Proved =
    (length text ≤ 1048576) × (c : Account) × Gives text c × AreAccepted c bytes
    × (conclusion_polynomial c ≡ Polynomials.𝟘)
IsTextCause text bytes Refuted =
    (length text ≤ 1048576) × (c : Account) × Gives text c × AreAccepted c bytes
    × (conclusion_polynomial c ≢ Polynomials.𝟘)
IsTextCause text bytes status = ⊥

-- the input is cut into such a text and such bytes
pub record IsCheckCause (input : List ℕ) (status : Status) : Type 0 where
  pub text : List ℕ
  pub bytes : List ℕ
  pub cut : IsCut separator input text bytes
  pub cause : IsTextCause text bytes status

-- ---- the verdict

-- The bytes are the text of a proof that is accepted for the construction; the end of its last section is the one
-- normal polynomial whose value is the conclusion's, and the verdict says whether that is zero.
pub record BytesDecide (bytes : List ℕ) (c : Account) (answer : Answer) : Type 0 where
  pub told : Told
  pub is_text : IsProofText c bytes told
  pub accepted : IsAcceptedFor c told
  pub polynomial : BracketPolynomial
  pub ends : last_end told.objects ≡ Some polynomial
  pub normal : IsNormal c.rank 64 polynomial
  pub same_value : value polynomial ≡ conclusion_polynomial c
  pub proved : answer.status ≡ Proved → conclusion_polynomial c ≡ Polynomials.𝟘
  pub everywhere : answer.status ≡ Proved → (at : Placement) → value_at at (conclusion_polynomial c) ≡ pos 0
  pub refuted : answer.status ≡ Refuted → conclusion_polynomial c ≢ Polynomials.𝟘

-- the proof is accepted for the program, and ends with its conclusion; the answer is its verdict
pub record ProgramDecides (p : Program) (told : Told) (answer : Answer) : Type 0 where
  pub accepted : IsProofAccepted p (claims_read told)
  pub concludes : Concludes p (claims_read told)
  pub verdict_is : answer.status ≡ verdict told.proved

-- the text gives a construction, for which the bytes behind it decide
pub record TextDecides (text bytes : List ℕ) (answer : Answer) : Type 0 where
  pub account : Account
  pub gives : Gives text account
  pub decides : BytesDecide bytes account answer

-- and so does the input
pub record CheckDecides (input : List ℕ) (answer : Answer) : Type 0 where
  pub text : List ℕ
  pub bytes : List ℕ
  pub cut : IsCut separator input text bytes
  pub decides : TextDecides text bytes answer
