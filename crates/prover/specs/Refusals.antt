-- The lines that tell why a proof is refused.
use Rattle.std.specs.Prelude.{ℕ, ◌==◌, ℤ, pos, negsuc, List, [], ◌∷◌, codes, decimal, if◌then◌else◌}
use Rattle.coordinate_model.specs.Key.{Key}
use Rattle.step_types.specs.declared.names.Names.{Names}
use Rattle.proof_text.specs.declared.fault.ProofFault.{ProofFault}
use Rattle.proof_text.specs.declared.fault.ProofKind.{ProofKind}
use Rattle.proof_text.specs.declared.fault.ProofKind.TheVariants as kind
use Rattle.proof_text.specs.Keys.{key_words}
use Rattle.proof_text.specs.Lines.{spaced}
use Rattle.proof_text.specs.Terms.{signed_text}
use Rattle.log_checker.specs.declared.fault.CheckFault.{CheckFault}
use Rattle.log_checker.specs.declared.fault.CheckKind.{CheckKind}
use Rattle.log_checker.specs.declared.fault.CheckKind.TheVariants as check
use Rattle.log_checker.specs.declared.refusal.ProofRefusal.{ProofRefusal}
use Rattle.log_checker.specs.declared.refusal.ProofRefusal.TheVariants as refusal

-- ---- proofs that cannot be read

-- the word of a kind of fault
abbrev pub proof_word : ProofKind → List ℕ
proof_word kind.Unfinished = codes "unfinished"
proof_word kind.Shape = codes "shape"
proof_word kind.Header = codes "header"
proof_word kind.Object = codes "object"
proof_word kind.Name = codes "name"
proof_word kind.Number = codes "number"
proof_word kind.Order = codes "order"
proof_word kind.Verdict = codes "verdict"
proof_word kind.Ended = codes "ended"

-- the line and the kind of the fault of a proof
abbrev pub fault_line : ProofFault → List ℕ
fault_line fault =
    spaced (codes "refused" ∷ codes "proof" ∷ codes "line" ∷ decimal fault.line ∷ proof_word fault.kind ∷ [])

-- ---- proofs that are not accepted

-- an integer behind its sign, or zero
abbrev pub coefficient_text : ℤ → List ℕ
coefficient_text (pos n) = if n == 0 then codes "0" else signed_text (pos n)
coefficient_text (negsuc n) = signed_text (negsuc n)

-- the computed and the written coefficient of a key
abbrev pub difference_words : Names → Key → ℤ → ℤ → List (List ℕ)
difference_words names k computed written = coefficient_text computed ∷ coefficient_text written ∷ key_words names k

-- what is wrong with a section, at the use of this number
abbrev pub kind_words : {d : ℕ} → Names → ℕ → CheckKind d → List (List ℕ)
kind_words names number check.Coefficient = codes "use" ∷ decimal number ∷ codes "coefficient" ∷ []
kind_words names number check.Keys = codes "use" ∷ decimal number ∷ codes "keys" ∷ []
kind_words names number (check.Differs k computed written) = codes "end" ∷ difference_words names k computed written
kind_words names number (check.NotStandard k) = codes "standard" ∷ key_words names k

-- why an object is refused, and why a section is
abbrev pub object_words : ℕ → List ℕ → List (List ℕ)
object_words number cause = codes "object" ∷ decimal number ∷ cause ∷ []

abbrev pub section_words : ℕ → List (List ℕ) → List (List ℕ)
section_words number cause = codes "section" ∷ decimal number ∷ cause

-- why a proof is refused
abbrev pub refusal_words : {d : ℕ} → Names → ProofRefusal d → List (List ℕ)
refusal_words names (refusal.Scalars number) = object_words number (codes "scalars")
refusal_words names (refusal.ObjectCoefficient number) = object_words number (codes "coefficient")
refusal_words names (refusal.ObjectKeys number) = object_words number (codes "keys")
refusal_words names (refusal.Start number k computed written) =
    section_words number (codes "start" ∷ difference_words names k computed written)
refusal_words names (refusal.Section number fault) =
    section_words number (kind_words names fault.use_number fault.kind)
refusal_words names refusal.Memory = []

-- the line that tells it
abbrev pub refusal_line : {d : ℕ} → Names → ProofRefusal d → List ℕ
refusal_line names r = spaced (codes "refused" ∷ refusal_words names r)
