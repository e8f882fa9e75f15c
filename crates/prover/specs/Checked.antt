-- Proofs that are read for a construction: what they claim, and whether they are accepted.
use Rattle.std.specs.Prelude.{ℕ, List, [], map}
use Rattle.coordinate_model.specs.BracketPolynomial.{BracketPolynomial}
use Rattle.construction_reader.specs.Said.{Account}
use Rattle.step_types.specs.Checks.{names_of}
use Rattle.bracket_poly.specs.Sections.{Rewritten}
use Rattle.bracket_poly.specs.Tracked.{Tracked}
use Rattle.proof_text.specs.declared.fault.ProofFault.{ProofFault}
use Rattle.proof_text.specs.Faults.{IsFault}
use Rattle.proof_text.specs.Told.{Told, TextOf}
use Rattle.log_checker.specs.declared.refusal.ProofRefusal.{ProofRefusal}
use Rattle.log_checker.specs.Accepted.{AreAccepted}
use Rattle.log_checker.specs.Claims.{Claim, end_or_zero}
use Rattle.log_checker.specs.Objects.{object_steps}
use Rattle.log_checker.specs.ProofRefused.{AreRefused}
use Rattle.prover.specs.Runs.{instructions}

-- ---- reading

-- the steps of the objects of a construction
abbrev pub steps_of : Account → List ℕ
steps_of c = object_steps (instructions c)

-- the bytes are the text of this proof, for the names and the objects of the construction
abbrev pub IsProofText : Account → List ℕ → Told → Type 0
IsProofText c bytes p = TextOf (names_of c) (steps_of c) bytes p

-- they are the text of none, and this is the first fault
abbrev pub IsProofFault : Account → List ℕ → ProofFault → Type 0
IsProofFault c bytes fault = IsFault (names_of c) (steps_of c) bytes fault

-- ---- claims

-- a polynomial as it is read: it has met the keys of its terms
abbrev pub as_read : BracketPolynomial → Tracked
as_read f = record { sum = f; met = map (λ t. t.0) f.terms }

-- what a section claims
abbrev pub claim_read : Rewritten → Claim
claim_read s = record { scalar = s.scalar; start = as_read s.start; uses = s.uses; end = end_or_zero s.end }

-- what a proof claims of each object
abbrev pub claims_read : Told → List (List Claim)
claims_read p = map (λ o. map claim_read o.sections) p.objects

-- ---- checking

-- the proof is accepted for the construction
abbrev pub IsAcceptedFor : Account → Told → Type 0
IsAcceptedFor c p = AreAccepted c.rank [] (instructions c) (claims_read p)

-- it is refused so
abbrev pub IsRefusedFor : (c : Account) → Told → ProofRefusal c.rank → Type 0
IsRefusedFor c p r = AreRefused [] (instructions c) (claims_read p) 1 1 r
