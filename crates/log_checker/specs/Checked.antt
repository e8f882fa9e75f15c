-- Which proofs are checked for a program, and how a refusal is told.
use Rattle.std.specs.Prelude.{◌≡◌, ⊤, ℕ, List, map, length, IsSomeAnd}
use Rattle.std.specs.List.{AllByRecursion}
use Rattle.bracket_poly.specs.Products.{HasDegree}
use Rattle.bracket_poly.specs.declared.section.Section.{Section}
use Rattle.bracket_poly.specs.declared.section.ObjectLog.{ObjectLog}
use Rattle.cayley_terms.specs.declared.program.Program.{Program}
use Rattle.step_types.specs.declared.names.Names.{Names}
use Rattle.proof_text.specs.declared.proof.Proof.{Proof}
use Rattle.proof_text.specs.Outcome.{told_of}
use Rattle.proof_text.specs.Told.{IsProof}
use Rattle.log_checker.specs.declared.refusal.ProofRefusal.{ProofRefusal}
use Rattle.log_checker.specs.declared.refusal.ProofRefusal.TheVariants as refusal
use Rattle.log_checker.specs.Bounds.{IsClaimWithin}
use Rattle.log_checker.specs.Claims.{object_claims}
use Rattle.log_checker.specs.Objects.{program_steps}

-- the section has its end, of which no exponent passes 1,000
abbrev pub HasSmallEnd : {d : ℕ} → Section d → Type 0
HasSmallEnd s = IsSomeAnd s.end (λ end. HasDegree 1000 end.tracked.sum)

-- the objects have the steps of those of the program, and every section has its end, of which no exponent passes 1,000
pub record AreObjectsOf {d : ℕ} (p : Program) (objects : List (ObjectLog d)) : Type 0 where
  pub steps : map (λ o. o.step) objects ≡ program_steps p
  pub ends : AllByRecursion (λ o. AllByRecursion HasSmallEnd o.sections) objects

-- the refusal is so, unless it tells that memory was wanting
abbrev pub UnlessMemory : {d : ℕ} → (ProofRefusal d → Type 0) → ProofRefusal d → Type 0
UnlessMemory Is (refusal.Scalars object) = Is (refusal.Scalars object)
UnlessMemory Is (refusal.ObjectCoefficient object) = Is (refusal.ObjectCoefficient object)
UnlessMemory Is (refusal.ObjectKeys object) = Is (refusal.ObjectKeys object)
UnlessMemory Is (refusal.Start section k computed written) = Is (refusal.Start section k computed written)
UnlessMemory Is (refusal.Section section fault) = Is (refusal.Section section fault)
UnlessMemory Is refusal.Memory = ⊤

-- ---- proofs that were read

-- the objects of a proof that was read for the steps of a program are those of the program
abbrev pub ReadObjects : Type 0
ReadObjects =
    (d : ℕ) (names : Names) (p : Program) (proof : Proof d) → IsProof names (program_steps p) (told_of proof)
    → AreObjectsOf p proof.objects

-- what a proof claims that was read for these names has their points and parameters
abbrev pub ReadClaims : Type 0
ReadClaims =
    (d : ℕ) (names : Names) (steps : List ℕ) (proof : Proof d) → IsProof names steps (told_of proof)
    → AllByRecursion (AllByRecursion (IsClaimWithin (length names.free) (length names.params)))
    (object_claims proof.objects)
