-- The laws of proofs: each is accepted or has one refusal, and what is accepted ends with the conclusion.
use Rattle.std.specs.Prelude.{◌≡◌, ◌⊎◌, ℕ, List, [], ◌∷◌, ◌++◌, length}
use Rattle.std.specs.List.{AllByRecursion}
use Rattle.coordinate_model.specs.BracketPolynomial.{IsBracketPolynomial, value}
use Rattle.coordinate_model.specs.Syzygy.{IsUse}
use Rattle.cayley_terms.specs.declared.program.Program.{Program}
use Rattle.cayley_terms.specs.Kept.{polynomial_of}
use Rattle.log_checker.specs.declared.refusal.ProofRefusal.{ProofRefusal}
use Rattle.log_checker.specs.Claims.{Claim}
use Rattle.log_checker.specs.Accepted.{IsAccepted, IsProofAccepted}
use Rattle.log_checker.specs.Objects.{program_steps}
use Rattle.log_checker.specs.ProofRefused.{IsProofRefused}

-- the uses of each of the claims are well formed
abbrev pub HaveUses : ℕ → List Claim → Type 0
HaveUses d claims = AllByRecursion (λ c. AllByRecursion (IsUse d) c.uses) claims

-- and those of each object
abbrev pub AllHaveUses : ℕ → List (List Claim) → Type 0
AllHaveUses d objects = AllByRecursion (HaveUses d) objects

-- the ends that are claimed are bracket polynomials
abbrev pub HaveEnds : ℕ → List (List Claim) → Type 0
HaveEnds d objects = AllByRecursion (λ claims. AllByRecursion (λ c. IsBracketPolynomial d 64 c.end) claims) objects

-- the last object has one section, and the value of its end, which is accepted, is the conclusion polynomial
pub record Concludes (p : Program) (objects : List (List Claim)) : Type 0 where
  pub front : List (List Claim)
  pub last : Claim
  pub is_last : objects ≡ front ++ (last ∷ []) ∷ []
  pub accepted : IsAccepted p.rank last
  pub same : value last.end ≡ polynomial_of p

-- an accepted proof ends with the conclusion
abbrev pub AcceptedProofConcludes : Type 0
AcceptedProofConcludes =
    (p : Program) (objects : List (List Claim)) → AllHaveUses p.rank objects → IsProofAccepted p objects
    → Concludes p objects

-- an accepted proof is not refused
abbrev pub ProofNotBoth : Type 0
ProofNotBoth =
    (d : ℕ) (p : Program) (objects : List (List Claim)) (r : ProofRefusal d) → p.rank ≡ d → IsProofAccepted p objects
    → IsProofRefused p objects r → ⊥

-- a proof is refused in one way at most
abbrev pub OneRefusal : Type 0
OneRefusal =
    (d : ℕ) (p : Program) (objects : List (List Claim)) (r s : ProofRefusal d) → IsProofRefused p objects r
    → IsProofRefused p objects s → r ≡ s

-- a proof with the program's objects is accepted or refused
abbrev pub ProofEither : Type 0
ProofEither =
    (d : ℕ) (p : Program) (objects : List (List Claim)) → p.rank ≡ d → length objects ≡ length (program_steps p)
    → HaveEnds d objects → IsProofAccepted p objects ⊎ ((r : ProofRefusal d) × IsProofRefused p objects r)
