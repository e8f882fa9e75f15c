-- Which points and parameters the keys of refusals have: those of the program and of the proof.
use Rattle.std.specs.Prelude.{◌≡◌, ⊤, ℕ, ◌<◌, ◌≤◌, List, slice_index}
use Rattle.std.specs.List.{AllByRecursion}
use Rattle.coordinate_model.specs.Key.{Key}
use Rattle.coordinate_model.specs.BracketPolynomial.{BracketPolynomial, AllKeys}
use Rattle.coordinate_model.specs.Syzygy.{Use, use_key}
use Rattle.cayley_terms.specs.declared.instr.Instr.{Instr}
use Rattle.cayley_terms.specs.declared.instr.Instr.TheVariants.{Free, Join, Meet, On, Conic}
use Rattle.cayley_terms.specs.declared.program.Program.{Program}
use Rattle.log_checker.specs.declared.fault.CheckKind.{CheckKind}
use Rattle.log_checker.specs.declared.fault.CheckKind.TheVariants as kind
use Rattle.log_checker.specs.declared.refusal.ProofRefusal.{ProofRefusal}
use Rattle.log_checker.specs.declared.refusal.ProofRefusal.TheVariants as refusal
use Rattle.log_checker.specs.Claims.{Claim}
use Rattle.log_checker.specs.ProofRefused.{IsProofRefused}

-- the instruction has free points below n and parameters below m alone
abbrev pub HasNumbers : ℕ → ℕ → Instr → Type 0
HasNumbers n m (Free i) = i < n
HasNumbers n m (Join a b) = Unit {0}
HasNumbers n m (Meet a b) = Unit {0}
HasNumbers n m (On a b s t) = (s < m) × (t < m)
HasNumbers n m (Conic p1 p2 p3 p4 p5 p6) = Unit {0}

-- points below n
abbrev pub ArePoints : ℕ → List ℕ → Type 0
ArePoints n points = AllByRecursion (λ p. p < n) points

-- a key of points below n and of parameters below m
pub record IsKeyWithin (n m : ℕ) (k : Key) : Type 0 where
  pub points : AllByRecursion (ArePoints n) k.rows
  pub parameters : (i : ℕ) → m ≤ i → slice_index k.exponents i ≡ 0

-- a polynomial of such keys
abbrev pub IsPolynomialWithin : ℕ → ℕ → BracketPolynomial → Type 0
IsPolynomialWithin n m f = AllKeys (IsKeyWithin n m) f

-- a use of such points and parameters
pub record IsUseWithin (n m : ℕ) (u : Use) : Type 0 where
  pub key : IsKeyWithin n m (use_key u)
  pub alpha : ArePoints n u.alpha
  pub beta : ArePoints n u.beta
  pub gamma : ArePoints n u.gamma

-- a claim of such points and parameters
pub record IsClaimWithin (n m : ℕ) (c : Claim) : Type 0 where
  pub scalar : ArePoints n c.scalar
  pub start : IsPolynomialWithin n m c.start.sum
  pub uses : AllByRecursion (IsUseWithin n m) c.uses
  pub end : IsPolynomialWithin n m c.end

-- the key of a fault, if it tells one
abbrev pub IsKindWithin : {d : ℕ} → ℕ → ℕ → CheckKind d → Type 0
IsKindWithin n m kind.Coefficient = ⊤
IsKindWithin n m kind.Keys = ⊤
IsKindWithin n m (kind.Differs k computed written) = IsKeyWithin n m k
IsKindWithin n m (kind.NotStandard k) = IsKeyWithin n m k

-- and that of a refusal
abbrev pub IsRefusalWithin : {d : ℕ} → ℕ → ℕ → ProofRefusal d → Type 0
IsRefusalWithin n m (refusal.Start section k computed written) = IsKeyWithin n m k
IsRefusalWithin n m (refusal.Section section fault) = IsKindWithin n m fault.kind
IsRefusalWithin n m (refusal.Scalars object) = ⊤
IsRefusalWithin n m (refusal.ObjectCoefficient object) = ⊤
IsRefusalWithin n m (refusal.ObjectKeys object) = ⊤
IsRefusalWithin n m refusal.Memory = ⊤

-- the key of a refusal has points and parameters of the program and of the proof alone
abbrev pub RefusalIsWithin : Type 0
RefusalIsWithin =
    (d n m : ℕ) (p : Program) (objects : List (List Claim)) (r : ProofRefusal d)
    → AllByRecursion (HasNumbers n m) p.instrs → AllByRecursion (AllByRecursion (IsClaimWithin n m)) objects
    → IsProofRefused p objects r → IsRefusalWithin n m r
