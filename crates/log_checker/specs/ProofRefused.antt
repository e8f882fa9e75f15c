-- Why a proof is not accepted: the first cause in a fixed order. Objects and sections are counted from 1, the sections
-- over the whole proof.
use Rattle.std.specs.Prelude.{◌≡◌, ◌⊎◌, ℕ, ◌+◌, List, [], ◌∷◌, ◌++◌, map, zip, length, Result, Ok, Err}
use Rattle.coordinate_model.specs.BracketPolynomial.{BracketPolynomial}
use Rattle.coordinate_model.specs.Value.{Value}
use Rattle.bracket_poly.specs.Tracked.{Limit, coefficient_limit, keys_limit}
use Rattle.cayley_terms.specs.declared.instr.Instr.{Instr}
use Rattle.cayley_terms.specs.declared.instr.Instr.TheVariants.{Free}
use Rattle.cayley_terms.specs.declared.program.Program.{Program}
use Rattle.cayley_terms.specs.Starts.{free_value}
use Rattle.shuffle_meet.specs.Stops.{Start}
use Rattle.log_checker.specs.declared.refusal.ProofRefusal.{ProofRefusal}
use Rattle.log_checker.specs.declared.refusal.ProofRefusal.TheVariants as refusal
use Rattle.log_checker.specs.Claims.{Claim, ended_value}
use Rattle.log_checker.specs.Starts.{starts_of}
use Rattle.log_checker.specs.Accepted.{IsAccepted, IsObjectAccepted}
use Rattle.log_checker.specs.Differences.{IsLeastDifference}
use Rattle.log_checker.specs.Refused.{IsSectionFault}

-- why the section of this number is refused that is to begin with this polynomial
abbrev pub IsSectionRefused : {d : ℕ} → BracketPolynomial → Claim → ℕ → ProofRefusal d → Type 0
IsSectionRefused start c number (refusal.Start section k computed written) =
    (section ≡ number) × IsLeastDifference start c.start.sum k computed written
IsSectionRefused start c number (refusal.Section section fault) =
    (section ≡ number) × (start ≡ c.start.sum) × IsSectionFault c fault
IsSectionRefused start c number (refusal.Scalars object) = ⊥
IsSectionRefused start c number (refusal.ObjectCoefficient object) = ⊥
IsSectionRefused start c number (refusal.ObjectKeys object) = ⊥
IsSectionRefused start c number refusal.Memory = ⊥

-- why the first of these sections is refused that is: they are numbered from this number on
abbrev pub AreSectionsRefused : {d : ℕ} → List Start → List Claim → ℕ → ProofRefusal d → Type 0
AreSectionsRefused [] claims number r = ⊥
AreSectionsRefused (start ∷ starts) [] number r = ⊥
AreSectionsRefused {d} (start ∷ starts) (c ∷ claims) number r =
    IsSectionRefused start.1.sum c number r
    ⊎ ((start.1.sum ≡ c.start.sum) × IsAccepted d c × AreSectionsRefused starts claims (number + 1) r)

-- the scalars that are written are those of the starts
abbrev pub HaveScalars : List Start → List Claim → Type 0
HaveScalars starts claims = map (λ start. start.0) starts ≡ map (λ c. c.scalar) claims

-- the refusal of the object of this number at a limit that its starts pass
abbrev pub limit_refusal : {d : ℕ} → ℕ → Limit → ProofRefusal d
limit_refusal object coefficient_limit = refusal.ObjectCoefficient object
limit_refusal object keys_limit = refusal.ObjectKeys object

-- why an object is refused whose starts are made so, and whose sections begin at this number
abbrev pub IsObjectRefused : {d : ℕ} → Result (List Start) Limit → List Claim → (object section : ℕ) → ProofRefusal d
    → Type 0
IsObjectRefused (Err limit) claims object section r = r ≡ limit_refusal object limit
IsObjectRefused (Ok starts) claims object section r =
    ((HaveScalars starts claims → ⊥) × (r ≡ refusal.Scalars object))
    ⊎ (HaveScalars starts claims × AreSectionsRefused starts claims section r)

-- why the first of these objects is refused that is, behind instructions of these values; objects and sections are
-- numbered from these numbers on
abbrev pub AreRefused : {d : ℕ} → List Value → List (Instr × ℕ) → List (List Claim) → (object section : ℕ)
    → ProofRefusal d → Type 0
AreRefused values [] objects object section r = ⊥
AreRefused values ((Free i, step) ∷ instrs) objects object section r =
    AreRefused (values ++ free_value 64 i ∷ []) instrs objects object section r
AreRefused values ((instr, step) ∷ instrs) [] object section r = ⊥
AreRefused {d} values ((instr, step) ∷ instrs) (claims ∷ objects) object section r =
    IsObjectRefused (starts_of d values instr step) claims object section r
    ⊎ (IsObjectAccepted d values instr step claims
    × AreRefused (values ++ ended_value claims ∷ []) instrs objects (object + 1) (section + length claims) r)

-- the proof is refused so for the program
abbrev pub IsProofRefused : {d : ℕ} → Program → List (List Claim) → ProofRefusal d → Type 0
IsProofRefused p objects r = AreRefused [] (zip p.instrs p.steps) objects 1 1 r
