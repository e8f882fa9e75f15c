-- Why a section is not accepted: the first cause in a fixed order.
use Rattle.std.specs.Prelude.{◌≡◌, ⊤, ℕ, length, Option, Some, None, MatchOption}
use Rattle.coordinate_model.specs.BracketPolynomial.{BracketPolynomial, IsNormal}
use Rattle.bracket_poly.specs.Tracked.{Limit, coefficient_limit, keys_limit}
use Rattle.bracket_poly.specs.declared.error.PolyError.{PolyError}
use Rattle.bracket_poly.specs.declared.error.PolyError.TheVariants as poly_error
use Rattle.log_checker.specs.declared.fault.CheckKind.{CheckKind}
use Rattle.log_checker.specs.declared.fault.CheckKind.TheVariants as kind
use Rattle.log_checker.specs.declared.fault.CheckFault.{CheckFault}
use Rattle.log_checker.specs.declared.fault.SectionError.{SectionError}
use Rattle.log_checker.specs.declared.fault.SectionError.TheVariants as error
use Rattle.log_checker.specs.Claims.{Claim}
use Rattle.log_checker.specs.Accepted.{refused_use, claimed_sum}
use Rattle.log_checker.specs.Differences.{IsLeastDifference, IsLeastNonstandard}

-- no use is refused, and the number is that of all uses
abbrev pub IsBehindUses : Claim → ℕ → Type 0
IsBehindUses c number = (refused_use c ≡ None) × (number ≡ length c.uses)

-- what is wrong with a section, at the use of this number or behind so many
abbrev pub IsKind : {d : ℕ} → Claim → ℕ → CheckKind d → Type 0
IsKind c number kind.Coefficient = refused_use c ≡ Some (number, coefficient_limit)
IsKind c number kind.Keys = refused_use c ≡ Some (number, keys_limit)
IsKind c number (kind.Differs k computed written) =
    IsBehindUses c number × IsLeastDifference (claimed_sum c) c.end k computed written
IsKind {d} c number (kind.NotStandard k) =
    IsBehindUses c number × (claimed_sum c ≡ c.end) × IsLeastNonstandard d c.end k

-- the fault of a section
abbrev pub IsSectionFault : {d : ℕ} → Claim → CheckFault d → Type 0
IsSectionFault c fault = IsKind c fault.use_number fault.kind

-- the error is the fault of the section, or that memory was wanting
abbrev pub IsSectionCause : {d : ℕ} → Claim → SectionError d → Type 0
IsSectionCause c (error.Fault fault) = IsSectionFault c fault
IsSectionCause c error.Memory = ⊤

-- ---- steps on the way

-- the error tells that the use of this number is refused for that of a polynomial
abbrev pub IsRefusal : {d : ℕ} → ℕ → PolyError → SectionError d → Type 0
IsRefusal number poly_error.Coefficient e = e ≡ error.Fault (record { use_number = number; kind = kind.Coefficient })
IsRefusal number poly_error.Keys e = e ≡ error.Fault (record { use_number = number; kind = kind.Keys })
IsRefusal number poly_error.Memory e = e ≡ error.Memory

-- the kind is the limit that the use of this number passes
abbrev pub IsUseKind : {d : ℕ} → Option (ℕ × Limit) → ℕ → CheckKind d → Type 0
IsUseKind refused number kind.Coefficient = refused ≡ Some (number, coefficient_limit)
IsUseKind refused number kind.Keys = refused ≡ Some (number, keys_limit)
IsUseKind refused number (kind.Differs k computed written) = ⊥
IsUseKind refused number (kind.NotStandard k) = ⊥

-- the error tells the use that is refused, or that memory was wanting
abbrev pub IsUseCause : {d : ℕ} → Option (ℕ × Limit) → SectionError d → Type 0
IsUseCause refused (error.Fault fault) = IsUseKind refused fault.use_number fault.kind
IsUseCause refused error.Memory = ⊤

-- the kind is what is wrong with an end where this is the sum
abbrev pub IsEndKind : {d : ℕ} → BracketPolynomial → BracketPolynomial → CheckKind d → Type 0
IsEndKind sum end kind.Coefficient = ⊥
IsEndKind sum end kind.Keys = ⊥
IsEndKind sum end (kind.Differs k computed written) = IsLeastDifference sum end k computed written
IsEndKind {d} sum end (kind.NotStandard k) = (sum ≡ end) × IsLeastNonstandard d end k

-- what is wrong with the end is found, or nothing where it is the sum and normal
abbrev pub FindsKind : {d : ℕ} → BracketPolynomial → BracketPolynomial → Option (CheckKind d) → Type 0
FindsKind {d} sum end found = MatchOption found ((sum ≡ end) × IsNormal d 64 end) (IsEndKind sum end)
