-- The laws of sections: each is accepted or has one fault, and what is accepted keeps the value.
use Rattle.std.specs.Prelude.{◌≡◌, ◌⊎◌, ℕ}
use Rattle.std.specs.List.{AllByRecursion}
use Rattle.coordinate_model.specs.Sequences.{IsRank}
use Rattle.coordinate_model.specs.BracketPolynomial.{IsBracketPolynomial, value}
use Rattle.coordinate_model.specs.Syzygy.{IsUse}
use Rattle.log_checker.specs.declared.fault.CheckFault.{CheckFault}
use Rattle.log_checker.specs.Claims.{Claim}
use Rattle.log_checker.specs.Accepted.{IsAccepted}
use Rattle.log_checker.specs.Refused.{IsSectionFault}

-- an accepted section has no fault
abbrev pub SectionNotBoth : Type 0
SectionNotBoth = (d : ℕ) (c : Claim) (fault : CheckFault d) → IsAccepted d c → IsSectionFault c fault → ⊥

-- a section has one fault at most
abbrev pub OneSectionFault : Type 0
OneSectionFault =
    (d : ℕ) (c : Claim) (fault other : CheckFault d) → IsSectionFault c fault → IsSectionFault c other → fault ≡ other

-- a section is accepted or has a fault
abbrev pub SectionEither : Type 0
SectionEither =
    (d : ℕ) (c : Claim) → IsBracketPolynomial d 64 c.end
    → IsAccepted d c ⊎ ((fault : CheckFault d) × IsSectionFault c fault)

-- the end of an accepted section has the value of its start
abbrev pub AcceptedKeepsValue : Type 0
AcceptedKeepsValue =
    (d : ℕ) (c : Claim) → IsRank d → AllByRecursion (IsUse d) c.uses → IsAccepted d c → value c.end ≡ value c.start.sum
