-- Which sections and which proofs are accepted. Nothing here speaks of turns, of budgets or of an order of rewriting.
use Rattle.std.specs.Prelude.{◌≡◌, ℕ, ◌+◌, ◌++◌, List, [], ◌∷◌, map, zip, Option, Some, None, Ok}
use Rattle.std.specs.List.{AllByRecursion}
use Rattle.coordinate_model.specs.Starts.{Entry}
use Rattle.coordinate_model.specs.Value.{Value}
use Rattle.coordinate_model.specs.BracketPolynomial.{BracketPolynomial, IsNormal, add}
use Rattle.coordinate_model.specs.Syzygy.{Use, multiple, additions}
use Rattle.bracket_poly.specs.Tracked.{Tracked, Limit, plus_terms, first_limit}
use Rattle.cayley_terms.specs.declared.instr.Instr.{Instr}
use Rattle.cayley_terms.specs.declared.instr.Instr.TheVariants.{Free}
use Rattle.cayley_terms.specs.declared.program.Program.{Program}
use Rattle.cayley_terms.specs.Starts.{free_value}
use Rattle.shuffle_meet.specs.Stops.{Start}
use Rattle.log_checker.specs.Claims.{Claim, ended_value}
use Rattle.log_checker.specs.Starts.{starts_of}

-- ---- sections

-- the bracket polynomial and the multiples of the uses, added up
abbrev pub with_multiples : BracketPolynomial → List Use → BracketPolynomial
with_multiples f [] = f
with_multiples f (u ∷ us) = with_multiples (add f (multiple u)) us

-- the polynomial with the terms of all uses added, one after another
abbrev pub behind_uses : Tracked → List Use → Tracked
behind_uses p [] = p
behind_uses p (u ∷ us) = behind_uses (plus_terms p (additions u)) us

-- the first of the uses, counted from this number on, of which the addition passes a limit
abbrev pub first_refused : ℕ → Tracked → List Use → Option (ℕ × Limit)
first_refused n p [] = None
first_refused n p (u ∷ us) = elim (first_limit p (additions u)) [
  | Some limit ↦ Some (n, limit)
  | None ↦ first_refused (n + 1) (plus_terms p (additions u)) us
]

-- the use of a section that is refused, if one is
abbrev pub refused_use : Claim → Option (ℕ × Limit)
refused_use c = first_refused 1 c.start c.uses

-- the start of a section and all its multiples
abbrev pub claimed_sum : Claim → BracketPolynomial
claimed_sum c = with_multiples c.start.sum c.uses

-- no addition passes a limit, the start and all multiples add up to the end, and the end is normal
pub record IsAccepted (d : ℕ) (c : Claim) : Type 0 where
  pub within : refused_use c ≡ None
  pub sums : claimed_sum c ≡ c.end
  pub normal : IsNormal d 64 c.end

-- ---- proofs

-- the points and the polynomial of a start, and those that are claimed
abbrev pub start_entry : Start → Entry
start_entry start = (start.0, start.1.sum)

abbrev pub claimed_entry : Claim → Entry
claimed_entry c = (c.scalar, c.start.sum)

-- the sections are those of the starts, and each is accepted
abbrev pub AreSectionsAccepted : ℕ → List Start → List Claim → Type 0
AreSectionsAccepted d starts claims =
    (map start_entry starts ≡ map claimed_entry claims) × AllByRecursion (IsAccepted d) claims

-- the sections are those of the starts that the values give, and each is accepted
pub record IsObjectAccepted (d : ℕ) (values : List Value) (instr : Instr) (step : ℕ)
    (claims : List Claim) : Type 0 where
  pub starts : List Start
  pub made : starts_of d values instr step ≡ Ok starts
  pub same : map start_entry starts ≡ map claimed_entry claims
  pub sections : AllByRecursion (IsAccepted d) claims

-- the objects of the instructions that are left, behind those of these values, are accepted: each from the ends of
-- earlier ones
abbrev pub AreAccepted : ℕ → List Value → List (Instr × ℕ) → List (List Claim) → Type 0
AreAccepted d values [] [] = Unit {0}
AreAccepted d values [] (claims ∷ objects) = ⊥
AreAccepted d values ((Free i, step) ∷ instrs) objects = AreAccepted d (values ++ free_value 64 i ∷ []) instrs objects
AreAccepted d values ((instr, step) ∷ instrs) [] = ⊥
AreAccepted d values ((instr, step) ∷ instrs) (claims ∷ objects) =
    IsObjectAccepted d values instr step claims × AreAccepted d (values ++ ended_value claims ∷ []) instrs objects

-- the proof is accepted for the program
abbrev pub IsProofAccepted : Program → List (List Claim) → Type 0
IsProofAccepted p objects = AreAccepted p.rank [] (zip p.instrs p.steps) objects
