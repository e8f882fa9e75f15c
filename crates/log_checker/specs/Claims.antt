-- What a proof claims of each section and of each object, apart from where it lies in memory.
use Rattle.std.specs.Prelude.{ℕ, List, map, Option, Some, None}
use Rattle.std.specs.Option.{option_map}
use Rattle.coordinate_model.specs.Sums.{empty}
use Rattle.coordinate_model.specs.Key.{key_cmp}
use Rattle.coordinate_model.specs.BracketPolynomial.{BracketPolynomial}
use Rattle.coordinate_model.specs.Syzygy.{Use}
use Rattle.coordinate_model.specs.Value.{Value}
use Rattle.bracket_terms.specs.Joins.{points_of}
use Rattle.bracket_terms.specs.LogUses.{use_of}
use Rattle.bracket_poly.specs.Tracked.{Tracked}
use Rattle.bracket_poly.specs.Sections.{Rewritten, value_from}
use Rattle.bracket_poly.specs.declared.section.Section.{Section}
use Rattle.bracket_poly.specs.declared.section.ObjectLog.{ObjectLog}

-- what is claimed of a section: its points, its start with the keys that it has met, its uses and its end
pub record Claim : Type 0 where
  pub scalar : List ℕ
  pub start : Tracked
  pub uses : List Use
  pub end : BracketPolynomial

-- the end, where it is there
abbrev pub end_or_zero : Option BracketPolynomial → BracketPolynomial
end_or_zero None = empty key_cmp
end_or_zero (Some f) = f

-- what a section of the code claims
abbrev pub claim_of : {d : ℕ} → Section d → Claim
claim_of s = record {
  scalar = points_of s.scalar;
  start = s.start.tracked;
  uses = map use_of s.uses;
  end = end_or_zero (option_map (λ p. p.tracked.sum) s.end);
}

-- what sections claim in order, as those of an object
abbrev pub claims_of : {d : ℕ} → List (Section d) → List Claim
claims_of sections = map claim_of sections

-- what the objects of a proof claim
abbrev pub object_claims : {d : ℕ} → List (ObjectLog d) → List (List Claim)
object_claims objects = map (λ o. claims_of o.sections) objects

-- the rewriting that is claimed
abbrev pub rewriting : Claim → Rewritten
rewriting c = record { scalar = c.scalar; start = c.start.sum; uses = c.uses; end = Some c.end }

-- the value of an object whose sections end as claimed
abbrev pub ended_value : List Claim → Value
ended_value claims = value_from (map rewriting claims)
