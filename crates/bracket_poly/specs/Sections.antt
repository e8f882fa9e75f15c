-- What sections and logs say, apart from where they lie in memory.
use Rattle.std.specs.Prelude.{ℕ, List, filter_map, map, Option, Some, None, if◌then◌else◌}
use Rattle.std.specs.Option.{option_map}
use Rattle.coordinate_model.specs.BracketPolynomial.{BracketPolynomial}
use Rattle.coordinate_model.specs.Starts.{Entry, has_term}
use Rattle.coordinate_model.specs.Syzygy.{Use}
use Rattle.coordinate_model.specs.Value.{Value}
use Rattle.bracket_terms.specs.Joins.{points_of}
use Rattle.bracket_terms.specs.LogUses.{use_of}
use Rattle.bracket_poly.specs.declared.section.Section.{Section}
use Rattle.bracket_poly.specs.declared.section.ObjectLog.{ObjectLog}

-- how the polynomial of an extensor was rewritten: from where, by which uses, and to what, unless the run stopped there
pub record Rewritten : Type 0 where
  pub scalar : List ℕ
  pub start : BracketPolynomial
  pub uses : List Use
  pub end : Option BracketPolynomial

-- the entry that a section ends with, where that has a term
abbrev pub entry_from : Rewritten → Option Entry
entry_from s = elim s.end [
  | None ↦ None
  | Some polynomial ↦ if has_term (s.scalar, polynomial) then Some (s.scalar, polynomial) else None
]

-- the value that sections end with
abbrev pub value_from : List Rewritten → Value
value_from sections = filter_map entry_from sections

-- how an object was worked out: its number and step, and a section for each of its extensors
pub record Worked : Type 0 where
  pub number : ℕ
  pub step : ℕ
  pub sections : List Rewritten

-- what a section of the code says
abbrev pub rewritten_of : {d : ℕ} → Section d → Rewritten
rewritten_of s = record {
  scalar = points_of s.scalar;
  start = s.start.tracked.sum;
  uses = map use_of s.uses;
  end = option_map (λ p. p.tracked.sum) s.end;
}

-- what a log of the code says
abbrev pub worked_of : {d : ℕ} → ObjectLog d → Worked
worked_of o = record { number = o.number; step = o.step; sections = map rewritten_of o.sections }
