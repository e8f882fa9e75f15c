-- What the code keeps of a run, as the definitions say it.
use Rattle.std.specs.Prelude.{◌≡◌, ℕ, List, ◌++◌, map, flat_map, length, Some, None}
use Rattle.std.specs.Option.{option_map}
use Rattle.coordinate_model.specs.Syzygy.{Use, additions}
use Rattle.bracket_terms.specs.declared.extensor.Extensor.{Extensor}
use Rattle.bracket_terms.specs.Joins.{points_of}
use Rattle.bracket_terms.specs.LogUses.{use_of}
use Rattle.bracket_poly.specs.Kept.{TrackedOf}
use Rattle.bracket_poly.specs.Tracked.{Tracked, plus_terms}
use Rattle.bracket_poly.specs.Values.{value_of}
use Rattle.bracket_poly.specs.declared.value.Value.{Value}
use Rattle.bracket_poly.specs.Sections.{rewritten_of, worked_of}
use Rattle.shuffle_meet.specs.Stops.{Start}
use Rattle.straightening.specs.Runs.{Run}
use Rattle.cayley_run.specs.Results.{stop_of}
use Rattle.cayley_run.specs.Sections as spec
use Rattle.cayley_run.specs.MetKeys.{AllHaveMet}
use Rattle.cayley_run.specs.Runs.{Log}
use Rattle.cayley_run.specs.declared.sections.Sections.{Sections}
use Rattle.cayley_run.specs.declared.rewriting.Rewriting.{Rewriting}
use Rattle.cayley_run.specs.declared.progress.Progress.{Progress}

-- a start of the code
abbrev pub start_of : {d : ℕ} → Extensor × TrackedOf d → Start
start_of e = (points_of e.0, e.1.tracked)

-- the starts of a value of the code
abbrev pub starts_of : {d : ℕ} → List (Extensor × TrackedOf d) → List Start
starts_of entries = map start_of entries

-- sections of the code
abbrev pub sections_of : {d : ℕ} → Sections d → spec.Sections
sections_of s = record {
  sections = map rewritten_of s.sections.items;
  left = s.left;
  stop = option_map stop_of s.stop;
}

-- the rewriting is these passes, and this run of turns
pub record IsRewriting {d : ℕ} (r : Rewriting d) (passes : List Use) (run : Run) : Type 0 where
  pub uses : map use_of r.uses ≡ passes ++ run.uses
  pub turns : r.turns ≡ length run.uses
  pub end : option_map (λ p. p.tracked.sum) r.end ≡ spec.end_of run
  pub stop : option_map stop_of r.stop ≡ run.stop

-- the rewriting is the other one behind these uses
pub record IsBehind {d : ℕ} (r turned : Rewriting d) (passes : List Use) : Type 0 where
  pub uses : map use_of r.uses ≡ passes ++ map use_of turned.uses
  pub turns : r.turns ≡ turned.turns
  pub end : r.end ≡ turned.end
  pub stop : r.stop ≡ turned.stop

-- a rewriting that has an end: it is this polynomial with the terms of the uses added one after another, with the keys
-- that so are met
abbrev pub RewritesSo : {d : ℕ} → Tracked → Rewriting d → Type 0
RewritesSo p r = elim r.end [
  | None ↦ Unit {0}
  | Some end ↦ end.tracked ≡ plus_terms p (flat_map additions (map use_of r.uses))
]

-- a run of the code
abbrev pub log_of : {d : ℕ} → Progress d → Log
log_of p = record {
  options = p.options;
  values = map (λ v. value_of v.entries) p.values.items;
  objects = map worked_of p.objects.items;
  left = p.left;
  stop = option_map stop_of p.stop;
}

-- the steps of values
abbrev pub steps_in : {d : ℕ} → List (Value d) → List ℕ
steps_in vs = map (λ v. v.step) vs

-- the steps of a run's values
abbrev pub steps_of : {d : ℕ} → Progress d → List ℕ
steps_of p = steps_in p.values.items

-- with objects of these starts more
abbrev pub MeetsMore : {d : ℕ} → Progress d → Progress d → List (List Start) → Type 0
MeetsMore old new more =
    (starts : List (List Start)) → AllHaveMet old.objects.items starts → AllHaveMet new.objects.items (starts ++ more)
