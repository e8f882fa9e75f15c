-- What is kept of a run that is written as it goes, as the definitions say it.
use Rattle.std.specs.Prelude.{◌≡◌, ℕ, ◌+◌, ◌-◌, List, [], ◌∷◌, ◌++◌, length, slice_get, Option, Some, None}
use Rattle.std.specs.Option.{option_map}
use Rattle.coordinate_model.specs.BracketPolynomial.{BracketPolynomial}
use Rattle.coordinate_model.specs.Value as model
use Rattle.bracket_poly.specs.Tracked.{nothing}
use Rattle.bracket_poly.specs.Values.{value_of}
use Rattle.bracket_poly.specs.declared.value.Value.{Value}
use Rattle.cayley_terms.specs.declared.instr.Instr.{Instr}
use Rattle.conic_points.specs.Points.{values_of}
use Rattle.step_types.specs.declared.names.Names.{Names}
use Rattle.cayley_run.specs.Results.{stop_of}
use Rattle.cayley_run.specs.Runs.{Log, with_instr}
use Rattle.cayley_run.specs.Seen.{steps_in}
use Rattle.cayley_run.specs.Written.{AreNamed}
use Rattle.cayley_run.specs.declared.course.Course.{Course}
use Rattle.cayley_run.specs.declared.writing.Ending.{Ending}

-- the log says of the run what is kept of it
pub record IsCourseOf {d : ℕ} (c : Course d) (log : Log) : Type 0 where
  pub options : c.options ≡ log.options
  pub values : values_of c.values.items ≡ log.values
  pub count : c.objects ≡ length log.objects
  pub left : c.left ≡ log.left
  pub stop : option_map stop_of c.stop ≡ log.stop

-- all points and parameters of the objects up to the next instruction's have names
abbrev pub AreNextNamed : {d : ℕ} → Names → Course d → Instr → ℕ → Type 0
AreNextNamed {d} names c instr step =
    (log : Log) × IsCourseOf c log × AreNamed names (with_instr d log (instr, step)).objects

-- with an object of this step more, which ended so
pub record Finishes {d : ℕ} (old new : Course d) (step : ℕ) (e : Ending d) : Type 0 where
  pub options : new.options ≡ old.options
  pub values : values_of new.values.items ≡ values_of old.values.items ++ value_of e.entries.items ∷ []
  pub steps : steps_in new.values.items ≡ steps_in old.values.items ++ step ∷ []
  pub count : new.objects ≡ old.objects + 1
  pub left : new.left ≡ e.left
  pub stop : new.stop ≡ e.stop

-- with the value of a free point more
pub record AddsPoint {d : ℕ} (old new : Course d) (value : Value d) : Type 0 where
  pub options : new.options ≡ old.options
  pub values : values_of new.values.items ≡ values_of old.values.items ++ value_of value.entries ∷ []
  pub steps : steps_in new.values.items ≡ steps_in old.values.items ++ value.step ∷ []
  pub count : new.objects ≡ old.objects
  pub left : new.left ≡ old.left
  pub stop : new.stop ≡ old.stop

-- the last one
abbrev pub last_of : {A : Type 0} → List A → Option A
last_of xs = slice_get xs (length xs - 1)

-- the polynomial of the first entry, or 0
abbrev pub first_polynomial : model.Value → BracketPolynomial
first_polynomial [] = nothing.sum
first_polynomial (entry ∷ entries) = entry.1

-- that of the last value
abbrev pub last_polynomial : List model.Value → BracketPolynomial
last_polynomial values = elim (last_of values) [ None ↦ nothing.sum | Some v ↦ first_polynomial v ]
