-- What the code makes of an instruction, as the definitions say it.
use Rattle.std.specs.Prelude.{◌≡◌, ℕ, ◌≤◌, List, [], ◌∷◌, ◌++◌, map, length, Result, IfOk, T}
use Rattle.std.specs.FinMap.{is_sorted}
use Rattle.std.specs.List.{AllByRecursion}
use Rattle.bracket_terms.specs.declared.extensor.Extensor.{Extensor}
use Rattle.bracket_poly.specs.Answers.{AnswersLimit}
use Rattle.bracket_poly.specs.Kept.{TrackedOf}
use Rattle.bracket_poly.specs.Values.{extensor_size, value_of}
use Rattle.bracket_poly.specs.declared.error.PolyError.{PolyError}
use Rattle.bracket_poly.specs.declared.value.Value.{Value}
use Rattle.cayley_terms.specs.declared.instr.Instr.{Instr}
use Rattle.cayley_terms.specs.Starts.{value_at}
use Rattle.conic_points.specs.Makings.{made_of}
use Rattle.coordinate_model.specs.Key.{row_cmp}
use Rattle.coordinate_model.specs.Starts.{Product}
use Rattle.coordinate_model.specs.Value as model
use Rattle.shuffle_meet.specs.Seen.{seen}
use Rattle.shuffle_meet.specs.Stops.{first_stop, tracked_entries, Start}
use Rattle.cayley_run.specs.MetKeys.{instr_starts, object_starts, claim_starts}
use Rattle.cayley_run.specs.Ready.{AreSmall}
use Rattle.cayley_run.specs.Results.{stop_of}
use Rattle.cayley_run.specs.Runs.{Log, with_starts, with_stop, with_object, with_conic, with_instr}
use Rattle.cayley_run.specs.Seen.{starts_of}
use Rattle.cayley_run.specs.declared.making.Made.{Made}
use Rattle.cayley_run.specs.declared.making.Made.TheVariants.{Point, Starts, Stop}

-- the log with what was made more
abbrev pub with_made : {d : ℕ} → ℕ → Made d → Log → Log
with_made step (Point value) log = record log { values = log.values ++ value_of value.entries ∷ [] }
with_made step (Starts starts) log = with_starts step (starts_of starts) log
with_made step (Stop kind) log = with_stop step (stop_of kind) log

-- behind these values, the instruction of this step adds what was made
abbrev pub AddsMade : {d : ℕ} → List model.Value → Instr → ℕ → Made d → Type 0
AddsMade {d} values instr step made =
    (log : Log) → log.values ≡ values → with_instr d log (instr, step) ≡ with_made step made log

-- where the answer is that of starts which add these products, their object of this step adds what was made
abbrev pub AddsProducts : {d : ℕ} → ℕ → Result (Value d) PolyError → Made d → Type 0
AddsProducts {d} step answer made =
    (ps : List Product) → AnswersLimit answer (first_stop [] ps)
    → IfOk answer (λ value. seen value.entries ≡ tracked_entries ps)
    → (log : Log) → with_object d step ps log ≡ with_made step made log

-- behind these values, the claim of this step that the six points of these numbers are on a conic adds what was made
abbrev pub AddsConic : {d : ℕ} → List model.Value → List ℕ → ℕ → Made d → Type 0
AddsConic values six step made =
    (log : Log) → log.values ≡ values → with_conic step six log ≡ with_made step made log

-- the starts of what was made
abbrev pub starts_made : {d : ℕ} → Made d → List (List Start)
starts_made (Point value) = []
starts_made (Starts starts) = starts_of starts ∷ []
starts_made (Stop kind) = [] ∷ []

-- behind these values, the instruction of this step has the starts of what was made
abbrev pub MakesStarts : {d : ℕ} → List model.Value → Instr → ℕ → Made d → Type 0
MakesStarts {d} values instr step made = starts_made made ≡ instr_starts d values (instr, step)

-- where the answer is that of starts which add these products, their object of this step has the starts that were made
abbrev pub MakesProducts : {d : ℕ} → ℕ → Result (Value d) PolyError → Made d → Type 0
MakesProducts {d} step answer made =
    (ps : List Product) → AnswersLimit answer (first_stop [] ps)
    → IfOk answer (λ value. seen value.entries ≡ tracked_entries ps)
    → starts_made made ≡ object_starts d step ps ∷ []

-- behind these values, the claim that the six points of these numbers are on a conic has the starts of what was made
abbrev pub MakesClaim : {d : ℕ} → List model.Value → List ℕ → Made d → Type 0
MakesClaim values six made = starts_made made ≡ claim_starts (made_of (map (value_at values) six)) ∷ []

-- starts that are small, with extensors of an object of this step, which strictly ascend
pub record AreStarts (d step : ℕ) (starts : List (Extensor × TrackedOf d)) : Type 0 where
  pub small : AreSmall (starts_of starts)
  pub sizes : AllByRecursion (λ e. length e.0 ≡ extensor_size d step) (value_of starts)
  pub ascending : T (is_sorted row_cmp (value_of starts))

-- what was made is of this step, and can be worked on
abbrev pub CanGoOn : {d : ℕ} → ℕ → Made d → Type 0
CanGoOn {d} step (Point value) = value.step ≡ step
CanGoOn {d} step (Starts starts) = (step ≤ d) × AreStarts d step starts
CanGoOn {d} step (Stop kind) = step ≤ d
