-- Values: objects as sums of bracket polynomials times extensors of free points (Sturmfels, Algorithms in Invariant
-- Theory, section 3.3).
use Rattle.std.specs.Prelude.{◌≡◌, ℕ, ◌≤◌, ◌==◌, if◌then◌else◌, T, true, List, map, length}
use Rattle.std.specs.Coded.{le_prop}
use Rattle.std.specs.FinMap.{is_sorted}
use Rattle.std.specs.List.{AllByRecursion, AllByRecursion-prop}
use Rattle.std.proofs.Math.Nat.{ℕ_set}
use Rattle.std.proofs.Math.Bool.{Bool-set}
use lib.Dec.{T_prop}
use Rattle.coordinate_model.specs.Sequences.{IsRank}
use Rattle.coordinate_model.specs.Key.{row_cmp}
use Rattle.coordinate_model.specs.Value.{Value, HasStep}
use Rattle.coordinate_model.specs.Starts.{Entry, has_term}
use Rattle.bracket_terms.specs.declared.extensor.Extensor.{Extensor}
use Rattle.bracket_terms.specs.Joins.{points_of}
use Rattle.bracket_poly.specs.Kept.{TrackedOf}

-- an entry of the code as one of the model
abbrev pub entry_of : {d : ℕ} → Extensor × TrackedOf d → Entry
entry_of e = (points_of e.0, e.1.tracked.sum)

-- entries of the code as a value of the model
abbrev pub value_of : {d : ℕ} → List (Extensor × TrackedOf d) → Value
value_of entries = map entry_of entries

-- how many points the extensors of a value have: as many as its step, and none where that is the rank
abbrev pub extensor_size : ℕ → ℕ → ℕ
extensor_size d step = if step == d then 0 else step

-- a value of rank d and this step: the extensors have their number of points and strictly ascend, and every polynomial
-- has a term
pub record IsValue (d step : ℕ) (entries : List (Extensor × TrackedOf d)) : Type 0 where
  pub rank : IsRank d
  pub within : step ≤ d
  pub sizes : HasStep (extensor_size d step) (value_of entries)
  pub ascending : T (is_sorted row_cmp (value_of entries))
  pub terms : AllByRecursion (λ e. has_term e ≡ true) (value_of entries)

-- entries are a value in one way at most
pub value-prop : (d step : ℕ) (entries : List (Extensor × TrackedOf d)) → IsProp (IsValue d step entries)
value-prop d step entries =
    hlevel (
      ℕ_set,
      le_prop,
      Bool-set,
      T_prop (is_sorted row_cmp (value_of entries)),
      AllByRecursion-prop (λ e. length e.0 ≡ extensor_size d step) (λ e. ℕ_set _ _) (value_of entries),
      AllByRecursion-prop (λ e. has_term e ≡ true) (λ e. Bool-set _ _) (value_of entries),
    )
