-- The polynomials of extensors that the code keeps while it adds products.
use Rattle.std.specs.Prelude.{◌≡◌, ℕ, ◌≤◌, List, map}
use Rattle.std.specs.Coded.{le_prop}
use Rattle.std.specs.List.{AllByRecursion, AllByRecursion-prop}
use Rattle.std.proofs.Math.Nat.{ℕ_set}
use Rattle.coordinate_model.specs.Sequences.{IsRank}
use Rattle.bracket_terms.specs.declared.extensor.Extensor.{Extensor}
use Rattle.bracket_terms.specs.Joins.{points_of}
use Rattle.bracket_poly.specs.Tracked.{Tracked}
use Rattle.bracket_poly.specs.Kept.{TrackedOf}
use Rattle.bracket_poly.specs.Values.{extensor_size}

-- extensors of the code with their polynomials, by their points
abbrev pub seen : {d : ℕ} → List (Extensor × TrackedOf d) → List (List ℕ × Tracked)
seen entries = map (λ e. (points_of e.0, e.1.tracked)) entries

-- the extensors are those of a value of rank d and this step
pub record AreOfStep (d step : ℕ) (entries : List (Extensor × TrackedOf d)) : Type 0 where
  pub rank : IsRank d
  pub within : step ≤ d
  pub sizes : AllByRecursion (λ e. e.0.size ≡ extensor_size d step) entries

-- they are in one way at most
pub of_step-prop : (d step : ℕ) (entries : List (Extensor × TrackedOf d)) → IsProp (AreOfStep d step entries)
of_step-prop d step entries =
    hlevel (le_prop, AllByRecursion-prop (λ e. e.0.size ≡ extensor_size d step) (λ e. ℕ_set _ _) entries)
