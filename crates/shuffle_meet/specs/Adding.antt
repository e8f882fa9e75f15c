-- What is answered and left where products are added one after another, each to the polynomial of its extensor.
use Rattle.std.specs.Prelude.{◌≡◌, ℕ, ℤ, List, ◌++◌, Option, Result, OnOk}
use Rattle.coordinate_model.specs.Starts.{Product}
use Rattle.bracket_terms.specs.declared.extensor.Extensor.{Extensor}
use Rattle.bracket_terms.specs.Joins.{points_of}
use Rattle.bracket_poly.specs.Tracked.{Tracked}
use Rattle.bracket_poly.specs.declared.error.PolyError.{PolyError}
use Rattle.bracket_poly.specs.Answers.{AnswersLimit}
use Rattle.bracket_poly.specs.Kept.{TrackedOf}
use Rattle.shuffle_meet.specs.declared.starts.Starts.{Starts}
use Rattle.shuffle_meet.specs.Seen.{seen}
use Rattle.shuffle_meet.specs.Stops.{first_stop, tracked_starts}

-- the product of two polynomials of the code, a row and a sign, for the extensor
abbrev pub product_of : {d : ℕ} → Extensor → TrackedOf d → TrackedOf d → Option (List ℕ) → ℤ → Product
product_of extensor left right row sign = record {
  extensor = points_of extensor;
  left = left.tracked.sum;
  right = right.tracked.sum;
  row = row;
  sign = sign;
}

-- where the products before were added already, all of these are added too, or the error tells the first limit that one
-- of them passes
pub record AddsProducts {X : Type 0} (old : List (List ℕ × Tracked)) (ps : List Product) (result : Result X PolyError)
    (new : List (List ℕ × Tracked)) : Type 0 where
  pub answer : (before : List Product) → old ≡ tracked_starts before → AnswersLimit result (first_stop before ps)
  pub all : (before : List Product) → old ≡ tracked_starts before → OnOk result (new ≡ tracked_starts (before ++ ps))

-- so it is with the starts of the code
abbrev pub Adds : {d : ℕ} {X : Type 0} → Starts d → List Product → Result X PolyError → Starts d → Type 0
Adds old ps result new = AddsProducts (seen old.polys.entries) ps result (seen new.polys.entries)
