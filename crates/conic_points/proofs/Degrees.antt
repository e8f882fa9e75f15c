-- The exponents of brackets stay small, so that they can be multiplied.
use Rattle.std.specs.Prelude.{◌≡◌, ℕ, List, [], ◌∷◌, Ok}
use Rattle.std.specs.List.{AllByRecursion}
use Rattle.bracket_terms.specs.declared.extensor.Extensor.{Extensor}
use Rattle.bracket_poly.specs.Kept.{TrackedOf}
use Rattle.bracket_poly.specs.Products.{HasDegree}
use Rattle.bracket_poly.specs.Tracked.{Tracked}
use Rattle.bracket_poly.specs.Values.{value_of}
use Rattle.bracket_poly.specs.declared.value.Value.{Value}
use Rattle.bracket_poly.proofs.ProductKeys.{UpTo, up_to_times}
use Rattle.conic_points.specs.Makings.{made_bracket}
use Rattle.conic_points.specs.Points.{IsSmall, IsPoint, values_of}
use Rattle.conic_points.proofs.Graded.{ValueHas, bracket_has}

-- nothing is asked of points
abbrev Any : ℕ → Type 0
Any p = Unit {0}

small_value : {d : ℕ} (es : List (Extensor × TrackedOf d)) → AllByRecursion IsSmall es
    → ValueHas UpTo Any up_to_times tt (λ points any. tt) (0, 1000) (value_of es)
small_value [] h = tt
small_value (e ∷ es) h = (record { points = any _; keys = h.0 }, small_value es h.1)
  where
    any : (ps : List ℕ) → AllByRecursion Any ps
    any [] = tt
    any (p ∷ ps) = (tt, any ps)

pub bracket_degree : {d : ℕ} (a b c : Value d) (q : Tracked) → AllByRecursion IsPoint (a ∷ b ∷ c ∷ [])
    → made_bracket [] (values_of (a ∷ b ∷ c ∷ [])) [] ≡ Ok q → HasDegree 3000 q.sum
bracket_degree a b c q h e =
    (bracket_has UpTo Any up_to_times tt (λ points any. tt) [] tt [] (0, 1000) (0, 1000) ((0, 1000) ∷ []) (value_of a.entries)
    (value_of b.entries) (value_of c.entries ∷ []) q e tt (small_value a.entries h.0.small) (small_value b.entries h.1.0.small)
    (small_value c.entries h.1.1.0.small, tt)).keys
