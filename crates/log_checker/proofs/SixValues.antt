-- The copies of six values.
use Rattle.std.proofs.Common.{◌≡◌, ℕ, zero, suc, ◌<◌, List, [], ◌∷◌, map, length, sym, ap, subst, ◌∙◌, arith}
use Rattle.std.proofs.lemmas.List.{length-map}
use Rattle.std.specs.Prelude.{slice_index_or}
use Rattle.std.specs.List.{AllByRecursion}
use Rattle.coordinate_model.specs.Value as model
use Rattle.bracket_terms.specs.declared.extensor.Extensor.{Extensor}
use Rattle.bracket_poly.specs.Kept.{TrackedOf}
use Rattle.bracket_poly.specs.Values.{value_of}
use Rattle.bracket_poly.specs.declared.value.Value.{Value}
use Rattle.conic_points.specs.Points as conic
use Rattle.conic_points.specs.Points.{values_of}
use Rattle.log_checker.specs.Ready.{IsPoint, IsSmall, step_at}
use Rattle.log_checker.specs.Seen.{steps_in}

head_same : {A : Type 0} (x y : A) (xs ys : List A) → x ∷ xs ≡ y ∷ ys → (x ≡ y) × (xs ≡ ys)
head_same x y xs ys e = (cc, cc)

-- the numbers of points are those of values
pub points_there : {d : ℕ} (vs : List (Value d)) (ns : List ℕ) → AllByRecursion (IsPoint (steps_in vs)) ns
    → AllByRecursion (λ n. n < length vs) ns
points_there vs [] h = tt
points_there vs (n ∷ ns) h =
    let e : length (steps_in vs) ≡ length vs = length-map vs (λ v. v.step) in
    let l = h.0.earlier in
    (omega arith, points_there vs ns h.1)

-- copies are as many as the numbers
pub as_many : {d : ℕ} (steps : List ℕ) (copies : List (Value d)) (ns : List ℕ)
    → steps_in copies ≡ map (step_at steps) ns → length copies ≡ length ns
as_many steps copies ns e =
    sym (length-map copies (λ v. v.step)) ∙ ap (λ (ks : List ℕ). length ks) e ∙ length-map ns (step_at steps)

-- copies of points are points
pub copies_are_points : {d : ℕ} (steps : List ℕ) (copies : List (Value d)) (ns : List ℕ)
    → steps_in copies ≡ map (step_at steps) ns → AllByRecursion (IsPoint steps) ns
    → AllByRecursion (λ v. v.step ≡ 1) copies
copies_are_points steps [] ns e h = tt
copies_are_points steps (v ∷ vs) [] e h = absurd cc
copies_are_points steps (v ∷ vs) (n ∷ ns) e h =
    let both = head_same v.step (step_at steps n) (steps_in vs) (map (step_at steps) ns) e in
    (both.0 ∙ h.0.one, copies_are_points steps vs ns both.1 h.1)

small_there : (values : List model.Value) (n : ℕ) → AllByRecursion IsSmall values → IsSmall (slice_index_or values n [])
small_there [] n h = tt
small_there (v ∷ values) zero h = h.0
small_there (v ∷ values) (suc n) h = small_there values n h.1

small_entries : {d : ℕ} (entries : List (Extensor × TrackedOf d)) → IsSmall (value_of entries)
    → AllByRecursion conic.IsSmall entries
small_entries [] h = tt
small_entries (e ∷ entries) h = (h.0, small_entries entries h.1)

-- and those of small values are small
pub copies_are_small : {d : ℕ} (values : List model.Value) (copies : List (Value d)) (ns : List ℕ)
    → values_of copies ≡ map (λ n. slice_index_or values n []) ns → AllByRecursion IsSmall values
    → AllByRecursion (λ v. AllByRecursion conic.IsSmall v.entries) copies
copies_are_small values [] ns e h = tt
copies_are_small values (v ∷ vs) [] e h = absurd cc
copies_are_small values (v ∷ vs) (n ∷ ns) e h =
    let both = head_same (value_of v.entries) (slice_index_or values n []) (values_of vs)
    (map (λ n. slice_index_or values n []) ns) e in (
      small_entries v.entries (subst IsSmall (sym both.0) (small_there values n h)),
      copies_are_small values vs ns both.1 h,
    )
