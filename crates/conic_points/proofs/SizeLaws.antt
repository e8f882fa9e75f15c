-- How large the keys of the six-point polynomial are.
use Rattle.std.specs.Prelude.{◌≡◌, ℕ, suc, ◌<◌, List, [], ◌∷◌, length, Ok}
use Rattle.std.specs.List.{AllByRecursion}
use Rattle.std.proofs.Common.{refl, sym, ap, subst, subst₂, ◌∙◌}
use Rattle.coordinate_model.specs.Value.{Value as Entries}
use Rattle.bracket_terms.specs.declared.extensor.Extensor.{Extensor}
use Rattle.bracket_poly.specs.Kept.{TrackedOf}
use Rattle.bracket_poly.specs.Sizes.{KeyWithin, EntryWithin, AreWithin}
use Rattle.bracket_poly.specs.Tracked.{Tracked}
use Rattle.bracket_poly.specs.Values.{value_of}
use Rattle.bracket_poly.specs.declared.value.Value.{Value}
use Rattle.bracket_poly.proofs.Within.{within_times, within_none, within_row}
use Rattle.conic_points.specs.Makings.{made_of}
use Rattle.conic_points.specs.Points.{values_of}
use Rattle.conic_points.specs.Sizes.{HasDoubled, DoublesSizes, IsEntryOf, HaveSizes, MadeDoubles}
use Rattle.conic_points.proofs.Graded.{ValueHas, conic_has}
use Rattle.conic_points.proofs.Sixes.{AreSix, six_of}

module _ (points parameters : ℕ) where
  abbrev Sized : ℕ × ℕ → Entries → Type 0
  Sized =
      ValueHas (KeyWithin points parameters) (λ p. p < points) (within_times points parameters) (within_none points parameters)
      (within_row points parameters)

  sized : (s : ℕ × ℕ) (v : Entries) → AllByRecursion (IsEntryOf points parameters s) v → Sized s v
  sized s [] h = tt
  sized s (e ∷ v) h = (record { points = h.0.points_below; keys = h.0.keys }, sized s v h.1)

-- what is made of six values of the model
pub made_doubles : MadeDoubles
made_doubles points parameters s1 s2 s3 s4 s5 s6 p1 p2 p3 p4 p5 p6 p e h =
    let all = conic_has (KeyWithin points parameters) (λ p. p < points) (within_times points parameters)
    (within_none points parameters) (within_row points parameters) s1 s2 s3 s4 s5 s6 p1 p2 p3 p4 p5 p6 p e
    record {
      first = sized points parameters s1 p1 h.0;
      second = sized points parameters s2 p2 h.1.0;
      third = sized points parameters s3 p3 h.1.1.0;
      fourth = sized points parameters s4 p4 h.1.1.1.0;
      fifth = sized points parameters s5 p5 h.1.1.1.1.0;
      sixth = sized points parameters s6 p6 h.1.1.1.1.1.0;
    } in
    record { keys = all.keys; met = all.met }

-- entries of the code are entries of the model
entries_of : {d : ℕ} (points parameters : ℕ) (s : ℕ × ℕ) (es : List (Extensor × TrackedOf d))
    → AllByRecursion (EntryWithin points parameters s.0 s.1) es → AllByRecursion (IsEntryOf points parameters s) (value_of es)
entries_of points parameters s [] h = tt
entries_of points parameters s (e ∷ es) h =
    (record { points_below = h.0.points_below; keys = h.0.keys }, entries_of points parameters s es h.1)

-- so are values
values_have : {d : ℕ} (points parameters : ℕ) (sizes : List (ℕ × ℕ)) (vs : List (Value d))
    → AreWithin points parameters sizes vs → HaveSizes points parameters sizes (values_of vs)
values_have points parameters [] [] h = tt
values_have points parameters (s ∷ sizes) (v ∷ vs) h =
    (entries_of points parameters s v.entries h.0, values_have points parameters sizes vs h.1)
values_have points parameters [] (v ∷ vs) h = absurd h
values_have points parameters (s ∷ sizes) [] h = absurd h

-- sizes are as many as the values
as_many : {d : ℕ} (points parameters : ℕ) (sizes : List (ℕ × ℕ)) (vs : List (Value d)) → AreWithin points parameters sizes vs
    → length sizes ≡ length vs
as_many points parameters [] [] h = refl
as_many points parameters (s ∷ sizes) (v ∷ vs) h = ap suc (as_many points parameters sizes vs h.1)
as_many points parameters [] (v ∷ vs) h = absurd h
as_many points parameters (s ∷ sizes) [] h = absurd h

-- the six-point polynomial of six values
pub doubles : {d : ℕ} (six : List (Value d)) (p : Tracked) → length six ≡ 6 → made_of (values_of six) ≡ Ok p
    → DoublesSizes six p
doubles {d} six p long made points parameters sizes h =
    let vs : AreSix six = six_of six long in
    let ss : AreSix sizes = six_of sizes (as_many points parameters sizes six h ∙ long) in
    subst (λ (ns : List (ℕ × ℕ)). HasDoubled points parameters ns p) (sym ss.same)
    (made_doubles points parameters ss.first ss.second ss.third ss.fourth ss.fifth ss.sixth (value_of vs.first.entries)
    (value_of vs.second.entries) (value_of vs.third.entries) (value_of vs.fourth.entries) (value_of vs.fifth.entries)
    (value_of vs.sixth.entries) p (sym (ap (λ us. made_of (values_of us)) vs.same) ∙ made)
    (subst₂ (λ (ns : List (ℕ × ℕ)) (us : List (Value d)). HaveSizes points parameters ns (values_of us)) ss.same vs.same
    (values_have points parameters sizes six h)))
