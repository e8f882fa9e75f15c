-- How large the keys of a six-point polynomial are.
use Rattle.std.specs.Prelude.{◌≡◌, ⊤, ℕ, ◌+◌, ◌*◌, ◌<◌, List, [], ◌∷◌, map, sum, Ok}
use Rattle.std.specs.List.{AllByRecursion}
use Rattle.coordinate_model.specs.BracketPolynomial.{AllKeys}
use Rattle.coordinate_model.specs.Starts.{Entry}
use Rattle.coordinate_model.specs.Value.{Value as Entries}
use Rattle.bracket_poly.specs.Sizes.{KeyWithin, PolyWithin, AreWithin}
use Rattle.bracket_poly.specs.Tracked.{Tracked}
use Rattle.bracket_poly.specs.declared.value.Value.{Value}
use Rattle.conic_points.specs.Makings.{made_conic}

-- the polynomial has these points and parameters, twice the rows of these sizes and four more, and twice their degrees
abbrev pub HasDoubled : ℕ → ℕ → List (ℕ × ℕ) → Tracked → Type 0
HasDoubled points parameters sizes p =
    PolyWithin points parameters (2 * sum (map (λ s. s.0) sizes) + 4) (2 * sum (map (λ s. s.1) sizes)) p

-- so it is for whatever sizes the six values have
abbrev pub DoublesSizes : {d : ℕ} → List (Value d) → Tracked → Type 0
DoublesSizes six p =
    (points parameters : ℕ) (sizes : List (ℕ × ℕ)) → AreWithin points parameters sizes six
    → HasDoubled points parameters sizes p

-- ---- values of the model

-- the keys of the entry's polynomial have these points and parameters and this size, and its extensor has such points
pub record IsEntryOf (points parameters : ℕ) (size : ℕ × ℕ) (e : Entry) : Type 0 where
  pub points_below : AllByRecursion (λ p. p < points) e.0
  pub keys : AllKeys (KeyWithin points parameters size.0 size.1) e.1

module _ (points parameters : ℕ) where
  -- the values are so, each with its size
  abbrev pub HaveSizes : List (ℕ × ℕ) → List Entries → Type 0
  HaveSizes [] [] = ⊤
  HaveSizes (s ∷ sizes) (v ∷ vs) = AllByRecursion (IsEntryOf points parameters s) v × HaveSizes sizes vs
  HaveSizes sizes vs = ⊥

-- what is made of six values doubles their sizes
abbrev pub MadeDoubles : Type 0
MadeDoubles =
    (points parameters : ℕ) (s1 s2 s3 s4 s5 s6 : ℕ × ℕ) (p1 p2 p3 p4 p5 p6 : Entries) (p : Tracked)
    → made_conic p1 p2 p3 p4 p5 p6 ≡ Ok p
    → HaveSizes points parameters (s1 ∷ s2 ∷ s3 ∷ s4 ∷ s5 ∷ s6 ∷ []) (p1 ∷ p2 ∷ p3 ∷ p4 ∷ p5 ∷ p6 ∷ [])
    → HasDoubled points parameters (s1 ∷ s2 ∷ s3 ∷ s4 ∷ s5 ∷ s6 ∷ []) p
