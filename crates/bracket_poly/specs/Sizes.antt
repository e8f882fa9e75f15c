-- How large keys are, and the extensors of entries of values.
use Rattle.std.specs.Prelude.{◌≡◌, ⊤, ℕ, ◌<◌, ◌≤◌, List, [], ◌∷◌, drop, length}
use Rattle.std.specs.List.{AllByRecursion}
use Rattle.coordinate_model.specs.Key.{Key}
use Rattle.coordinate_model.specs.BracketPolynomial.{AllKeys}
use Rattle.bracket_terms.specs.declared.extensor.Extensor.{Extensor}
use Rattle.bracket_terms.specs.Joins.{points_of}
use Rattle.bracket_poly.specs.declared.value.Value.{Value}
use Rattle.bracket_poly.specs.Kept.{TrackedOf}
use Rattle.bracket_poly.specs.Tracked.{Tracked}

-- the key has points below this number, no parameter from that number on, at most so many rows, and no exponent that is
-- greater than the degree
pub record KeyWithin (points parameters rows degree : ℕ) (k : Key) : Type 0 where
  pub points_below : AllByRecursion (λ row. AllByRecursion (λ p. p < points) row) k.rows
  pub no_others : AllByRecursion (λ e. e ≡ 0) (drop parameters k.exponents)
  pub few_rows : length k.rows ≤ rows
  pub small : AllByRecursion (λ e. e ≤ degree) k.exponents

-- the keys of the entry's polynomial are so, and its extensor has such points
pub record EntryWithin {d : ℕ} (points parameters rows degree : ℕ) (e : Extensor × TrackedOf d) : Type 0 where
  pub points_below : AllByRecursion (λ p. p < points) (points_of e.0)
  pub keys : AllKeys (KeyWithin points parameters rows degree) e.1.tracked.sum

-- the keys of the polynomial are so, and those that it has met
pub record PolyWithin (points parameters rows degree : ℕ) (p : Tracked) : Type 0 where
  pub keys : AllKeys (KeyWithin points parameters rows degree) p.sum
  pub met : AllByRecursion (KeyWithin points parameters rows degree) p.met

module _ {d : ℕ} (points parameters : ℕ) where
  -- the values are so, each with its number of rows and its degree
  abbrev pub AreWithin : List (ℕ × ℕ) → List (Value d) → Type 0
  AreWithin [] [] = ⊤
  AreWithin (s ∷ sizes) (v ∷ vs) = AllByRecursion (EntryWithin points parameters s.0 s.1) v.entries × AreWithin sizes vs
  AreWithin sizes vs = ⊥
