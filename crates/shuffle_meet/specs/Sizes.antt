-- How large the keys and extensors of a value are.
use Rattle.std.specs.Prelude.{ℕ, List}
use Rattle.std.specs.List.{AllByRecursion}
use Rattle.bracket_terms.specs.declared.extensor.Extensor.{Extensor}
use Rattle.bracket_poly.specs.Kept.{TrackedOf}
use Rattle.bracket_poly.specs.Sizes.{KeyWithin, EntryWithin}

-- all entries are so
abbrev pub IsWithin : {d : ℕ} → (points parameters rows degree : ℕ) → List (Extensor × TrackedOf d) → Type 0
IsWithin points parameters rows degree entries = AllByRecursion (EntryWithin points parameters rows degree) entries

-- and so are the keys that their polynomials have met
abbrev pub MetWithin : {d : ℕ} → (points parameters rows degree : ℕ) → List (Extensor × TrackedOf d) → Type 0
MetWithin points parameters rows degree entries =
    AllByRecursion (λ e. AllByRecursion (KeyWithin points parameters rows degree) e.1.tracked.met) entries
