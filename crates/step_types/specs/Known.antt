-- What is known at a place of a text: the objects made before it, and the parameters used before it.
use Rattle.std.specs.Prelude.{◌≡◌, ◌≤◌, ℕ, false, List, [], ◌∷◌, ◌++◌, map, Option, Some, None, if◌then◌else◌}
use Rattle.std.specs.List.{AllByRecursion, list_any}
use Rattle.construction_reader.specs.Words.{◌is◌}
use Rattle.construction_reader.specs.Said.{Sentence}
use Rattle.construction_reader.specs.Grammar.{params_with}
use Rattle.step_types.specs.declared.measure.Measure.{Measure}

-- the objects made before, each with its measure, and the parameters used before
pub record Known : Type 0 where
  pub made : List (List ℕ × Measure)
  pub params : List (List ℕ)

-- at the head of a text
abbrev pub nothing : Known
nothing = record { made = []; params = [] }

-- the measure of the object of this name
abbrev pub found : List ℕ → List (List ℕ × Measure) → Option Measure
found name [] = None
found name (entry ∷ entries) = if name is entry.0 then Some entry.1 else found name entries

-- a step of at most 4, at most 64 rows, and a degree of at most 1000
pub record IsWithin (m : Measure) : Type 0 where
  pub step : m.step ≤ 4
  pub rows : m.rows ≤ 64
  pub degree : m.degree ≤ 1000

-- each object is within the limits
abbrev pub AreWithin : List (List ℕ × Measure) → Type 0
AreWithin made = AllByRecursion (λ entry. IsWithin entry.1) made

-- the names of the objects that the sentence makes
abbrev pub names_made : Sentence → List (List ℕ)
names_made (Sentence.Free names) = names
names_made (Sentence.Define kind name recipe) = name ∷ []
names_made (Sentence.Conclude claim) = []

-- these names, each an object of this measure
abbrev pub entries_of : Measure → List (List ℕ) → List (List ℕ × Measure)
entries_of m names = map (λ name. (name, m)) names

-- what is known behind a sentence that has this measure
abbrev pub known_with : Known → Sentence → Measure → Known
known_with known s m = record {
  made = known.made ++ entries_of m (names_made s);
  params = params_with known.params s;
}

-- none of the names is of an object, and none stands twice
abbrev pub AreNew : List (List ℕ × Measure) → List (List ℕ) → Type 0
AreNew made [] = Unit {0}
AreNew made (name ∷ names) =
    (found name made ≡ None) × (list_any (λ other. other is name) names ≡ false) × AreNew made names
