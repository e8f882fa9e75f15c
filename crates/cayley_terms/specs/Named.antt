-- Lists in which names stand beside what they mean.
use Rattle.std.specs.Prelude.{ℕ, Bool, List, [], ◌∷◌, if◌then◌else◌, IsFalse}
use Rattle.std.specs.List.{position_or_len, list_any}
use Rattle.construction_reader.specs.Words.{◌is◌}

-- what the list has beside the name, or else this
abbrev pub named : {X : Type 0} → X → List (List ℕ × X) → List ℕ → X
named other [] name = other
named other (entry ∷ entries) name = if name is entry.0 then entry.1 else named other entries name

-- the place of the name in the list, or else its length
abbrev pub place_of : List ℕ → List (List ℕ) → ℕ
place_of name names = position_or_len (λ other. other is name) names

-- whether the list has the name
abbrev pub has_name : {X : Type 0} → List ℕ → List (List ℕ × X) → Bool
has_name name entries = list_any (λ entry. name is entry.0) entries

-- no name stands twice
abbrev pub AreDistinct : {X : Type 0} → List (List ℕ × X) → Type 0
AreDistinct [] = Unit {0}
AreDistinct (entry ∷ entries) = IsFalse (has_name entry.0 entries) × AreDistinct entries
