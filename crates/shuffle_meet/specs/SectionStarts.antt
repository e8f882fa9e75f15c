-- Starts that make sections.
use Rattle.std.specs.Prelude.{ℕ, Bool, ◌==◌, ◌||◌, if◌then◌else◌, List, [], ◌∷◌}
use Rattle.coordinate_model.specs.Starts.{Product}
use Rattle.bracket_poly.specs.Tracked.{nothing}
use Rattle.shuffle_meet.specs.Stops.{Start, tracked_entries}

-- whether a step is that of a conclusion: 0 or the rank
abbrev pub is_conclusion : ℕ → ℕ → Bool
is_conclusion d step = step == 0 || step == d

-- the starts that make sections, of an object of this step in rank d that adds these products: those with a term; and of
-- a conclusion always one, which is zero where none has a term
abbrev pub section_starts : ℕ → ℕ → List Product → List Start
section_starts d step ps = elim (tracked_entries ps) [
  | [] ↦ if is_conclusion d step then ([], nothing) ∷ [] else []
  | start ∷ others ↦ start ∷ others
]
