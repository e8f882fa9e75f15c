-- The parameters that a recipe uses.
use Rattle.std.specs.Prelude.{ℕ, List, [], ◌∷◌, ◌++◌, if◌then◌else◌}
use Rattle.std.specs.List.{list_any}
use Rattle.construction_reader.specs.Words.{◌is◌}
use Rattle.construction_reader.specs.Said.{Recipe}

-- the names, and behind them this one where it is new
abbrev pub with_param : List (List ℕ) → List ℕ → List (List ℕ)
with_param params name = if list_any (λ p. p is name) params then params else params ++ name ∷ []

-- the names, and behind them the new parameters of the recipe
abbrev pub with_params : List (List ℕ) → Recipe → List (List ℕ)
with_params params (Recipe.Join a b) = params
with_params params (Recipe.Meet a b) = params
with_params params (Recipe.On a b s t) = with_param (with_param params s) t
with_params params (Recipe.Pascal five through) = params
