-- A map from names to numbers, as the list of its entries.
use Rattle.std.specs.Prelude.{ℕ, List, map}
use Rattle.std.specs.Global.{Vec}
use Rattle.indexmap.specs.IndexMap.{IndexMap}

-- a name of the map as its bytes, with its number
abbrev pub entry_of : Vec ℕ × ℕ → List ℕ × ℕ
entry_of entry = (entry.0.items, entry.1)

-- each name with its number, in the map's order
abbrev pub listed : {S : Type 0} → IndexMap (Vec ℕ) ℕ S → List (List ℕ × ℕ)
listed numbers = map entry_of numbers.entries
