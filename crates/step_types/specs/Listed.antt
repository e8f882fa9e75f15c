-- A map from names to measures, as the list of its entries.
use Rattle.std.specs.Prelude.{ℕ, List, map}
use Rattle.std.specs.Global.{Vec}
use Rattle.indexmap.specs.IndexMap.{IndexMap}
use Rattle.step_types.specs.declared.measure.Measure.{Measure}

-- a name of the map as its bytes, with its measure
abbrev pub entry_of : Vec ℕ × Measure → List ℕ × Measure
entry_of entry = (entry.0.items, entry.1)

-- each name with its measure, in the map's order
abbrev pub listed : {S : Type 0} → IndexMap (Vec ℕ) Measure S → List (List ℕ × Measure)
listed objects = map entry_of objects.entries
