-- Keys in ascending order.
use Rattle.std.specs.Prelude.{true, List}
use Rattle.std.specs.Set.{sorted_merge}
use Rattle.coordinate_model.specs.Key.{Key, key_cmp}

-- the keys of both lists in ascending order, where both ascend
abbrev pub merged : List Key → List Key → List Key
merged = sorted_merge key_cmp true
