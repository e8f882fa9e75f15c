-- The entries of a map from keys to coefficients.
use Rattle.std.specs.Prelude.{ℤ, if◌then◌else◌}
use Rattle.std.specs.BTreeMap.{insert_entry, is_at}
use Rattle.std.specs.Map.{remove_entry}
use Rattle.coordinate_model.specs.Sums.{Terms, is_zero}
use Rattle.coordinate_model.specs.Key.{Key, key_cmp}

-- the coefficient put at the key, where 0 takes the key out
abbrev pub with_coefficient : Key → ℤ → Terms Key → Terms Key
with_coefficient k c es =
    if is_zero c then remove_entry (is_at (key_cmp k)) es else insert_entry key_cmp es k c
