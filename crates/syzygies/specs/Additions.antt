-- The terms that a use adds, one by one.
use Rattle.std.specs.Prelude.{ℤ, ◌*ℤ◌}
use Rattle.coordinate_model.specs.Key.{Key, key_times}
use Rattle.coordinate_model.specs.Syzygy.{Use, use_key}

-- a term of the syzygy with the rest rows merged in, times the parameters and the multiplier
abbrev pub addition : Use → Key × ℤ → Key × ℤ
addition u t = (key_times (use_key u) t.0, u.multiplier *ℤ t.1)
