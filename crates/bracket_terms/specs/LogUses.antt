-- The use that a log holds.
use Rattle.std.specs.Prelude.{ℕ}
use Rattle.coordinate_model.specs.Syzygy.{Use}
use Rattle.bracket_terms.specs.Uses.{use_by}
use Rattle.bracket_terms.specs.declared.log_use.LogUse.{LogUse}

-- the use of a syzygy that it stands for
abbrev pub use_of : {d : ℕ} → LogUse d → Use
use_of u = use_by u.multiplier u.params u.rest u.alpha u.beta u.gamma
