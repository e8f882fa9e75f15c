-- Runs: turns one after another, until nothing is left to rewrite or a limit is passed.
use Rattle.std.specs.Prelude.{ℕ, zero, suc, List, [], ◌∷◌, Option, Some, None}
use Rattle.coordinate_model.specs.Syzygy.{Use, additions}
use Rattle.bracket_poly.specs.Tracked.{Tracked, Limit, plus_terms, first_limit}
use Rattle.straightening.specs.Turns.{turn}

-- why a run stopped: a turn was left when the budget was spent, or a limit was passed
pub data Stop : Type 0 where
  turns_stop : Stop
  limit_stop : Limit → Stop

-- the uses of the turns that were finished, the polynomial behind them, and what stopped the run, if anything did
pub record Run : Type 0 where
  pub uses : List Use
  pub last : Tracked
  pub stop : Option Stop

-- a run that makes no turn
abbrev pub ended : Tracked → Option Stop → Run
ended p stop = record { uses = []; last = p; stop = stop }

-- a run behind one turn
abbrev pub after_use : Use → Run → Run
after_use u r = record { uses = u ∷ r.uses; last = r.last; stop = r.stop }

-- the run with at most so many turns
abbrev pub run : ℕ → Tracked → Run
run zero p = elim (turn p.sum) [ None ↦ ended p None | Some u ↦ ended p (Some turns_stop) ]
run (suc budget) p = elim (turn p.sum) [
  | None ↦ ended p None
  | Some u ↦ elim (first_limit p (additions u)) [
    | Some limit ↦ ended p (Some (limit_stop limit))
    | None ↦ after_use u (run budget (plus_terms p (additions u)))
  ]
]
