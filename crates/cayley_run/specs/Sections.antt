-- The sections of an object: each of its starts made normal, by passes of contraction where they are asked for and then
-- by turns, one start after another within one budget of turns.
use Rattle.std.specs.Prelude.{ℕ, ◌-◌, Bool, if◌then◌else◌, List, [], ◌∷◌, ◌++◌, length, Option, Some, None}
use Rattle.coordinate_model.specs.BracketPolynomial.{BracketPolynomial}
use Rattle.bracket_poly.specs.Sections.{Rewritten}
use Rattle.bracket_poly.specs.Tracked.{Tracked}
use Rattle.contraction.specs.Passes.{contracted}
use Rattle.shuffle_meet.specs.Stops.{Start}
use Rattle.straightening.specs.Runs.{Run, Stop, run, ended}

-- the passes with which a section begins, where they are asked for
abbrev pub passes_of : Bool → Tracked → Run
passes_of contract p = if contract then contracted p else ended p None

-- the turns behind passes, at most so many; none where a pass was stopped
abbrev pub turns_behind : ℕ → Run → Run
turns_behind budget passes = elim passes.stop [
  | Some stop ↦ ended passes.last (Some stop)
  | None ↦ run budget passes.last
]

-- how a polynomial was rewritten: the passes, and the turns behind them
pub record Work : Type 0 where
  pub passes : Run
  pub turns : Run

-- how one is rewritten, with passes where they are asked for, and at most so many turns
unfoldable pub work : Bool → ℕ → Tracked → Work
work contract budget p =
    record { passes = passes_of contract p; turns = turns_behind budget (passes_of contract p) }

-- the last polynomial of a run, unless it stopped
abbrev pub end_of : Run → Option BracketPolynomial
end_of r = elim r.stop [ Some stop ↦ None | None ↦ Some r.last.sum ]

-- a section: how the start was rewritten
abbrev pub rewritten : Start → Work → Rewritten
rewritten start w = record {
  scalar = start.0;
  start = start.1.sum;
  uses = w.passes.uses ++ w.turns.uses;
  end = end_of w.turns;
}

-- sections, the turns that are left behind them, and what stopped the last of them, if anything did
pub record Sections : Type 0 where
  pub sections : List Rewritten
  pub left : ℕ
  pub stop : Option Stop

-- one section before others
abbrev pub in_front : Rewritten → Sections → Sections
in_front s others = record { sections = s ∷ others.sections; left = others.left; stop = others.stop }

-- the sections of these starts, with passes where they are asked for, and with so many turns
abbrev pub run_starts : Bool → ℕ → List Start → Sections
run_starts contract budget [] = record { sections = []; left = budget; stop = None }
run_starts contract budget (start ∷ starts) =
    let w = work contract budget start.1 in
    let left = budget - length w.turns.uses in
    elim w.turns.stop [
      | Some stop ↦ record { sections = rewritten start w ∷ []; left = left; stop = Some stop }
      | None ↦ in_front (rewritten start w) (run_starts contract left starts)
    ]
