-- Starts that are rewritten one after another within one budget.
use Rattle.std.proofs.Common.{◌≡◌, ℕ, Bool, zero, suc, ◌-◌, ◌<◌, ◌≤◌, List, [], ◌∷◌, ◌++◌, length, get_or, sym, ap}
use Rattle.std.proofs.Common.{subst, ◌∙◌, arith}
use Rattle.std.proofs.Common.{append_assoc}
use Rattle.std.specs.Prelude.{Option, Some, None}
use Rattle.coordinate_model.specs.Syzygy.{Use, additions}
use Rattle.bracket_terms.specs.declared.extensor.Extensor.{Extensor}
use Rattle.bracket_poly.specs.Kept.{TrackedOf}
use Rattle.bracket_poly.specs.Products.{HasDegree}
use Rattle.bracket_poly.specs.Sections.{Rewritten}
use Rattle.bracket_poly.specs.Tracked.{Tracked, Limit, plus_terms, first_limit}
use Rattle.straightening.specs.Runs.{Run, Stop, turns_stop, limit_stop, ended, after_use, run}
use Rattle.straightening.specs.Turns.{turn}
use Rattle.cayley_run.specs.Sections.{Work, work, rewritten, Sections, in_front, run_starts}
use Rattle.shuffle_meet.specs.Stops.{Start}
use Rattle.cayley_run.specs.Ready.{AreSmall}
use Rattle.cayley_run.specs.Seen.{starts_of}

-- the turns of a run by its first use, of which so many are left
turns_by : (budget : ℕ) (p : Tracked) (o : Option Use)
    → ((u : Use) → length (run budget (plus_terms p (additions u))).uses ≤ budget)
    → length (elim o as (λ _. Run) [
      | None ↦ ended p None
      | Some u ↦ elim (first_limit p (additions u)) [
        | Some limit ↦ ended p (Some (limit_stop limit))
        | None ↦ after_use u (run budget (plus_terms p (additions u)))
      ]
    ]).uses
    ≤ suc budget
turns_by budget p None h = omega arith
turns_by budget p (Some u) h = by_limit (first_limit p (additions u)) (h u)
  where
    by_limit : (o : Option Limit) → length (run budget (plus_terms p (additions u))).uses ≤ budget
        → length (elim o as (λ _. Run) [
          | Some limit ↦ ended p (Some (limit_stop limit))
          | None ↦ after_use u (run budget (plus_terms p (additions u)))
        ]).uses
        ≤ suc budget
    by_limit (Some limit) h = omega arith
    by_limit None h = omega arith

-- a run makes no more turns than it may
pub turns_within : (budget : ℕ) (p : Tracked) → length (run budget p).uses ≤ budget
turns_within zero p = by_turn (turn p.sum)
  where
    by_turn : (o : Option Use)
        → length (elim o as (λ _. Run) [ None ↦ ended p None | Some u ↦ ended p (Some turns_stop) ]).uses ≤ zero
    by_turn None = omega arith
    by_turn (Some u) = omega arith
turns_within (suc budget) p =
    turns_by budget p (turn p.sum) (λ u. turns_within budget (plus_terms p (additions u)))

-- sections behind these
abbrev pub behind : List Rewritten → Sections → Sections
behind ss others =
    record { sections = ss ++ others.sections; left = others.left; stop = others.stop }

-- the starts are rewritten up to the last ones, with so many turns left
abbrev pub AreRewritten : Bool → ℕ → List Start → List Rewritten → ℕ → List Start → Type 0
AreRewritten contract budget all ss left starts =
    run_starts contract budget all ≡ behind ss (run_starts contract left starts)

module _ (contract : Bool) (budget : ℕ) (all : List Start) (ss : List Rewritten) (left : ℕ) (start : Start)
    (starts : List Start)
    (h : AreRewritten contract budget all ss left (start ∷ starts)) where
  abbrev w : Work
  w = work contract left start.1

  abbrev by_stop : Option Stop → Sections
  by_stop o = elim o [
    | Some stop ↦ record { sections = rewritten start w ∷ []; left = left - length w.turns.uses; stop = Some stop }
    | None ↦ in_front (rewritten start w) (run_starts contract (left - length w.turns.uses) starts)
  ]

  -- one more
  pub one_more : w.turns.stop ≡ None → AreRewritten contract budget all (ss ++ rewritten start w ∷ [])
      (left - length w.turns.uses) starts
  one_more e =
      h ∙ ap (λ o. behind ss (by_stop o)) e
      ∙ ap (λ xs. record {
        sections = xs;
        left = (run_starts contract (left - length w.turns.uses) starts).left;
        stop = (run_starts contract (left - length w.turns.uses) starts).stop;
      })
      (sym (append_assoc ss (rewritten start w ∷ [])
      (run_starts contract (left - length w.turns.uses) starts).sections))

  -- the last one
  pub stops_here : (stop : Stop) → w.turns.stop ≡ Some stop
      → run_starts contract budget all
      ≡ record { sections = ss ++ rewritten start w ∷ []; left = left - length w.turns.uses; stop = Some stop }
  stops_here stop e = h ∙ ap (λ o. behind ss (by_stop o)) e

-- one of starts that are small is small
pub small_at : {d : ℕ} (xs : List (Extensor × TrackedOf d)) (i : ℕ) (x : Extensor × TrackedOf d) → i < length xs
    → x ≡ get_or xs i x → AreSmall (starts_of xs) → HasDegree 1000 x.1.tracked.sum
small_at [] i x l e h = absurd (omega arith)
small_at {d} (y ∷ xs) zero x l e h = subst (λ (z : Extensor × TrackedOf d). HasDegree 1000 z.1.tracked.sum) (sym e) h.0
small_at (y ∷ xs) (suc i) x l e h = small_at xs i x (omega arith) e h.1
