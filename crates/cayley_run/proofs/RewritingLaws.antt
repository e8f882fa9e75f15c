-- The rewritings of the code are the works of the definitions.
use Rattle.std.proofs.Common.{◌≡◌, ℕ, Bool, true, false, List, [], ◌++◌, map, length, Option, Some, None, refl, sym}
use Rattle.std.proofs.Common.{ap, subst, ◌∙◌}
use Rattle.std.proofs.Common.{append-nil}
use Rattle.std.specs.Prelude.{Result, Ok, Err, IfOk}
use Rattle.std.specs.Option.{option_map}
use Rattle.coordinate_model.specs.Syzygy.{Use}
use Rattle.bracket_poly.specs.Kept.{TrackedOf}
use Rattle.bracket_poly.specs.Tracked.{Tracked, Limit, coefficient_limit, keys_limit}
use Rattle.bracket_terms.specs.LogUses.{use_of}
use Rattle.straightening.specs.Runs.{Run, Stop, limit_stop, ended, run}
use Rattle.straightening.specs.declared.straight.Partial.{Partial}
use Rattle.contraction.specs.Passes.{contracted}
use Rattle.contraction.specs.Results.{IsEnd, IsPart}
use Rattle.contraction.specs.declared.contracted.Contracted.{Contracted}
use Rattle.cayley_run.specs.Results.{stop_of}
use Rattle.cayley_run.specs.Sections.{turns_behind, work}
use Rattle.cayley_run.specs.Seen.{IsRewriting, IsBehind}
use Rattle.cayley_run.specs.declared.answer.StopKind.{StopKind}
use Rattle.cayley_run.specs.declared.rewriting.Rewriting.{Rewriting}
use Rattle.cayley_run.proofs.WorkLaws.{work_passes, work_turns}

-- the rewriting is that of the work
abbrev pub IsWorkOf : {d : ℕ} → Rewriting d → Bool → ℕ → Tracked → Type 0
IsWorkOf r contract budget p = IsRewriting r (work contract budget p).passes.uses (work contract budget p).turns

-- passes and turns are those of the work
of_work : {d : ℕ} (r : Rewriting d) (contract : Bool) (budget : ℕ) (p : Tracked) (passes : List Use) (turns : Run)
    → (work contract budget p).passes.uses ≡ passes → (work contract budget p).turns ≡ turns → IsRewriting r passes
    turns
    → IsWorkOf r contract budget p
of_work r contract budget p passes turns e f h =
    subst (λ (us : List Use). IsRewriting r us (work contract budget p).turns) (sym e)
    (subst (λ (t : Run). IsRewriting r passes t) (sym f) h)

-- turns alone
pub plain_work : {d : ℕ} (r : Rewriting d) (contract : Bool) (budget : ℕ) (p : Tracked) → contract ≡ false
    → IsRewriting r [] (run budget p) → IsWorkOf r contract budget p
plain_work r contract budget p e h =
    subst (λ (b : Bool). IsWorkOf r b budget p) (sym e)
    (of_work r false budget p [] (run budget p) (ap (λ (f : Run). f.uses) (work_passes false budget p))
    (work_turns false budget p) h)

-- the same of what a call answers
pub plain_result : {d : ℕ} {E : Type 0} (result : Result (Rewriting d) E) (contract : Bool) (budget : ℕ)
    (p q : TrackedOf d) → contract ≡ false → q ≡ p → IfOk result (λ r. IsRewriting r [] (run budget q.tracked))
    → IfOk result (λ r. IsWorkOf r contract budget p.tracked)
plain_result (Err error) contract budget p q e same h = tt
plain_result {d = d} (Ok r) contract budget p q e same h =
    plain_work r contract budget p.tracked e
    (subst (λ (t : TrackedOf d). IsRewriting r [] (run budget t.tracked)) same h)

-- the passes, and what follows them
contracted_uses : (budget : ℕ) (p : Tracked) → (work true budget p).passes.uses ≡ (contracted p).uses
contracted_uses budget p = ap (λ (f : Run). f.uses) (work_passes true budget p)

abbrev turns_by : ℕ → Tracked → Option Stop → Run
turns_by budget p o = elim o [
  | Some stop ↦ ended (contracted p).last (Some stop)
  | None ↦ run budget (contracted p).last
]

module _ {d : ℕ} (budget : ℕ) (p : Tracked) where
  -- turns behind passes
  pub contracted_work : (r turned : Rewriting d) (passes : List Use) (last : Tracked) → (contracted p).stop ≡ None
      → passes ≡ (contracted p).uses → last ≡ (contracted p).last → IsRewriting turned [] (run budget last)
      → IsBehind r turned passes → IsWorkOf r true budget p
  contracted_work r turned passes last none uses same h b =
      of_work r true budget p passes (run budget last) (contracted_uses budget p ∙ sym uses)
      (work_turns true budget p ∙ ap (turns_by budget p) none ∙ ap (λ (q : Tracked). run budget q) (sym same))
      (record {
        uses = b.uses ∙ ap (λ (us : List Use). passes ++ us) h.uses;
        turns = b.turns ∙ h.turns;
        end = ap (λ o. option_map (λ q. q.tracked.sum) o) b.end ∙ h.end;
        stop = ap (λ (o : Option StopKind). option_map stop_of o) b.stop ∙ h.stop;
      })

  -- passes that were stopped
  pub stopped_work : (r : Rewriting d) (part : Partial d) (limit : Limit) (kind : StopKind) → IsPart part
      (contracted p) limit
      → stop_of kind ≡ limit_stop limit → r.uses ≡ part.uses → r.turns ≡ part.turns → r.end ≡ None → r.stop ≡ Some kind
      → IsWorkOf r true budget p
  stopped_work r part limit kind is same uses turns end stop =
      of_work r true budget p (contracted p).uses (ended (contracted p).last (Some (limit_stop limit)))
      (contracted_uses budget p)
      (work_turns true budget p ∙ ap (turns_by budget p) is.stopped)
      (record {
        uses = ap (λ us. map use_of us) uses ∙ is.uses ∙ sym (append-nil (contracted p).uses);
        turns = turns ∙ is.turns;
        end = ap (λ o. option_map (λ q. q.tracked.sum) o) end;
        stop = ap (λ (o : Option StopKind). option_map stop_of o) stop ∙ ap Some same;
      })

  -- the same of what a call answers
  pub contracted_result : {E : Type 0} (result : Result (Rewriting d) E) (turned : Rewriting d) (done : Contracted d)
      → IsEnd done (contracted p) → IsRewriting turned [] (run budget done.poly.tracked)
      → IfOk result (λ r. IsBehind r turned (map use_of done.uses)) → IfOk result (λ r. IsWorkOf r true budget p)
  contracted_result (Err error) turned done end h b = tt
  contracted_result (Ok r) turned done end h b =
      contracted_work r turned (map use_of done.uses) done.poly.tracked end.no_stop end.uses end.poly h b
