-- Sections that are written one after another.
use Rattle.std.proofs.Common.{◌≡◌, ℕ, Bool, true, false, cond, ◌+◌, ◌-◌, ◌<◌, ◌≤◌, List, [], ◌∷◌, ◌++◌, map, drop}
use Rattle.std.proofs.Common.{length, get_or, refl, sym, ap}
use Rattle.std.proofs.Common.{subst, ◌∙◌, append_assoc, append-nil}
use Rattle.std.specs.Prelude.{⊤, Option, Some, None, Result, Ok, Err, is_some, flat_map}
use Rattle.std.specs.List.{AllByRecursion, cons_option}
use Rattle.std.specs.Option.{option_map}
use Rattle.std.specs.Result.{IsErrAnd}
use Rattle.std.proofs.lemmas.List.{drop_more}
use Rattle.std.proofs.lemmas.List.Concat.{flat_map-append}
use Rattle.std.proofs.Math.ListN.{drop_of_length-le}
use Rattle.coordinate_model.proofs.Splits.{all_back}
use Rattle.coordinate_model.specs.Starts.{Entry}
use Rattle.coordinate_model.specs.Value.{Value}
use Rattle.bracket_terms.specs.declared.extensor.Extensor.{Extensor}
use Rattle.bracket_poly.specs.Kept.{TrackedOf}
use Rattle.bracket_terms.specs.Joins.{points_of}
use Rattle.bracket_terms.specs.LogUses.{use_of}
use Rattle.bracket_poly.specs.Sections.{Rewritten, rewritten_of, entry_from, value_from}
use Rattle.bracket_poly.specs.declared.section.Section.{Section}
use Rattle.bracket_poly.specs.Values.{value_of}
use Rattle.proof_text.specs.Proofs.{IsSectionNamed, section_lines}
use Rattle.proof_text.specs.Writes.{Writes}
use Rattle.proof_text.specs.declared.error.WriteError.{WriteError}
use Rattle.proof_text.proofs.Writing.{writes_nothing, writes_more, writes_less, same_lines}
use Rattle.shuffle_meet.specs.Stops.{Start}
use Rattle.step_types.specs.declared.names.Names.{Names}
use Rattle.straightening.specs.Runs.{Stop}
use Rattle.cayley_run.specs.Endings.{IsEnding, EndsOne, put_of}
use Rattle.cayley_run.specs.Results.{stop_of}
use Rattle.cayley_run.specs.Sections.{Work, work, rewritten, end_of, Sections, in_front, run_starts}
use Rattle.cayley_run.specs.Seen.{start_of, starts_of, IsRewriting}
use Rattle.cayley_run.specs.declared.answer.StopKind.{StopKind}
use Rattle.cayley_run.specs.declared.rewriting.Rewriting.{Rewriting}
use Rattle.cayley_run.specs.declared.writing.Ending.{Ending}
use Rattle.cayley_run.proofs.StartRuns.{AreRewritten, behind, one_more, stops_here}

-- ---- values

value_append : (ss : List Rewritten) (s : Rewritten)
    → value_from (ss ++ s ∷ []) ≡ value_from ss ++ cons_option (entry_from s) []
value_append [] s = refl
value_append (x ∷ ss) s = by_entry (entry_from x) (value_append ss s)
  where
    by_entry : (o : Option Entry) → value_from (ss ++ s ∷ []) ≡ value_from ss ++ cons_option (entry_from s) []
        → cons_option o (value_from (ss ++ s ∷ [])) ≡ cons_option o (value_from ss) ++ cons_option (entry_from s) []
    by_entry None e = e
    by_entry (Some y) e = ap (λ v. y ∷ v) e

-- ---- what has names

-- the first section of starts is that of the first start
first_has : (P : Rewritten → Type 0) (contract : Bool) (budget : ℕ) (start : Start) (starts : List Start)
    → AllByRecursion P (run_starts contract budget (start ∷ starts)).sections
    → P (rewritten start (work contract budget start.1))
first_has P contract budget start starts = by_stop (work contract budget start.1).turns.stop
  where
    w : Work
    w = work contract budget start.1

    left : ℕ
    left = budget - length w.turns.uses

    by_stop : (o : Option Stop) → AllByRecursion P (elim o as (λ _. Sections) [
      | Some stop ↦ record { sections = rewritten start w ∷ []; left = left; stop = Some stop }
      | None ↦ in_front (rewritten start w) (run_starts contract left starts)
    ]).sections → P (rewritten start w)
    by_stop (Some stop) h = h.0
    by_stop None h = h.0

-- ---- the sections so far

-- some sections were written, and are kept so; the others of the starts are still to come
pub record Written {d : ℕ} (names : Names) (contract : Bool) (budget : ℕ) (all : List Start) (e : Ending d)
    (left : List Start) (held holds : Option (List ℕ)) (before now : ℕ) : Type 0 where
  pub done : List Rewritten
  pub rest : AreRewritten contract budget all done e.left left
  pub value : value_of e.entries.items ≡ value_from done
  pub going : option_map stop_of e.stop ≡ None
  pub wrote : Writes {T = ⊤} held holds before now (Ok tt) (flat_map (section_lines names) done)

lines_append : (names : Names) (ss : List Rewritten) (s : Rewritten)
    → flat_map (section_lines names) ss ++ section_lines names s ≡ flat_map (section_lines names) (ss ++ s ∷ [])
lines_append names ss s =
    ap (λ ls. flat_map (section_lines names) ss ++ ls) (sym (append-nil (section_lines names s)))
    ∙ sym (flat_map-append (section_lines names) ss (s ∷ []))

-- nothing was written yet
pub none_written : {d : ℕ} (names : Names) (contract : Bool) (budget : ℕ) (all : List Start) (e : Ending d)
    (held : Option (List ℕ)) (faults : ℕ) → e.entries.items ≡ [] → e.left ≡ budget → e.stop ≡ None
    → Written names contract budget all e all held held faults faults
none_written names contract budget all e held faults entries left stop = record {
  done = [];
  rest = ap (λ (n : ℕ). run_starts contract n all) (sym left);
  value = ap (λ es. value_of es) entries;
  going = ap (λ (o : Option StopKind). option_map stop_of o) stop;
  wrote = writes_nothing held faults;
}

module _ {d : ℕ} (names : Names) (contract : Bool) (budget : ℕ) (all : List Start) (e : Ending d) (start : Start)
    (starts rest : List Start) (split : rest ≡ start ∷ starts) (held holds : Option (List ℕ)) (before now : ℕ)
    (given : Written names contract budget all e rest held holds before now) where
  h : Written names contract budget all e (start ∷ starts) held holds before now
  h = subst (λ (ss : List Start). Written names contract budget all e ss held holds before now) split given

  abbrev w : Work
  w = work contract e.left start.1

  abbrev s : Rewritten
  s = rewritten start w

  -- what holds of all sections holds of the next one
  pub next_section : (P : Rewritten → Type 0) → AllByRecursion P (run_starts contract budget all).sections → P s
  next_section P k =
      first_has P contract e.left start starts
      (all_back P h.done (run_starts contract e.left (start ∷ starts)).sections
      (subst (λ (r : Sections). AllByRecursion P r.sections) h.rest k))

  module _ (new : Ending d) (next : Option (List ℕ)) (upto : ℕ) (one : EndsOne e new start w)
      (wrote : Writes {T = ⊤} holds next now upto (Ok tt) (section_lines names s)) where
    value_new : value_of new.entries.items ≡ value_from (h.done ++ s ∷ [])
    value_new =
        one.value ∙ ap (λ v. v ++ cons_option (entry_from s) []) h.value ∙ sym (value_append h.done s)

    wrote_new : Writes {T = ⊤} held next before upto (Ok tt) (flat_map (section_lines names) (h.done ++ s ∷ []))
    wrote_new =
        same_lines held next before upto (Ok tt) (flat_map (section_lines names) h.done ++ section_lines names s)
        (flat_map (section_lines names) (h.done ++ s ∷ [])) (lines_append names h.done s)
        (writes_more held holds next before now upto (Ok tt) (flat_map (section_lines names) h.done)
        (section_lines names s) h.wrote wrote)

    -- it was written, and others follow
    pub one_written : new.stop ≡ None → Written names contract budget all new starts held next before upto
    one_written going =
        let none : w.turns.stop ≡ None = sym one.stop ∙ ap (λ (o : Option StopKind). option_map stop_of o) going in
        record {
          done = h.done ++ s ∷ [];
          rest =
              subst (λ (n : ℕ). AreRewritten contract budget all (h.done ++ s ∷ []) n starts) (sym one.left)
              (one_more contract budget all h.done e.left start starts h.rest none);
          value = value_new;
          going = ap (λ (o : Option StopKind). option_map stop_of o) going;
          wrote = wrote_new;
        }

    -- or it was the last, since the run stopped
    module _ (stop : Stop) (same : option_map stop_of new.stop ≡ Some stop) where
      abbrev last : Sections
      last = record { sections = h.done ++ s ∷ []; left = e.left - length w.turns.uses; stop = Some stop }

      all_done : run_starts contract budget all ≡ last
      all_done = stops_here contract budget all h.done e.left start starts h.rest stop (sym one.stop ∙ same)

      pub last_ending : IsEnding new (run_starts contract budget all)
      last_ending =
          subst (λ (r : Sections). IsEnding new r) (sym all_done)
          (record { value = value_new; left = one.left; stop = same })

      pub last_wrote : Writes {T = ⊤} held next before upto (Ok tt)
          (flat_map (section_lines names) (run_starts contract budget all).sections)
      last_wrote =
          subst (λ (r : Sections). Writes {T = ⊤} held next before upto (Ok tt)
          (flat_map (section_lines names) r.sections))
          (sym all_done) wrote_new

    -- the same where it is only known that something stopped it
    pub ending_there : true ≡ is_some new.stop → IsEnding new (run_starts contract budget all)
    ending_there stops = by_kind new.stop refl stops
      where
        by_kind : (o : Option StopKind) → new.stop ≡ o → true ≡ is_some o → IsEnding new
            (run_starts contract budget all)
        by_kind None e k = cc
        by_kind (Some kind) e k = last_ending (stop_of kind) (ap (λ (o : Option StopKind). option_map stop_of o) e)

    pub wrote_there : true ≡ is_some new.stop → Writes {T = ⊤} held next before upto (Ok tt)
        (flat_map (section_lines names) (run_starts contract budget all).sections)
    wrote_there stops = by_kind new.stop refl stops
      where
        by_kind : (o : Option StopKind) → new.stop ≡ o → true ≡ is_some o → Writes {T = ⊤} held next before upto (Ok tt)
            (flat_map (section_lines names) (run_starts contract budget all).sections)
        by_kind None e k = cc
        by_kind (Some kind) e k = last_wrote (stop_of kind) (ap (λ (o : Option StopKind). option_map stop_of o) e)

  -- or it was not written
  module _ (next : Option (List ℕ)) (upto : ℕ) (error : WriteError) (r : Result ⊤ WriteError)
      (is : IsErrAnd r (λ e. e ≡ error))
      (failed : Writes {T = ⊤} holds next now upto (Err error) (section_lines names s)) where
    abbrev by_stop : Option Stop → Sections
    by_stop o = elim o [
      | Some stop ↦ record { sections = s ∷ []; left = e.left - length w.turns.uses; stop = Some stop }
      | None ↦ in_front s (run_starts contract (e.left - length w.turns.uses) starts)
    ]

    from : (o : Option Stop) → Writes {T = ⊤} held next before upto r
        (flat_map (section_lines names) h.done ++ flat_map (section_lines names) (by_stop o).sections)
    from (Some stop) =
        writes_more held holds next before now upto r (flat_map (section_lines names) h.done)
        (section_lines names s ++ []) h.wrote
        (writes_less holds next now upto error r (section_lines names s) [] is failed)
    from None =
        writes_more held holds next before now upto r (flat_map (section_lines names) h.done) _ h.wrote
        (writes_less holds next now upto error r (section_lines names s)
        (flat_map (section_lines names) (run_starts contract (e.left - length w.turns.uses) starts).sections) is failed)

    pub not_written : Writes {T = ⊤} held next before upto r
        (flat_map (section_lines names) (run_starts contract budget all).sections)
    not_written =
        subst (λ (x : Sections). Writes {T = ⊤} held next before upto r (flat_map (section_lines names) x.sections))
        (sym h.rest)
        (same_lines held next before upto r
        (flat_map (section_lines names) h.done ++ flat_map (section_lines names) (by_stop w.turns.stop).sections)
        (flat_map (section_lines names) (h.done ++ (by_stop w.turns.stop).sections))
        (sym (flat_map-append (section_lines names) h.done (by_stop w.turns.stop).sections)) (from w.turns.stop))

-- where no start is left, all sections were written
module _ {d : ℕ} (names : Names) (contract : Bool) (budget : ℕ) (all : List Start) (e : Ending d)
    (held holds : Option (List ℕ)) (before now : ℕ)
    (h : Written names contract budget all e [] held holds before now) where
  abbrev whole : Sections
  whole = record { sections = h.done; left = e.left; stop = None }

  all_done_then : run_starts contract budget all ≡ whole
  all_done_then =
      h.rest ∙ ap (λ ss. record { sections = ss; left = e.left; stop = None }) (append-nil h.done)

  pub whole_ending : IsEnding e (run_starts contract budget all)
  whole_ending =
      subst (λ (r : Sections). IsEnding e r) (sym all_done_then)
      (record { value = h.value; left = refl; stop = h.going })

  pub whole_wrote : Writes {T = ⊤} held holds before now (Ok tt)
      (flat_map (section_lines names) (run_starts contract budget all).sections)
  whole_wrote =
      subst (λ (r : Sections). Writes {T = ⊤} held holds before now (Ok tt) (flat_map (section_lines names) r.sections))
      (sym all_done_then) h.wrote

-- the starts that are left begin with the next one
pub starts_left : {d : ℕ} (all : List (Extensor × TrackedOf d)) (i : ℕ) (x : Extensor × TrackedOf d) → i < length all
    → x ≡ get_or all i x → starts_of (drop i all) ≡ start_of x ∷ starts_of (drop (i + 1) all)
starts_left all i x below found =
    ap starts_of (drop_more all i x below ∙ ap (λ y. y ∷ drop (i + 1) all) (sym found))

-- what the code's section of a start says
pub section_said : {d : ℕ} (x : Extensor × TrackedOf d) (s : Section d) (r : Rewriting d) (w : Work)
    → IsRewriting r w.passes.uses w.turns → s.scalar ≡ x.0 → s.start ≡ x.1 → s.uses ≡ r.uses → s.end ≡ r.end
    → rewritten_of s ≡ rewritten (start_of x) w
section_said {d = d} x s r w is scalar start uses end = λ j. record {
  scalar = points_of (scalar j);
  start = (start j).tracked.sum;
  uses = uses_said j;
  end = end_said j;
}
  where
    uses_said : map use_of s.uses ≡ w.passes.uses ++ w.turns.uses
    uses_said = ap (λ us. map use_of us) uses ∙ is.uses

    end_said : option_map (λ p. p.tracked.sum) s.end ≡ end_of w.turns
    end_said = ap (λ (o : Option (TrackedOf d)). option_map (λ p. p.tracked.sum) o) end ∙ is.end
