-- One more start of the code is rewritten, and the last one.
use Rattle.std.proofs.Common.{◌≡◌, ℕ, Bool, ◌+◌, ◌-◌, ◌<◌, ◌≤◌, true, false, List, [], ◌∷◌, ◌++◌, map, drop, length}
use Rattle.std.proofs.Common.{get_or}
use Rattle.std.proofs.Common.{refl, sym, ap, subst, ◌∙◌, append-nil}
use Rattle.std.specs.Prelude.{Option, Some, None, is_some}
use Rattle.std.specs.Option.{option_map}
use Rattle.std.proofs.lemmas.List.{drop_more}
use Rattle.std.proofs.Math.ListN.{drop_of_length-le}
use Rattle.coordinate_model.proofs.Hom.{map-append}
use Rattle.bracket_terms.specs.declared.extensor.Extensor.{Extensor}
use Rattle.bracket_terms.specs.Joins.{points_of}
use Rattle.bracket_terms.specs.LogUses.{use_of}
use Rattle.bracket_poly.specs.Kept.{TrackedOf}
use Rattle.bracket_poly.specs.Sections.{Rewritten, rewritten_of}
use Rattle.bracket_poly.specs.declared.section.Section.{Section}
use Rattle.cayley_run.specs.Sections.{Work, work, rewritten, Sections, run_starts, end_of}
use Rattle.cayley_run.specs.Results.{stop_of}
use Rattle.cayley_run.specs.Seen.{IsRewriting, start_of, starts_of}
use Rattle.cayley_run.specs.declared.answer.StopKind.{StopKind}
use Rattle.cayley_run.specs.declared.rewriting.Rewriting.{Rewriting}
use Rattle.cayley_run.proofs.StartRuns.{AreRewritten, one_more, stops_here, behind}

module _ {d : ℕ} (contract : Bool) (budget left : ℕ) (all : List (Extensor × TrackedOf d)) (i : ℕ)
    (x : Extensor × TrackedOf d)
    (old new : List (Section d)) (s : Section d) (r : Rewriting d) (below : i < length all) (found : x ≡ get_or all i x)
    (h : AreRewritten contract budget (starts_of all) (map rewritten_of old) left (starts_of (drop i all)))
    (is : IsRewriting r (work contract left x.1.tracked).passes.uses (work contract left x.1.tracked).turns)
    (pushed : new ≡ old ++ s ∷ []) (scalar : s.scalar ≡ x.0)
    (start : s.start ≡ x.1) (uses : s.uses ≡ r.uses) (end : s.end ≡ r.end) where
  abbrev made : Work
  made = work contract left x.1.tracked

  next : starts_of (drop i all) ≡ start_of x ∷ starts_of (drop (i + 1) all)
  next = ap starts_of (drop_more all i x below ∙ ap (λ y. y ∷ drop (i + 1) all) (sym found))

  uses_said : map use_of s.uses ≡ made.passes.uses ++ made.turns.uses
  uses_said = ap (λ us. map use_of us) uses ∙ is.uses

  end_said : option_map (λ p. p.tracked.sum) s.end ≡ end_of made.turns
  end_said = ap (λ (o : Option (TrackedOf d)). option_map (λ p. p.tracked.sum) o) end ∙ is.end

  said : rewritten_of s ≡ rewritten (start_of x) made
  said = λ j. record {
    scalar = points_of (scalar j);
    start = (start j).tracked.sum;
    uses = uses_said j;
    end = end_said j;
  }

  new_said : map rewritten_of new ≡ map rewritten_of old ++ rewritten (start_of x) made ∷ []
  new_said =
      ap (λ ss. map rewritten_of ss) pushed ∙ map-append rewritten_of old (s ∷ [])
      ∙ ap (λ t. map rewritten_of old ++ t ∷ []) said

  before : AreRewritten contract budget (starts_of all) (map rewritten_of old) left
      (start_of x ∷ starts_of (drop (i + 1) all))
  before = subst (λ ss. AreRewritten contract budget (starts_of all) (map rewritten_of old) left ss) next h

  pub step_goes_on : r.stop ≡ None
      → AreRewritten contract budget (starts_of all) (map rewritten_of new) (left - r.turns)
      (starts_of (drop (i + 1) all))
  step_goes_on e =
      subst (λ n. AreRewritten contract budget (starts_of all) (map rewritten_of new) (left - n)
      (starts_of (drop (i + 1) all)))
      (sym is.turns)
      (subst (λ ss. AreRewritten contract budget (starts_of all) ss (left - length made.turns.uses)
      (starts_of (drop (i + 1) all)))
      (sym new_said)
      (one_more contract budget (starts_of all) (map rewritten_of old) left (start_of x)
      (starts_of (drop (i + 1) all)) before
      (sym is.stop ∙ ap (λ (o : Option StopKind). option_map stop_of o) e)))

  pub step_stops : is_some r.stop ≡ true
      → ◌≡◌ {A = Sections}
      (record { sections = map rewritten_of new; left = left - r.turns; stop = option_map stop_of r.stop })
      (run_starts contract budget (starts_of all))
  step_stops e = by_stop r.stop refl e
    where
      by_stop : (o : Option StopKind) → r.stop ≡ o → is_some o ≡ true
          → ◌≡◌ {A = Sections}
          (record { sections = map rewritten_of new; left = left - r.turns; stop = option_map stop_of r.stop })
          (run_starts contract budget (starts_of all))
      by_stop None k e = cc
      by_stop (Some kind) k e =
          let stop : option_map stop_of r.stop ≡ Some (stop_of kind) =
          ap (λ (o : Option StopKind). option_map stop_of o) k in
          let last = stops_here contract budget (starts_of all) (map rewritten_of old) left (start_of x)
          (starts_of (drop (i + 1) all)) before (stop_of kind) (sym is.stop ∙ stop) in
          (λ j. record { sections = new_said j; left = left - is.turns j; stop = stop j }) ∙ sym last

-- no start is left
pub all_rewritten : {d : ℕ} (contract : Bool) (budget left : ℕ) (all : List (Extensor × TrackedOf d)) (i : ℕ)
    (ss : List Rewritten)
    → AreRewritten contract budget (starts_of all) ss left (starts_of (drop i all)) → length all ≤ i
    → ◌≡◌ {A = Sections} (record { sections = ss; left = left; stop = None })
    (run_starts contract budget (starts_of all))
all_rewritten contract budget left all i ss h l =
    ap (λ xs. record { sections = xs; left = left; stop = None }) (sym (append-nil ss))
    ∙ sym (h ∙ ap (λ xs. behind ss (run_starts contract left (starts_of xs))) (drop_of_length-le all l))

-- nothing is there
pub none_of : {A : Type 0} (o : Option A) → false ≡ is_some o → o ≡ None
none_of None e = refl
none_of (Some x) e = cc
