-- With any line that has no fault what is read stays good.
use Rattle.std.proofs.Common.{◌≡◌, ℕ, ◌<◌, ◌≤◌, Bool, true, false, not, List, [], ◌∷◌, ◌++◌, length, length-append, map, refl, sym, ap, subst, ◌∙◌, arith, append_assoc, append-nil, codes}
use Rattle.std.specs.Prelude.{flat_map, nat_lt, if◌then◌else◌}
use Rattle.std.proofs.lemmas.Bool.{ltb-true, ltb-false}
use Rattle.std.proofs.lemmas.List.{map_push, take_all}
use Rattle.coordinate_model.specs.Sums.{empty}
use Rattle.coordinate_model.specs.Key.{key_cmp}
use Rattle.coordinate_model.specs.BracketPolynomial.{BracketPolynomial}
use Rattle.bracket_poly.specs.Sections.{Rewritten, Worked}
use Rattle.bracket_poly.specs.Tracked.{met_limit}
use Rattle.step_types.specs.declared.names.Names.{Names}
use Rattle.proof_text.specs.Lines.{spaced}
use Rattle.proof_text.specs.Forms.{Part, Spelt, Form, PlainForm, form_line, verdict_word}
use Rattle.proof_text.specs.Meant.{term_meant, is_ordered}
use Rattle.proof_text.specs.Terms.{polynomial_lines}
use Rattle.proof_text.specs.Proofs.{use_line, object_lines, head_lines}
use Rattle.proof_text.specs.Kinds.{is_behind_terms, is_decided}
use Rattle.proof_text.specs.Told.{is_zero_end, IsSumTold, AreObjectsTold, IsDecided, IsLastDecided}
use Rattle.proof_text.specs.State.{Place, State, begun, has_room, takes, with_term}
use Rattle.proof_text.proofs.FormLaws.{not_false}
use Rattle.proof_text.proofs.NumberLaws.{and_true}
use Rattle.proof_text.proofs.BehindLaws.{term_last}
use Rattle.proof_text.proofs.TermLaws.{term_read}
use Rattle.proof_text.proofs.GoodStates as good
use Rattle.proof_text.proofs.MoveLaws as move

module _ (names : Names) (steps : List ℕ) where
  abbrev more : State → Bool
  more s = nat_lt (length (begun s)) (length steps)

  -- the place takes the form
  placed : (s : State) (form : PlainForm) → move.IsRight names steps s form
      → takes (more s) s.place form ≡ true
  placed s form right = (and_true (takes (more s) s.place form) (has_room s form) right.stands).0

  -- ---- terms

  -- what a term that is right gives
  record Gives (s : State) (t : Spelt (List (List ℕ))) : Type 0 where
    sum : IsSumTold names (with_term (term_meant names t) s.terms)
    some : 0 < length (with_term (term_meant names t) s.terms).terms
    lines : map (good.term_line names steps) (with_term (term_meant names t) s.terms).terms
        ≡ map (good.term_line names steps) s.terms.terms ++ form_line (Form.Term t) ∷ []

  gives : (s : State) (t : Spelt (List (List ℕ))) → move.Knows names steps → move.IsRight names steps s (Form.Term t)
      → IsSumTold names s.terms → Gives s t
  gives s t know right sum =
      let order = and_true (is_ordered names t) (is_behind_terms (term_meant names t).0 s.terms.terms) (not_false _ right.ordered) in
      let read = term_read names 64 t know.names_known.few right.formed (not_false _ right.named) (not_false _ right.numbered) order.0 in
      let room : length s.terms.terms < met_limit =
      ltb-true _ _ (and_true (takes (more s) s.place (Form.Term t)) (has_room s (Form.Term t)) right.stands).1 in
      let same = term_last (term_meant names t) s.terms read.some order.1 in
      record {
        sum = move.sum_more names (term_meant names t) s.terms sum read.key read.small read.some order.1 room;
        some = omega (arith, ap length same, length-append s.terms.terms (term_meant names t ∷ []));
        lines =
            ap (map (good.term_line names steps)) same ∙ map_push (good.term_line names steps) s.terms.terms (term_meant names t)
            ∙ ap (λ ws. map (good.term_line names steps) s.terms.terms ++ spaced ws ∷ []) read.written;
      }

  more_start_good : (s : State) (t : Spelt (List (List ℕ))) → move.Knows names steps
      → move.IsRight names steps (record s { place = Place.AtMore Part.Start }) (Form.Term t)
      → good.IsGoodAt names steps (Place.AtMore Part.Start) s → move.Goes names steps (Place.AtMore Part.Start) s (Form.Term t)
  more_start_good s t know right held =
      let with_it = gives (record s { place = Place.AtMore Part.Start }) t know right held.2.0 in
      record {
        good = (held.0, held.1, (with_it.sum, with_it.some));
        lines =
            ap (λ ls. good.done_lines names steps s ++ (good.scalar_line names steps s ∷ codes "start" ∷ ls)) with_it.lines
            ∙ sym (append_assoc (good.done_lines names steps s) (good.open_lines names steps (Place.AtMore Part.Start) s) (form_line (Form.Term t) ∷ []));
      }

  more_end_good : (s : State) (t : Spelt (List (List ℕ))) → move.Knows names steps
      → move.IsRight names steps (record s { place = Place.AtMore Part.End }) (Form.Term t)
      → good.IsGoodAt names steps (Place.AtMore Part.End) s → move.Goes names steps (Place.AtMore Part.End) s (Form.Term t)
  more_end_good s t know right held =
      let with_it = gives (record s { place = Place.AtMore Part.End }) t know right held.3.0 in
      let front = map (use_line names) s.uses in
      record {
        good = (held.0, held.1, held.2, (with_it.sum, with_it.some));
        lines =
            ap (λ ls. good.done_lines names steps s ++ (good.scalar_line names steps s ∷ codes "start"
            ∷ (polynomial_lines names s.start ++ (front ++ codes "end" ∷ ls)))) with_it.lines
            ∙ ap (λ ls. good.done_lines names steps s ++ (good.scalar_line names steps s ∷ codes "start" ∷ (polynomial_lines names s.start ++ ls)))
            (sym (append_assoc front (codes "end" ∷ map (good.term_line names steps) s.terms.terms) (form_line (Form.Term t) ∷ [])))
            ∙ ap (λ ls. good.done_lines names steps s ++ (good.scalar_line names steps s ∷ codes "start" ∷ ls))
            (sym (append_assoc (polynomial_lines names s.start) (front ++ codes "end" ∷ map (good.term_line names steps) s.terms.terms) (form_line (Form.Term t) ∷ [])))
            ∙ sym (append_assoc (good.done_lines names steps s) (good.open_lines names steps (Place.AtMore Part.End) s) (form_line (Form.Term t) ∷ []));
      }

  -- the first term is one more of an empty list
  none_lines : (s : State) → s.terms ≡ empty key_cmp → map (good.term_line names steps) s.terms.terms ≡ []
  none_lines s none = ap (λ (f : BracketPolynomial). map (good.term_line names steps) f.terms) none

  first_start_good : (s : State) (t : Spelt (List (List ℕ))) → move.Knows names steps
      → move.IsRight names steps (record s { place = Place.AtTerms Part.Start }) (Form.Term t)
      → good.IsGoodAt names steps (Place.AtTerms Part.Start) s → move.Goes names steps (Place.AtTerms Part.Start) s (Form.Term t)
  first_start_good s t know right held =
      let with_it = gives (record s { place = Place.AtTerms Part.Start }) t know right
      (subst (IsSumTold names) (sym held.2) (good.empty_told names steps)) in
      record {
        good = (held.0, held.1, (with_it.sum, with_it.some));
        lines =
            ap (λ ls. good.done_lines names steps s ++ (good.scalar_line names steps s ∷ codes "start" ∷ ls))
            (with_it.lines ∙ ap (λ ls. ls ++ form_line (Form.Term t) ∷ []) (none_lines s held.2))
            ∙ sym (append_assoc (good.done_lines names steps s) (good.open_lines names steps (Place.AtTerms Part.Start) s) (form_line (Form.Term t) ∷ []));
      }

  first_end_good : (s : State) (t : Spelt (List (List ℕ))) → move.Knows names steps
      → move.IsRight names steps (record s { place = Place.AtTerms Part.End }) (Form.Term t)
      → good.IsGoodAt names steps (Place.AtTerms Part.End) s → move.Goes names steps (Place.AtTerms Part.End) s (Form.Term t)
  first_end_good s t know right held =
      let with_it = gives (record s { place = Place.AtTerms Part.End }) t know right
      (subst (IsSumTold names) (sym held.3) (good.empty_told names steps)) in
      let front = map (use_line names) s.uses in
      record {
        good = (held.0, held.1, held.2, (with_it.sum, with_it.some));
        lines =
            ap (λ ls. good.done_lines names steps s ++ (good.scalar_line names steps s ∷ codes "start"
            ∷ (polynomial_lines names s.start ++ (front ++ codes "end" ∷ ls))))
            (with_it.lines ∙ ap (λ ls. ls ++ form_line (Form.Term t) ∷ []) (none_lines s held.3))
            ∙ ap (λ ls. good.done_lines names steps s ++ (good.scalar_line names steps s ∷ codes "start" ∷ (polynomial_lines names s.start ++ ls)))
            (sym (append_assoc front (codes "end" ∷ []) (form_line (Form.Term t) ∷ [])))
            ∙ ap (λ ls. good.done_lines names steps s ++ (good.scalar_line names steps s ∷ codes "start" ∷ ls))
            (sym (append_assoc (polynomial_lines names s.start) (front ++ codes "end" ∷ []) (form_line (Form.Term t) ∷ [])))
            ∙ sym (append_assoc (good.done_lines names steps s) (good.open_lines names steps (Place.AtTerms Part.End) s) (form_line (Form.Term t) ∷ []));
      }

  -- ---- the verdict

  last_one : (some : Bool) → (if some then false else true) ≡ true → some ≡ false
  last_one true e = absurd cc
  last_one false e = refl

  decided : (is_proved : Bool) (sections : List Rewritten) → is_decided is_proved sections ≡ true → IsDecided is_proved sections
  decided is_proved [] e = absurd cc
  decided is_proved (s ∷ []) e = same (is_zero_end s.end) is_proved e
    where
      same : (a b : Bool) → (if a then b else not b) ≡ true → a ≡ b
      same true true e = refl
      same true false e = absurd cc
      same false true e = absurd cc
      same false false e = refl
  decided is_proved (s ∷ t ∷ sections) e = absurd cc

  last_decided : (is_proved : Bool) (os : List Worked) (o : Worked) → IsDecided is_proved o.sections
      → IsLastDecided is_proved (os ++ o ∷ [])
  last_decided is_proved [] o it = it
  last_decided is_proved (p ∷ []) o it = it
  last_decided is_proved (p ∷ q ∷ os) o it = last_decided is_proved (q ∷ os) o it

  verdict_good : (s : State) (is_proved : Bool) → move.IsRight names steps (record s { place = Place.AtSection }) (Form.Verdict is_proved)
      → more s ≡ false → good.IsBody names steps s → move.Goes names steps Place.AtSection s (Form.Verdict is_proved)
  verdict_good s is_proved right no_more body =
      let is_begun = move.some_begun s body.count in
      let over : length steps ≤ length (begun s) = ltb-false _ _ no_more in
      record {
        good = record {
          some_point = body.some_point;
          objects = subst (λ (ks : List ℕ). AreObjectsTold names 1 ks (begun s)) (take_all (length (begun s)) steps over) (move.begun_told names steps s body);
          verdict = subst (λ (os : List Worked). IsLastDecided is_proved os) (sym is_begun)
              (last_decided is_proved s.objects (good.this_object s) (decided is_proved s.sections (not_false _ right.judged)));
        };
        lines =
            sym (ap (λ ls. ls ++ form_line (Form.Verdict is_proved) ∷ [])
            (append-nil (good.done_lines names steps s) ∙ move.begun_lines names steps s body)
            ∙ append_assoc (head_lines names) (flat_map (object_lines names) (begun s)) (form_line (Form.Verdict is_proved) ∷ [])
            ∙ ap (λ l. head_lines names ++ (flat_map (object_lines names) (begun s) ++ l ∷ [])) (append-nil (verdict_word is_proved)));
      }

  -- ---- any form

  out : {A : Type 0} → false ≡ true → A
  out e = absurd cc

  -- what is good stays so with a form that is right
  pub moved_good : (place : Place) (s : State) (form : PlainForm) → move.Knows names steps
      → move.IsRight names steps (record s { place = place }) form → good.IsGoodAt names steps place s
      → move.Goes names steps place s form
  moved_good Place.AtProof s Form.Proof know right held = record { good = held; lines = refl }
  moved_good Place.AtRank s (Form.Rank digits) know right held = move.rank_good names steps s digits know right held
  moved_good Place.AtFree s (Form.Free free) know right held = move.free_good names steps s free right held
  moved_good Place.AtParams s (Form.Params params) know right held = move.params_good names steps s params right held
  moved_good Place.AtObject s (Form.Object number step) know right held = move.first_good names steps s number step know right (placed (record s { place = Place.AtObject }) (Form.Object number step) right) held
  moved_good Place.AtSection s (Form.Object number step) know right held = move.next_good names steps s number step know right (placed (record s { place = Place.AtSection }) (Form.Object number step) right) held
  moved_good Place.AtSection s (Form.Scalar words) know right held = move.scalar_good names steps s words right held
  moved_good Place.AtSection s (Form.Verdict is_proved) know right held = verdict_good s is_proved right (last_one (more s) (placed (record s { place = Place.AtSection }) (Form.Verdict is_proved) right)) held
  moved_good Place.AtStart s (Form.Opens Part.Start) know right held = move.start_good names steps s held
  moved_good (Place.AtTerms Part.Start) s Form.Zero know right held = good.zero_good names steps Part.Start s held
  moved_good (Place.AtTerms Part.Start) s (Form.Term t) know right held = first_start_good s t know right held
  moved_good (Place.AtTerms Part.End) s Form.Zero know right held = good.zero_good names steps Part.End s held
  moved_good (Place.AtTerms Part.End) s (Form.Term t) know right held = first_end_good s t know right held
  moved_good (Place.AtMore Part.Start) s (Form.Term t) know right held = more_start_good s t know right held
  moved_good (Place.AtMore Part.End) s (Form.Term t) know right held = more_end_good s t know right held
  moved_good Place.AtUses s (Form.Opens Part.End) know right held = move.end_good names steps s held
  moved_good Place.AtUses s (Form.Use t alpha beta gamma) know right held = move.use_good names steps s t alpha beta gamma know right held
  moved_good place s form know right held = out right.stands
