-- The lines of a section lead to a state that holds it.
use Rattle.std.proofs.Common.{◌≡◌, ℕ, ◌<◌, ◌≤◌, Bool, true, false, T, not, List, [], ◌∷◌, ◌++◌, length, length-append, map, refl, sym, ap, subst, ◌∙◌, append_assoc, append-nil, arith, codes, ℤ}
use Rattle.std.specs.Prelude.{flat_map, nat_lt, ◌==◌, ◌&&◌, Option, Some, None}
use Rattle.std.specs.FinMap.{is_sorted}
use Rattle.std.specs.List.{AllByRecursion}
use Rattle.std.proofs.lemmas.Bool.{lt-ltb, eq-eqb}
use Rattle.coordinate_model.specs.Sums.{Terms, is_zero, empty}
use Rattle.coordinate_model.specs.Key.{Key, key_cmp, row_cmp}
use Rattle.coordinate_model.specs.BracketPolynomial.{BracketPolynomial}
use Rattle.coordinate_model.specs.Syzygy.{Use}
use Rattle.bracket_poly.specs.Sections.{Rewritten, Worked}
use Rattle.bracket_poly.specs.Tracked.{fits, met_limit}
use Rattle.step_types.specs.declared.names.Names.{Names}
use Rattle.proof_text.specs.Lines.{spaced}
use Rattle.proof_text.specs.Forms.{Part, Form, PlainForm, form_line}
use Rattle.proof_text.specs.Meant.{term_meant, is_rising}
use Rattle.proof_text.specs.Terms.{point_names, term_words, terms_lines, polynomial_lines}
use Rattle.proof_text.specs.Proofs.{use_line, section_lines, end_lines}
use Rattle.proof_text.specs.Kinds.{is_behind_terms, is_behind_sections}
use Rattle.proof_text.specs.Told.{IsSumTold, IsKeyTold, IsUseTold, IsEndTold, IsSectionTold}
use Rattle.bracket_poly.specs.Values.{extensor_size}
use Rattle.proof_text.specs.State.{Place, State, begun, takes, ready, moved, ended_at, with_part, with_term}
use Rattle.proof_text.specs.Readings.{is_over}
use Rattle.proof_text.proofs.NameLaws.{points_again, points_among, points_run}
use Rattle.proof_text.proofs.OrderLaws.{increases_rising}
use Rattle.proof_text.proofs.BehindLaws.{term_last, term_behind, same_sum, no_zeros, section_behind, scalars_of}
use Rattle.proof_text.proofs.TermLaws.{KnowsNames, term_spelt, term_written}
use Rattle.proof_text.proofs.UseLaws.{use_form, use_written}
use Rattle.proof_text.proofs.MoveLaws as move
use Rattle.proof_text.proofs.Reaching.{Reaches, reach_none, reach_both, reach_to, reach_lines, reach_one}

module _ (names : Names) (steps : List ℕ) where
  -- a state from which one goes on as from another, once the list that is read has ended
  pub record Ends (q b : State) : Type 0 where
    pub going : is_over q.place ≡ false
    pub ended : ended_at q.place q ≡ b

  -- the lines lead to such a state
  pub record Arrives (s : State) (lines : List (List ℕ)) (b : State) : Type 0 where
    pub state : State
    pub reaches : Reaches names steps s lines state
    pub ends : Ends state b

  pub arrive_both : (s q b : State) (lines others : List (List ℕ)) → Reaches names steps s lines q → Arrives q others b
      → Arrives s (lines ++ others) b
  arrive_both s q b lines others first more = record {
    state = more.state;
    reaches = reach_both names steps s q more.state lines others first more.reaches;
    ends = more.ends;
  }

  -- ---- terms

  -- a state in a list of terms, of which these are read
  abbrev in_list : Place → BracketPolynomial → State → State
  in_list place g s = record s { place = place; terms = g }

  module _ (know : KnowsNames names) (low : 2 ≤ names.rank) where
    term_reached : (place : Place) (s : State) (g f : BracketPolynomial) (t : Key × ℤ) (back : Terms Key)
        → is_over place ≡ false → ((m : Bool) → takes m place (Form.Term (term_spelt names t)) ≡ true)
        → IsKeyTold names 64 t.0 → fits t.1 ≡ true → is_zero t.1 ≡ false → f.terms ≡ g.terms ++ t ∷ back
        → length f.terms ≤ met_limit
        → Reaches names steps (in_list place g s) (spaced (term_words names t) ∷ [])
        (moved names (in_list place g s) (Form.Term (term_spelt names t)))
    term_reached place s g f t back going stands key small some whole few =
        let it = term_written names 64 t know key.formed key.within small some in
        let room : length g.terms < met_limit = omega (arith, ap length whole, length-append g.terms (t ∷ back)) in
        let behind : is_behind_terms (term_meant names (term_spelt names t)).0 g.terms ≡ true =
        ap (λ (u : Key × ℤ). is_behind_terms u.0 g.terms) it.means ∙ term_behind f g.terms t back whole in
        reach_lines names steps _ _ _ _
        (reach_one names steps (in_list place g s) (Form.Term (term_spelt names t)) low going (record {
          formed = it.formed;
          stands = rw (stands (nat_lt (length (begun s)) (length steps)), lt-ltb _ _ room) refl;
          header = refl;
          object = refl;
          named = ap not it.named;
          numbered = ap not it.numbered;
          ordered = rw (it.ordered, behind) refl;
          judged = refl;
        }))
        (ap (λ ws. spaced ws ∷ []) it.words)

    -- the terms of a polynomial behind those that are read
    more_reached : (part : Part) (s : State) (g f : BracketPolynomial) (back : Terms Key) → f.terms ≡ g.terms ++ back
        → IsSumTold names f → AllByRecursion (λ t. IsKeyTold names 64 t.0) back → AllByRecursion (λ t. fits t.1 ≡ true) back
        → AllByRecursion (λ t. is_zero t.1 ≡ false) back
        → Reaches names steps (in_list (Place.AtMore part) g s) (map (λ t. spaced (term_words names t)) back) (in_list (Place.AtMore part) f s)
    more_reached part s g f [] whole sum keys small some =
        reach_to names steps _ _ _ _ (reach_none names steps (in_list (Place.AtMore part) g s))
        (ap (λ h. in_list (Place.AtMore part) h s) (same_sum g f (sym (whole ∙ append-nil g.terms))))
    more_reached part s g f (t ∷ back) whole sum keys small some =
        let it = term_written names 64 t know keys.0.formed keys.0.within small.0 some.0 in
        let last = term_last t g some.0 (term_behind f g.terms t back whole) in
        let more : f.terms ≡ (with_term t g).terms ++ back =
        whole ∙ sym (append_assoc g.terms (t ∷ []) back) ∙ ap (λ ts. ts ++ back) (sym last) in
        reach_both names steps _ _ _ _ _
        (reach_to names steps _ _ _ _
        (term_reached (Place.AtMore part) s g f t back refl (λ m. refl) keys.0 small.0 some.0 whole sum.few)
        (ap (λ u. in_list (Place.AtMore part) (with_term u g) s) it.means))
        (more_reached part s (with_term t g) f back more sum keys.1 small.1 some.1)

    some_reached : (part : Part) (s : State) (f : BracketPolynomial) (t : Key × ℤ) (ts : Terms Key) → IsSumTold names f
        → f.terms ≡ t ∷ ts → AllByRecursion (λ t. IsKeyTold names 64 t.0) (t ∷ ts) → AllByRecursion (λ t. fits t.1 ≡ true) (t ∷ ts)
        → AllByRecursion (λ t. is_zero t.1 ≡ false) (t ∷ ts)
        → Reaches names steps (in_list (Place.AtTerms part) (empty key_cmp) s) (map (λ t. spaced (term_words names t)) (t ∷ ts))
        (in_list (Place.AtMore part) f s)
    some_reached part s f t ts sum whole keys small some =
        let it = term_written names 64 t know keys.0.formed keys.0.within small.0 some.0 in
        let last = term_last t (empty key_cmp) some.0 refl in
        let more : f.terms ≡ (with_term t (empty key_cmp)).terms ++ ts = whole ∙ ap (λ us. us ++ ts) (sym last) in
        reach_both names steps _ _ _ _ _
        (reach_to names steps _ _ _ _
        (term_reached (Place.AtTerms part) s (empty key_cmp) f t ts refl (λ m. refl) keys.0 small.0 some.0 whole sum.few)
        (ap (λ u. in_list (Place.AtMore part) (with_term u (empty key_cmp)) s) it.means))
        (more_reached part s (with_term t (empty key_cmp)) f ts more sum keys.1 small.1 some.1)

    -- the lines of a polynomial lead behind its list
    list_reached : (part : Part) (s : State) (f : BracketPolynomial) → IsSumTold names f
        → Arrives (in_list (Place.AtTerms part) (empty key_cmp) s) (polynomial_lines names f)
        (with_part part (in_list (Place.AtTerms part) f s))
    list_reached part s f sum = by_terms part f.terms refl sum.keys sum.small (no_zeros f)
      where
        by_terms : (part : Part) (ts : Terms Key) → f.terms ≡ ts → AllByRecursion (λ t. IsKeyTold names 64 t.0) ts
            → AllByRecursion (λ t. fits t.1 ≡ true) ts → AllByRecursion (λ t. is_zero t.1 ≡ false) ts
            → Arrives (in_list (Place.AtTerms part) (empty key_cmp) s) (terms_lines names ts)
            (with_part part (in_list (Place.AtTerms part) f s))
        by_terms Part.Start [] none keys small some = record {
          state = with_part Part.Start (in_list (Place.AtTerms Part.Start) (empty key_cmp) s);
          reaches = reach_one names steps (in_list (Place.AtTerms Part.Start) (empty key_cmp) s) Form.Zero low refl (record {
            formed = tt;
            stands = refl;
            header = refl;
            object = refl;
            named = refl;
            numbered = refl;
            ordered = refl;
            judged = refl;
          });
          ends = record { going = refl; ended = ap (λ h. with_part Part.Start (in_list (Place.AtTerms Part.Start) h s)) (same_sum (empty key_cmp) f (sym none)) };
        }
        by_terms Part.End [] none keys small some = record {
          state = with_part Part.End (in_list (Place.AtTerms Part.End) (empty key_cmp) s);
          reaches = reach_one names steps (in_list (Place.AtTerms Part.End) (empty key_cmp) s) Form.Zero low refl (record {
            formed = tt;
            stands = refl;
            header = refl;
            object = refl;
            named = refl;
            numbered = refl;
            ordered = refl;
            judged = refl;
          });
          ends = record { going = refl; ended = ap (λ h. with_part Part.End (in_list (Place.AtTerms Part.End) h s)) (same_sum (empty key_cmp) f (sym none)) };
        }
        by_terms Part.Start (t ∷ ts) whole keys small some = record {
          state = in_list (Place.AtMore Part.Start) f s;
          reaches = some_reached Part.Start s f t ts sum whole keys small some;
          ends = record { going = refl; ended = refl };
        }
        by_terms Part.End (t ∷ ts) whole keys small some = record {
          state = in_list (Place.AtMore Part.End) f s;
          reaches = some_reached Part.End s f t ts sum whole keys small some;
          ends = record { going = refl; ended = refl };
        }

    -- ---- uses

    pub reach_next : (q b : State) (form : PlainForm) → Ends q b → ready form q ≡ ended_at q.place q → move.IsRight names steps b form
        → Reaches names steps q (form_line form ∷ []) (moved names b form)
    reach_next q b form ends opens right =
        let same : ready form q ≡ b = opens ∙ ends.ended in
        reach_to names steps _ _ _ _
        (reach_one names steps q form low ends.going (subst (λ s. move.IsRight names steps s form) (sym same) right))
        (ap (λ s. moved names s form) same)

    -- a state behind the start of a section and these uses
    abbrev at_uses : BracketPolynomial → List Use → State → State
    at_uses f us s = record s { place = Place.AtUses; start = f; uses = us; terms = empty key_cmp }

    uses_reached : (s q : State) (f : BracketPolynomial) (done us : List Use) → Ends q (at_uses f done s)
        → AllByRecursion (IsUseTold names) us → Arrives q (map (use_line names) us) (at_uses f (done ++ us) s)
    uses_reached s q f done [] ends told = record {
      state = q;
      reaches = reach_none names steps q;
      ends = record { going = ends.going; ended = ends.ended ∙ ap (λ us. at_uses f us s) (sym (append-nil done)) };
    }
    uses_reached s q f done (u ∷ us) ends told =
        let it = use_written names u know told.0 in
        let first = reach_to names steps _ _ _ _
        (reach_next q (at_uses f done s) (use_form names u) ends refl (record {
          formed = it.formed;
          stands = refl;
          header = refl;
          object = refl;
          named = it.named;
          numbered = it.numbered;
          ordered = it.ordered (at_uses f done s);
          judged = refl;
        }))
        (ap (λ v. at_uses f (done ++ v ∷ []) s) it.means) in
        let more = uses_reached s (at_uses f (done ++ u ∷ []) s) f (done ++ u ∷ []) us (record { going = refl; ended = refl }) told.1 in
        subst (λ vs. Arrives q (map (use_line names) (u ∷ us)) (at_uses f vs s)) (append_assoc done (u ∷ []) us)
        (arrive_both q _ _ (use_line names u ∷ []) _ (reach_lines names steps _ _ _ _ first (ap (λ l. l ∷ []) it.line)) more)

    -- ---- sections

    -- a state behind these sections of an object
    abbrev pub body : List Worked → ℕ → ℕ → List Rewritten → List ℕ → State
    body os n k ss scalar = record {
      place = Place.AtSection;
      objects = os;
      number = n;
      step = k;
      sections = ss;
      scalar = scalar;
      start = empty key_cmp;
      uses = [];
      terms = empty key_cmp;
      proved = false;
    }

    scalar_reached : (q : State) (os : List Worked) (n k : ℕ) (ss : List Rewritten) (scalar : List ℕ) (x : Rewritten)
        → Ends q (body os n k ss scalar) → IsSectionTold names k x → is_behind_sections x.scalar ss ≡ true
        → Reaches names steps q (spaced (codes "scalar" ∷ point_names names x.scalar) ∷ [])
        (record (body os n k ss x.scalar) { place = Place.AtStart })
    scalar_reached q os n k ss scalar x ends told behind =
        let again = points_again names x.scalar know.points_differ told.points in
        reach_to names steps _ _ _ _
        (reach_next q (body os n k ss scalar) (Form.Scalar (point_names names x.scalar)) ends refl (record {
          formed = points_run names x.scalar know.points_run told.points;
          stands = refl;
          header = refl;
          object = refl;
          named = ap not (points_among names x.scalar told.points);
          numbered = refl;
          ordered =
              subst (λ ps. not ((length ps == extensor_size names.rank k) && is_rising ps && is_behind_sections ps ss) ≡ false)
              (sym again) (rw (eq-eqb (length x.scalar) (extensor_size names.rank k) told.scalar.0, increases_rising x.scalar told.scalar.1, behind) refl);
          judged = refl;
        }))
        (ap (λ ps. record (body os n k ss ps) { place = Place.AtStart }) again)

    section_reached : (q : State) (os : List Worked) (n k : ℕ) (ss : List Rewritten) (scalar : List ℕ) (x : Rewritten)
        → Ends q (body os n k ss scalar) → IsSectionTold names k x → is_behind_sections x.scalar ss ≡ true
        → Arrives q (section_lines names x) (body os n k (ss ++ x ∷ []) x.scalar)
    section_reached q os n k ss scalar x ends told behind = by_end x.end told.end
      where
        by_end : (o : Option BracketPolynomial) → IsEndTold names o
            → Arrives q (spaced (codes "scalar" ∷ point_names names x.scalar) ∷ codes "start"
            ∷ (polynomial_lines names x.start ++ (map (use_line names) x.uses ++ end_lines names o)))
            (body os n k (ss ++ record { scalar = x.scalar; start = x.start; uses = x.uses; end = o } ∷ []) x.scalar)
        by_end None told_end = absurd told_end
        by_end (Some f) told_end =
            let here = body os n k ss x.scalar in
            let opened = reach_one names steps (record here { place = Place.AtStart }) (Form.Opens Part.Start) low refl (record {
              formed = tt;
              stands = refl;
              header = refl;
              object = refl;
              named = refl;
              numbered = refl;
              ordered = refl;
              judged = refl;
            }) in
            let start = list_reached Part.Start here x.start told.start in
            let uses = uses_reached here start.state x.start [] x.uses start.ends told.uses in
            let closed = reach_next uses.state (at_uses x.start x.uses here) (Form.Opens Part.End) uses.ends refl (record {
              formed = tt;
              stands = refl;
              header = refl;
              object = refl;
              named = refl;
              numbered = refl;
              ordered = refl;
              judged = refl;
            }) in
            let end = list_reached Part.End (at_uses x.start x.uses here) f told_end in
            arrive_both _ _ _ (spaced (codes "scalar" ∷ point_names names x.scalar) ∷ []) _ (scalar_reached q os n k ss scalar x ends told behind)
            (arrive_both _ _ _ (codes "start" ∷ []) _ opened
            (arrive_both _ _ _ (polynomial_lines names x.start) _ start.reaches
            (arrive_both _ _ _ (map (use_line names) x.uses) _ uses.reaches
            (arrive_both _ _ _ (codes "end" ∷ []) _ closed end))))

    -- behind these sections, whatever points were read last
    pub record ArrivesBehind (q : State) (lines : List (List ℕ)) (os : List Worked) (n k : ℕ) (ss : List Rewritten) : Type 0 where
      pub scalar : List ℕ
      pub it : Arrives q lines (body os n k ss scalar)

    pub sections_reached : (q : State) (os : List Worked) (n k : ℕ) (ss xs : List Rewritten) (scalar : List ℕ)
        → Ends q (body os n k ss scalar) → AllByRecursion (IsSectionTold names k) xs → T (is_sorted row_cmp (scalars_of (ss ++ xs)))
        → ArrivesBehind q (flat_map (section_lines names) xs) os n k (ss ++ xs)
    sections_reached q os n k ss [] scalar ends told sorted = record {
      scalar = scalar;
      it = record {
        state = q;
        reaches = reach_none names steps q;
        ends = record { going = ends.going; ended = ends.ended ∙ ap (λ xs. body os n k xs scalar) (sym (append-nil ss)) };
      };
    }
    sections_reached q os n k ss (x ∷ xs) scalar ends told sorted =
        let first = section_reached q os n k ss scalar x ends told.0 (section_behind ss x xs sorted) in
        let same = append_assoc ss (x ∷ []) xs in
        let more = sections_reached first.state os n k (ss ++ x ∷ []) xs x.scalar first.ends told.1
        (subst (λ ys. T (is_sorted row_cmp (scalars_of ys))) (sym same) sorted) in
        record {
          scalar = more.scalar;
          it = subst (λ ys. Arrives q (flat_map (section_lines names) (x ∷ xs)) (body os n k ys more.scalar)) same
              (arrive_both q first.state _ (section_lines names x) (flat_map (section_lines names) xs) first.reaches more.it);
        }
