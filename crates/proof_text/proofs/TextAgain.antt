-- The text of a proof is read as that proof.
use Rattle.std.proofs.Common.{◌≡◌, ℕ, ◌+◌, ◌^◌, ◌<◌, ◌≤◌, Bool, true, false, not, List, [], ◌∷◌, ◌++◌, length, length-append, Ok, refl, sym, ap, subst, ◌∙◌, append_assoc, append-nil, arith}
use Rattle.std.specs.Prelude.{decimal, flat_map, slice_index, nat_lt, if◌then◌else◌}
use Rattle.std.specs.List.{AllByRecursion}
use Rattle.std.proofs.Math.Seq.{get_or-append_seam}
use Rattle.std.proofs.lemmas.Bool.{lt-ltb, le-ltb}
use Rattle.bracket_poly.specs.Sections.{Rewritten, Worked}
use Rattle.step_types.specs.declared.names.Names.{Names}
use Rattle.construction_reader.proofs.ObjectLaws.{is_itself}
use Rattle.proof_text.specs.Cut.{cut}
use Rattle.proof_text.specs.Numbers.{number_of, writes}
use Rattle.proof_text.specs.Forms.{Form, form_line, verdict_word}
use Rattle.proof_text.specs.Proofs.{object_lines, head_lines}
use Rattle.proof_text.specs.Kinds.{are_same, is_next_object, is_decided}
use Rattle.proof_text.specs.Told.{Told, proof_lines, is_zero_end, IsSectionTold, IsObjectTold, AreObjectsTold, IsDecided, IsLastDecided, TextOf}
use Rattle.proof_text.specs.State.{Place, State, at_first, begun, takes, told}
use Rattle.proof_text.specs.Readings.{reads, read_of}
use Rattle.proof_text.proofs.NameLaws.{all_at}
use Rattle.proof_text.proofs.IntegerLaws.{decimal_number, decimal_value, decimal_plain, decimal_writes}
use Rattle.proof_text.proofs.LineFeeds.{closed_lines, cut_text}
use Rattle.proof_text.proofs.MoveLaws as move
use Rattle.proof_text.proofs.Reaching.{Reaches, reach_both, reach_to, reach_lines, reach_one}
use Rattle.proof_text.proofs.SectionAgain as section

same_self : (names : List (List ℕ)) → are_same names names ≡ true
same_self [] = refl
same_self (name ∷ names) = rw (is_itself name) (same_self names)

decided_again : (is_proved : Bool) (ss : List Rewritten) → IsDecided is_proved ss → is_decided is_proved ss ≡ true
decided_again is_proved [] it = absurd it
decided_again is_proved (s ∷ []) it = by (is_zero_end s.end) is_proved it
  where
    by : (a b : Bool) → a ≡ b → (if a then b else not b) ≡ true
    by true true e = refl
    by true false e = absurd cc
    by false true e = absurd cc
    by false false e = refl
decided_again is_proved (s ∷ t ∷ ss) it = absurd it

last_is : (is_proved : Bool) (os : List Worked) (o : Worked) → IsLastDecided is_proved (os ++ o ∷ []) → IsDecided is_proved o.sections
last_is is_proved [] o it = it
last_is is_proved (p ∷ []) o it = it
last_is is_proved (p ∷ q ∷ os) o it = last_is is_proved (q ∷ os) o it

as_many : (names : Names) (n : ℕ) (ks : List ℕ) (os : List Worked) → AreObjectsTold names n ks os → length os ≡ length ks
as_many names n [] [] told = refl
as_many names n [] (o ∷ os) told = absurd told
as_many names n (k ∷ ks) [] told = absurd told
as_many names n (k ∷ ks) (o ∷ os) told = let more = as_many names (n + 1) ks os told.1 in omega (arith, more)

module _ (names : Names) (steps : List ℕ) (know : move.Knows names steps) where
  -- the states of a body
  abbrev body : List Worked → ℕ → ℕ → List Rewritten → List ℕ → State
  body os n k ss scalar = section.body names steps know.names_known know.rank.0 os n k ss scalar

  abbrev ArrivesBehind : State → List (List ℕ) → List Worked → ℕ → ℕ → List Rewritten → Type 0
  ArrivesBehind = section.ArrivesBehind names steps know.names_known know.rank.0

  -- ---- objects

  object_reached : (place : Place) (q : State) (os : List Worked) (n k : ℕ) (ss : List Rewritten) (scalar : List ℕ)
      (done : List Worked) (step : ℕ) (o : Worked)
      → ((m : Bool) (number step : List ℕ) → takes m place (Form.Object number step) ≡ m)
      → section.Ends names steps q (record (body os n k ss scalar) { place = place }) → begun (body os n k ss scalar) ≡ done
      → length done < length steps → slice_index steps (length done) ≡ step → IsObjectTold names (length done + 1) step o
      → ArrivesBehind q (object_lines names o) done o.number o.step o.sections
  object_reached place q os n k ss scalar done step o stands ends is_done below at told =
      let here : State = record (body os n k ss scalar) { place = place } in
      let within : slice_index steps (length done) ≤ names.rank = all_at (λ j. j ≤ names.rank) steps (length done) 0 know.steps_within below in
      let count : length (begun here) ≡ length done = ap (λ (xs : List Worked). length xs) is_done in
      let small : o.number < 10 ^ 64 = omega (arith, told.number_is, know.few_steps) in
      let few : o.step < 10 ^ 64 = omega (arith, told.step_is, at, within, know.rank.1) in
      let number : writes (decimal o.number) (length (begun here) + 1) ≡ true =
      subst (λ m. writes (decimal o.number) m ≡ true) (told.number_is ∙ ap (λ m. m + 1) (sym count)) (decimal_writes o.number small) in
      let its_step : writes (decimal o.step) (slice_index steps (length (begun here))) ≡ true =
      subst (λ m. writes (decimal o.step) m ≡ true) (told.step_is ∙ sym at ∙ ap (slice_index steps) (sym count)) (decimal_writes o.step few) in
      let next : is_next_object steps here (decimal o.number) (decimal o.step) ≡ true = rw number its_step in
      let to_come : nat_lt (length (begun here)) (length steps) ≡ true = lt-ltb _ _ (omega (arith, count, below)) in
      let line = section.reach_next names steps know.names_known know.rank.0 q here (Form.Object (decimal o.number) (decimal o.step)) ends refl (record {
        formed = (decimal_number o.number small, decimal_number o.step few);
        stands = rw (stands (nat_lt (length (begun here)) (length steps)) (decimal o.number) (decimal o.step), to_come) refl;
        header = refl;
        object = ap not next;
        named = refl;
        numbered = rw (decimal_plain o.number small, decimal_plain o.step few) refl;
        ordered = refl;
        judged = refl;
      }) in
      let at_body = reach_to names steps _ _ _ _ line
      (ap (λ xs. body xs (number_of (decimal o.number)) (number_of (decimal o.step)) [] scalar) is_done
      ∙ ap (λ m. body done m (number_of (decimal o.step)) [] scalar) (decimal_value o.number small)
      ∙ ap (λ m. body done o.number m [] scalar) (decimal_value o.step few)) in
      let sections = section.sections_reached names steps know.names_known know.rank.0 (body done o.number o.step [] scalar) done o.number o.step [] o.sections scalar
      (record { going = refl; ended = refl })
      (subst (λ j. AllByRecursion (IsSectionTold names j) o.sections) (sym told.step_is) told.sections) told.ascending in
      record {
        scalar = sections.scalar;
        it = section.arrive_both names steps q _ _ (form_line (Form.Object (decimal o.number) (decimal o.step)) ∷ []) _ at_body sections.it;
      }

  -- behind all objects
  record ArrivesLast (q : State) (lines : List (List ℕ)) (all : List Worked) : Type 0 where
    os : List Worked
    n : ℕ
    k : ℕ
    ss : List Rewritten
    it : ArrivesBehind q lines os n k ss
    count : n ≡ length os + 1
    objects : os ++ record { number = n; step = k; sections = ss } ∷ [] ≡ all

  -- an object at the place of its step
  next_reached : (place : Place) (q : State) (os : List Worked) (n k : ℕ) (ss : List Rewritten) (scalar : List ℕ)
      (done : List Worked) (front back : List ℕ) (step : ℕ) (o : Worked)
      → ((m : Bool) (number step : List ℕ) → takes m place (Form.Object number step) ≡ m)
      → section.Ends names steps q (record (body os n k ss scalar) { place = place }) → begun (body os n k ss scalar) ≡ done
      → length front ≡ length done → steps ≡ front ++ step ∷ back → IsObjectTold names (length done + 1) step o
      → ArrivesBehind q (object_lines names o) done o.number o.step o.sections
  next_reached place q os n k ss scalar done front back step o stands ends is_done long whole told =
      let below : length done < length steps = omega (arith, ap length whole, length-append front (step ∷ back), long) in
      let at : slice_index steps (length done) ≡ step =
      ap (slice_index steps) (sym long) ∙ ap (λ xs. slice_index xs (length front)) whole ∙ get_or-append_seam front step back 0 in
      object_reached place q os n k ss scalar done step o stands ends is_done below at told

  objects_reached : (place : Place) (q : State) (os : List Worked) (n k : ℕ) (ss : List Rewritten) (scalar : List ℕ)
      (done todo : List Worked) (front back : List ℕ) (step : ℕ) (o : Worked)
      → ((m : Bool) (number step : List ℕ) → takes m place (Form.Object number step) ≡ m)
      → section.Ends names steps q (record (body os n k ss scalar) { place = place }) → begun (body os n k ss scalar) ≡ done
      → length front ≡ length done → steps ≡ front ++ step ∷ back → AreObjectsTold names (length done + 1) (step ∷ back) (o ∷ todo)
      → ArrivesLast q (flat_map (object_lines names) (o ∷ todo)) (done ++ o ∷ todo)
  objects_reached place q os n k ss scalar done [] front [] step o stands ends is_done long whole told =
      let first = next_reached place q os n k ss scalar done front [] step o stands ends is_done long whole told.0 in
      record {
        os = done;
        n = o.number;
        k = o.step;
        ss = o.sections;
        it = record {
          scalar = first.scalar;
          it = record {
            state = first.it.state;
            reaches = reach_lines names steps _ _ _ _ first.it.reaches (sym (append-nil (object_lines names o)));
            ends = first.it.ends;
          };
        };
        count = told.0.number_is;
        objects = refl;
      }
  objects_reached place q os n k ss scalar done [] front (j ∷ back) step o stands ends is_done long whole told = absurd told.1
  objects_reached place q os n k ss scalar done (p ∷ todo) front [] step o stands ends is_done long whole told = absurd told.1
  objects_reached place q os n k ss scalar done (p ∷ todo) front (j ∷ back) step o stands ends is_done long whole told =
      let first = next_reached place q os n k ss scalar done front (j ∷ back) step o stands ends is_done long whole told.0 in
      let longer : length (done ++ o ∷ []) ≡ length done + 1 = length-append done (o ∷ []) in
      let more = objects_reached Place.AtSection first.it.state done o.number o.step o.sections first.scalar (done ++ o ∷ []) todo
      (front ++ step ∷ []) back j p (λ m number step. refl) first.it.ends
      (move.some_begun (body done o.number o.step o.sections first.scalar) told.0.number_is)
      (omega (arith, length-append front (step ∷ []), longer, long))
      (whole ∙ sym (append_assoc front (step ∷ []) (j ∷ back)))
      (subst (λ m. AreObjectsTold names (m + 1) (j ∷ back) (p ∷ todo)) (sym longer) told.1) in
      record {
        os = more.os;
        n = more.n;
        k = more.k;
        ss = more.ss;
        it = record {
          scalar = more.it.scalar;
          it = section.arrive_both names steps q first.it.state _ (object_lines names o) _ first.it.reaches more.it.it;
        };
        count = more.count;
        objects = more.objects ∙ append_assoc done (o ∷ []) (p ∷ todo);
      }

  -- ---- the head

  abbrev ready_state : State
  ready_state = record at_first { place = Place.AtObject }

  head_reached : 0 < length names.free → Reaches names steps at_first (head_lines names) ready_state
  head_reached some =
      let low : 2 ≤ names.rank = know.rank.0 in
      let small : names.rank < 10 ^ 64 = omega (arith, know.rank.1) in
      let proof = reach_one names steps at_first Form.Proof low refl (record {
        formed = tt;
        stands = refl;
        header = refl;
        object = refl;
        named = refl;
        numbered = refl;
        ordered = refl;
        judged = refl;
      }) in
      let rank = reach_one names steps (record at_first { place = Place.AtRank }) (Form.Rank (decimal names.rank)) low refl (record {
        formed = decimal_number names.rank small;
        stands = refl;
        header = ap not (decimal_writes names.rank small);
        object = refl;
        named = refl;
        numbered = decimal_plain names.rank small;
        ordered = refl;
        judged = refl;
      }) in
      let free = reach_one names steps (record at_first { place = Place.AtFree }) (Form.Free names.free) low refl (record {
        formed = (some, know.names_known.points_run);
        stands = refl;
        header = ap not (same_self names.free);
        object = refl;
        named = refl;
        numbered = refl;
        ordered = refl;
        judged = refl;
      }) in
      let params = reach_one names steps (record at_first { place = Place.AtParams }) (Form.Params names.params) low refl (record {
        formed = know.names_known.params_run;
        stands = refl;
        header = ap not (same_self names.params);
        object = refl;
        named = refl;
        numbered = refl;
        ordered = refl;
        judged = refl;
      }) in
      reach_both names steps _ _ _ _ _ proof (reach_both names steps _ _ _ _ _ rank (reach_both names steps _ _ _ _ _ free params))

  -- ---- whole texts

  -- the objects of a proof, of which there is one
  all_reached : (is_proved : Bool) (ks : List ℕ) (os : List Worked) → steps ≡ ks → AreObjectsTold names 1 ks os → IsLastDecided is_proved os
      → ArrivesLast ready_state (flat_map (object_lines names) os) os
  all_reached is_proved ks [] whole told last = absurd last
  all_reached is_proved [] (o ∷ os) whole told last = absurd told
  all_reached is_proved (k ∷ ks) (o ∷ os) whole told last =
      objects_reached Place.AtObject ready_state [] 0 0 [] [] [] os [] ks k o (λ m number step. refl) (record { going = refl; ended = refl }) refl refl whole told

  pub read_again : (bytes : List ℕ) (p : Told) → TextOf names steps bytes p → read_of names steps bytes ≡ Ok p
  unfolding read_of reads
  read_again bytes p text =
      let good = text.good in
      let objects = all_reached p.proved steps p.objects refl good.objects good.verdict in
      let here = body objects.os objects.n objects.k objects.ss objects.it.scalar in
      let is_begun : begun here ≡ p.objects = move.some_begun here objects.count ∙ objects.objects in
      let no_more : nat_lt (length (begun here)) (length steps) ≡ false =
      le-ltb _ _ (omega (arith, ap length is_begun, as_many names 1 steps p.objects good.objects)) in
      let decided : is_decided p.proved objects.ss ≡ true =
      decided_again p.proved objects.ss (last_is p.proved objects.os (record { number = objects.n; step = objects.k; sections = objects.ss })
      (subst (IsLastDecided p.proved) (sym objects.objects) good.verdict)) in
      let verdict = section.reach_next names steps know.names_known know.rank.0 objects.it.it.state here (Form.Verdict p.proved) objects.it.it.ends refl (record {
        formed = tt;
        stands = rw no_more refl;
        header = refl;
        object = refl;
        named = refl;
        numbered = refl;
        ordered = refl;
        judged = ap not decided;
      }) in
      let reached = reach_both names steps at_first ready_state _ (head_lines names) _ (head_reached good.some_point)
      (reach_both names steps _ _ _ (flat_map (object_lines names) p.objects) _ objects.it.it.reaches
      (reach_lines names steps _ _ _ _ verdict (ap (λ l. l ∷ []) (append-nil (verdict_word p.proved))))) in
      let led = reached.leads 1 [] in
      ap (λ bs. reads names steps 1 (cut bs) at_first) text.text
      ∙ ap (λ ls. reads names steps 1 ls at_first) (cut_text (proof_lines names p) reached.whole ∙ sym (append-nil (closed_lines (proof_lines names p))))
      ∙ led.1 ∙ ap (λ os. Ok (record { objects = os; proved = p.proved })) is_begun
