-- The straight list of a whole construction.
use Rattle.std.proofs.Common.{◌≡◌, ℕ, ◌+◌, ◌*◌, ◌≤◌, Bool, true, false, not, cond, List, [], ◌∷◌, ◌++◌, length, fold, Some, Result, Ok, Err, sym, ap, ◌∙◌, subst, refl, arith, append_assoc, append-nil, length-append}
use Rattle.std.specs.Prelude.{sum_by}
use Rattle.std.specs.List.{AllByRecursion, enumerate_from, flat_map}
use Rattle.std.proofs.lemmas.List.Sums.{sum_by-cons}
use Rattle.std.proofs.lemmas.Slice.Eq.{bytes_eq-Decides}
use Rattle.construction_reader.specs.declared.types.ObjectKind.{ObjectKind}
use Rattle.construction_reader.specs.Said.{Recipe, Claim, Sentence, Row, sentences_of}
use Rattle.construction_reader.specs.Grammar.{IsSentence, is_conclusion, EndsOnce, free_names, definitions}
use Rattle.step_types.specs.declared.measure.Measure.{Measure}
use Rattle.step_types.specs.declared.fault.StepKind.{StepKind}
use Rattle.step_types.specs.Measures.{free_point, of_step, kind_step}
use Rattle.step_types.specs.Known.{Known, entries_of, known_with}
use Rattle.step_types.specs.Forms.{recipe_measure, claim_measure, sentence_measure}
use Rattle.step_types.specs.Rules.{fits_rank, is_twice, measured}
use Rattle.step_types.specs.Checks.{outcome}
use Rattle.step_types.proofs.NewNames.{once_new}
use Rattle.step_types.proofs.GoodLaws.{first_taken, measure_behind, measured_so}
use Rattle.cayley_terms.specs.Named.{AreDistinct}
use Rattle.cayley_terms.specs.Figures.{Figure}
use Rattle.cayley_terms.specs.Meaning.{Frame, Scene, recipe_figure, with_point, scene_behind}
use Rattle.cayley_terms.specs.Straight.{Lowered, point_lowered, sentence_lowered, row_lowered}
use Rattle.cayley_terms.specs.Kept.{defined_in}
use Rattle.cayley_terms.proofs.Params.{SaysParams}
use Rattle.cayley_terms.proofs.Measured.{some_then, of_step_is}
use Rattle.cayley_terms.proofs.Chains.{IsEnded}
use Rattle.cayley_terms.proofs.Claims.{concludes_claim}
use Rattle.cayley_terms.proofs.Rows.{AreFound, all_found_more, Matches, match_points}
use Rattle.cayley_terms.proofs.Definitions.{match_definition}

-- ---- a statement without a fault

no_fault : (b : Bool) (kind : StepKind) (other : Result Measure StepKind) (m : Measure)
    → cond b (Err kind) other ≡ Ok m → (b ≡ false) × (other ≡ Ok m)
no_fault true kind other m e = absurd cc
no_fault false kind other m e = (refl, e)

-- makes nothing twice
once : (rank : ℕ) (known : Known) (s : Sentence) (m : Measure) → measured rank known s ≡ Ok m → is_twice known s ≡ false
unfolding measured
once rank known s m e =
    let fits = no_fault (not (fits_rank rank s)) _ _ m e in
    (no_fault (is_twice known s) _ _ m fits.1).0

-- of a free line, the measure of a point
free_measure : (rank : ℕ) (made : List (List ℕ × Measure)) (names : List (List ℕ)) (m : Measure)
    → sentence_measure rank made (Sentence.Free names) ≡ Some m → free_point ≡ m
unfolding sentence_measure
free_measure rank made names m e = cc

-- of a definition, that of its recipe
definition_measure : (rank : ℕ) (made : List (List ℕ × Measure)) (kind : ObjectKind) (name : List ℕ) (recipe : Recipe)
    (m : Measure) → sentence_measure rank made (Sentence.Define kind name recipe) ≡ Some m
    → recipe_measure rank made recipe ≡ Some m
unfolding sentence_measure
definition_measure rank made kind name recipe m e =
    let one = some_then (recipe_measure rank made recipe) (of_step (kind_step kind)) m e in
    one.1.0 ∙ ap Some (of_step_is (kind_step kind) one.0 m one.1.1).1

-- of a conclusion, that of its claim
conclusion_measure : (rank : ℕ) (made : List (List ℕ × Measure)) (claim : Claim) (m : Measure)
    → sentence_measure rank made (Sentence.Conclude claim) ≡ Some m → claim_measure rank made claim ≡ Some m
unfolding sentence_measure
conclusion_measure rank made claim m e = e

module _ (F : Frame) (d : ℕ) (params : List (List ℕ)) where
  -- ---- how many points and definitions there are

  scene_points : (names : List (List ℕ)) (scene : Scene F)
      → ((fold (with_point F) scene names).points ≡ scene.points + length names)
      × ((fold (with_point F) scene names).defined ≡ scene.defined)
  scene_points [] scene = (omega arith, refl)
  scene_points (name ∷ names) scene =
      let rest = scene_points names (with_point F scene name) in
      (let e = rest.0 in omega arith, rest.1)

  points_behind : (x : Sentence) (scene : Scene F)
      → (scene_behind F d params scene x).points ≡ scene.points + free_names x
  points_behind (Sentence.Free names) scene = (scene_points names scene).0
  points_behind (Sentence.Define kind name recipe) scene = omega arith
  points_behind (Sentence.Conclude claim) scene = omega arith

  defined_behind : (x : Sentence) (scene : Scene F)
      → length (scene_behind F d params scene x).defined ≡ length scene.defined + definitions x
  defined_behind (Sentence.Free names) scene =
      ap (λ (xs : List (Figure F.ring)). length xs) (scene_points names scene).1 ∙ omega arith
  defined_behind (Sentence.Define kind name recipe) scene =
      length-append scene.defined (recipe_figure F d params scene.objects recipe ∷ [])
  defined_behind (Sentence.Conclude claim) scene = omega arith

  pub points_at_end : (sentences : List Sentence) (scene : Scene F)
      → (fold (scene_behind F d params) scene sentences).points ≡ scene.points + sum_by free_names sentences
  points_at_end [] scene = omega arith
  points_at_end (x ∷ sentences) scene =
      let one = points_behind x scene in
      let rest = points_at_end sentences (scene_behind F d params scene x) in
      let sum = sum_by-cons free_names x sentences in
      omega (arith, one, rest, sum)

  pub defined_at_end : (sentences : List Sentence) (scene : Scene F)
      → length (fold (scene_behind F d params) scene sentences).defined
      ≡ length scene.defined + sum_by definitions sentences
  defined_at_end [] scene = omega arith
  defined_at_end (x ∷ sentences) scene =
      let one = defined_behind x scene in
      let rest = defined_at_end sentences (scene_behind F d params scene x) in
      let sum = sum_by-cons definitions x sentences in
      omega (arith, one, rest, sum)

  -- ---- one statement

  match_row : 2 ≤ d → d ≤ 4 → length params ≤ 64 → (line : ℕ) (x : Sentence) (s : Lowered) (scene : Scene F) (known : Known)
      (defs : List (List ℕ)) (m : Measure) → Matches F d (length params) s scene known.made defs → is_conclusion x ≡ false
      → SaysParams params x → measured d known x ≡ Ok m → s.points + free_names x ≤ 200 → Matches F d (length params) (sentence_lowered params line s x) (scene_behind F d params scene x) (known_with known x m).made
      (defs ++ defined_in x)
  match_row least low few_params line (Sentence.Free names) s scene known defs m matches not_last says e room =
      let so = measured_so d known (Sentence.Free names) m e in
      let new = once_new known (Sentence.Free names) (once d known (Sentence.Free names) m e) in
      let same = free_measure d known.made names m so.measure in
      let after = match_points F d (length params) least line names s scene known.made defs matches room new in
      subst (λ (ds : List (List ℕ)). Matches F d (length params) (fold (point_lowered line) s names) (fold (with_point F) scene names)
      (known.made ++ entries_of m names) ds) (sym (append-nil defs))
      (subst (λ (k : Measure). Matches F d (length params) (fold (point_lowered line) s names) (fold (with_point F) scene names)
      (known.made ++ entries_of k names) defs) same after)
  match_row least low few_params line (Sentence.Define kind name recipe) s scene known defs m matches not_last says e room =
      let so = measured_so d known (Sentence.Define kind name recipe) m e in
      let new = once_new known (Sentence.Define kind name recipe) (once d known (Sentence.Define kind name recipe) m e) in
      match_definition F d low params few_params line name recipe s scene known.made defs m matches says
      (definition_measure d known.made kind name recipe m so.measure) so.rows so.degree new.0
      ((bytes_eq-Decides name name).1 refl)
  match_row least low few_params line (Sentence.Conclude claim) s scene known defs m matches not_last says e room = absurd cc

  -- ---- all statements

  -- what was lowered is the whole text
  pub record IsWhole (t : Lowered) (scene : Scene F) (made : List (List ℕ × Measure)) (defs : List (List ℕ)) : Type 0
    where
      pub all : List Measure
      pub ended : IsEnded F d (length params) t (enumerate_from 0 scene.defined) (enumerate_from 0 all) scene.concluded
      pub each : AreFound made defs all
      pub few : length t.instrs ≤ t.points + 520 * t.definitions + 300
      pub points : scene.points ≡ t.points
      pub count : length scene.defined ≡ t.definitions
      pub distinct : AreDistinct t.numbers

  last_row : 2 ≤ d → d ≤ 4 → (line : ℕ) (x : Sentence) (s : Lowered) (scene : Scene F) (known : Known)
      (defs : List (List ℕ)) (m : Measure) → Matches F d (length params) s scene known.made defs → is_conclusion x ≡ true
      → IsSentence x → measured d known x ≡ Ok m
      → IsWhole (sentence_lowered params line s x) (scene_behind F d params scene x) (known_with known x m).made
      (defs ++ defined_in x)
  last_row least low line (Sentence.Free names) s scene known defs m matches last formed e = absurd cc
  last_row least low line (Sentence.Define kind name recipe) s scene known defs m matches last formed e = absurd cc
  last_row least low line (Sentence.Conclude claim) s scene known defs m matches last formed e =
      let so = measured_so d known (Sentence.Conclude claim) m e in
      let done = concludes_claim F d (length params) known.made scene.objects _ _ low least line claim s m matches.sound matches.tied
      formed so.fits (conclusion_measure d known.made claim m so.measure) so.rows so.degree in
      let keeps = done.keeps in
      record {
        all = matches.all;
        ended = done.ended;
        each =
            subst (λ (ds : List (List ℕ)). AreFound (known.made ++ []) ds matches.all) (sym (append-nil defs))
            (all_found_more known.made [] defs matches.all matches.each);
        few =
            let f = matches.few in let g = done.few in let p = keeps.points in let q = keeps.definitions in
            omega arith;
        points = matches.points ∙ sym keeps.points;
        count = matches.count ∙ sym keeps.definitions;
        distinct = subst AreDistinct (sym keeps.numbers) matches.distinct;
      }

  pub whole_rows : 2 ≤ d → d ≤ 4 → length params ≤ 64 → (rows : List Row) (s : Lowered) (scene : Scene F) (known last : Known)
      (defs : List (List ℕ)) → Matches F d (length params) s scene known.made defs → outcome d known rows ≡ Ok last
      → AllByRecursion IsSentence (sentences_of rows) → AllByRecursion (SaysParams params) (sentences_of rows) → EndsOnce (sentences_of rows)
      → scene.points + sum_by free_names (sentences_of rows) ≤ 200
      → IsWhole (fold (row_lowered params) s rows) (fold (scene_behind F d params) scene (sentences_of rows)) last.made
      (defs ++ flat_map defined_in (sentences_of rows))
  unfolding outcome
  whole_rows least low few_params [] s scene known last defs matches e formed says ends room = absurd ends
  whole_rows least low few_params (row ∷ []) s scene known last defs matches e formed says ends room =
      let first = first_taken d known last row [] e in
      let measure = measure_behind known first.0 row (measured d known row.sentence) first.1.0 in
      let end : first.0 ≡ last = let o = first.1.1 in cc in
      let done = last_row least low row.line row.sentence s scene known defs measure.0 matches ends formed.0
      measure.1.0 in
      let made : (known_with known row.sentence measure.0).made ≡ last.made =
      ap (λ (k : Known). k.made) (sym measure.1.1 ∙ end) in
      subst (λ (ds : List (List ℕ)). IsWhole (row_lowered params s row) (scene_behind F d params scene row.sentence)
      last.made (defs ++ ds)) (sym (append-nil (defined_in row.sentence)))
      (subst (λ (k : List (List ℕ × Measure)). IsWhole (row_lowered params s row)
      (scene_behind F d params scene row.sentence) k (defs ++ defined_in row.sentence)) made done)
  whole_rows least low few_params (row ∷ next ∷ rows) s scene known last defs matches e formed says ends room =
      let first = first_taken d known last row (next ∷ rows) e in
      let measure = measure_behind known first.0 row (measured d known row.sentence) first.1.0 in
      let sum = sum_by-cons free_names row.sentence (sentences_of (next ∷ rows)) in
      let here = matches.points in
      let behind = points_behind row.sentence scene in
      let one = match_row least low few_params row.line row.sentence s scene known defs measure.0 matches ends.0 says.0
      measure.1.0 (omega (arith, sum, here, room)) in
      let there = subst (λ (k : Known). Matches F d (length params) (row_lowered params s row)
      (scene_behind F d params scene row.sentence) k.made (defs ++ defined_in row.sentence)) (sym measure.1.1) one in
      let rest = whole_rows least low few_params (next ∷ rows) (row_lowered params s row)
      (scene_behind F d params scene row.sentence) first.0 last (defs ++ defined_in row.sentence) there first.1.1 formed.1
      says.1 ends.1 (omega (arith, sum, behind, room)) in
      subst (λ (ds : List (List ℕ)). IsWhole (fold (row_lowered params) s (row ∷ next ∷ rows))
      (fold (scene_behind F d params) scene (sentences_of (row ∷ next ∷ rows))) last.made ds)
      (append_assoc defs (defined_in row.sentence) (flat_map defined_in (sentences_of (next ∷ rows)))) rest
