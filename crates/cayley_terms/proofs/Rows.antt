-- Lowered statements are those of the text.
use Rattle.std.proofs.Common.{◌≡◌, ℕ, suc, ◌+◌, ◌*◌, ◌<◌, ◌≤◌, true, false, ◌||◌, cond, List, [], ◌∷◌, ◌++◌, length, map, fold, None, Some, sym, ap, ◌∙◌, subst, refl, arith, append_assoc, append-nil, length-append}
use Rattle.std.specs.List.{enumerate_from}
use Rattle.construction_reader.specs.Words.{◌is◌}
use Rattle.step_types.specs.declared.measure.Measure.{Measure}
use Rattle.step_types.specs.Measures.{free_point}
use Rattle.step_types.specs.Known.{found, entries_of, AreNew}
use Rattle.step_types.specs.Good.{IsSized}
use Rattle.step_types.proofs.NewNames.{behind}
use Rattle.cayley_terms.specs.declared.instr.Instr.{Instr}
use Rattle.cayley_terms.specs.declared.instr.Instr.TheVariants as instr
use Rattle.cayley_terms.specs.Named.{has_name, AreDistinct}
use Rattle.cayley_terms.specs.Figures.{Figure, point}
use Rattle.cayley_terms.specs.Meaning.{Frame, Scene, with_point, with_definition}
use Rattle.cayley_terms.specs.Instrs.{instr_figure, figures, instr_measure, measures}
use Rattle.cayley_terms.specs.Programs.{IsInner}
use Rattle.cayley_terms.specs.Straight.{Lowered, pushed, point_lowered, ended}
use Rattle.cayley_terms.proofs.Names.{either_false, is-sym}
use Rattle.cayley_terms.proofs.Sound.{given_more, keeps_on, keeps_pushed, IsSound, sound_push, sound_end, at_last, IsNext}
use Rattle.cayley_terms.proofs.Objects.{Tie, AreTied, tied_kept, tied_more}

-- ---- names

-- the names have these measures
abbrev pub AreFound : List (List ℕ × Measure) → List (List ℕ) → List Measure → Type 0
AreFound made [] [] = Unit {0}
AreFound made [] (m ∷ ms) = ⊥
AreFound made (name ∷ names) [] = ⊥
AreFound made (name ∷ names) (m ∷ ms) = (found name made ≡ Some m) × AreFound made names ms

-- what is found stays so
found_more : (name : List ℕ) (made more : List (List ℕ × Measure)) (m : Measure) → found name made ≡ Some m
    → found name (made ++ more) ≡ Some m
found_more name [] more m e = absurd cc
found_more name (entry ∷ made) more m e =
    elim (name is entry.0) as (λ b. cond b (Some entry.1) (found name made) ≡ Some m
    → cond b (Some entry.1) (found name (made ++ more)) ≡ Some m) [
      | true ↦ λ e. e
      | false ↦ λ e. found_more name made more m e
    ] e

-- a new name is found where it was put
found_new : (name : List ℕ) (made : List (List ℕ × Measure)) (m : Measure) → found name made ≡ None
    → name is name ≡ true → found name (made ++ (name, m) ∷ []) ≡ Some m
found_new name [] m none same = rw same refl
found_new name (entry ∷ made) m none same =
    elim (name is entry.0) as (λ b. cond b (Some entry.1) (found name made) ≡ None
    → cond b (Some entry.1) (found name (made ++ (name, m) ∷ [])) ≡ Some m) [
      | true ↦ λ e. absurd cc
      | false ↦ λ e. found_new name made m e same
    ] none

pub all_found_more : (made more : List (List ℕ × Measure)) (names : List (List ℕ)) (ms : List Measure)
    → AreFound made names ms → AreFound (made ++ more) names ms
all_found_more made more [] [] all = tt
all_found_more made more [] (m ∷ ms) all = all
all_found_more made more (name ∷ names) [] all = all
all_found_more made more (name ∷ names) (m ∷ ms) all =
    (found_more name made more m all.0, all_found_more made more names ms all.1)

all_found_push : (made : List (List ℕ × Measure)) (names : List (List ℕ)) (ms : List Measure) (name : List ℕ)
    (m : Measure) → AreFound made names ms → found name made ≡ Some m → AreFound made (names ++ name ∷ []) (ms ++ m ∷ [])
all_found_push made [] [] name m all one = (one, tt)
all_found_push made [] (n ∷ ms) name m all one = absurd all
all_found_push made (other ∷ names) [] name m all one = absurd all
all_found_push made (other ∷ names) (n ∷ ms) name m all one = (all.0, all_found_push made names ms name m all.1 one)

distinct_push : (entries : List (List ℕ × ℕ)) (name : List ℕ) (n : ℕ) → AreDistinct entries
    → has_name name entries ≡ false → AreDistinct (entries ++ (name, n) ∷ [])
distinct_push [] name n distinct new = (refl, tt)
distinct_push (first ∷ entries) name n distinct new =
    let both = either_false (name is first.0) (has_name name entries) new in
    (apart first.0 entries distinct.0 (is-sym name first.0 both.0), distinct_push entries name n distinct.1 both.1) where
      apart : (other : List ℕ) (entries : List (List ℕ × ℕ)) → has_name other entries ≡ false → other is name ≡ false
          → has_name other (entries ++ (name, n) ∷ []) ≡ false
      apart other [] none same = rw same refl
      apart other (entry ∷ entries) none same =
          let two = either_false (other is entry.0) (has_name other entries) none in
          rw (two.0, apart other entries two.1 same) refl

enumerate-push : {X : Type 0} (n : ℕ) (xs : List X) (x : X)
    → enumerate_from n (xs ++ x ∷ []) ≡ enumerate_from n xs ++ (n + length xs, x) ∷ []
enumerate-push n [] x = ap (λ k. (k, x) ∷ []) (omega arith)
enumerate-push n (y ∷ xs) x =
    ap (λ es. (n, y) ∷ es)
    (enumerate-push (n + 1) xs x ∙ ap (λ k. enumerate_from (n + 1) xs ++ (k, x) ∷ []) (omega arith))

module _ (F : Frame) (d used : ℕ) where
  -- what is new among the objects is new among the numbers
  new_number : (ties : List (Tie F d used)) (name : List ℕ) → found name (map (λ t. (t.name, t.measure)) ties) ≡ None
      → has_name name (map (λ t. (t.name, t.number)) ties) ≡ false
  new_number [] name none = refl
  new_number (t ∷ ties) name none =
      elim (name is t.name) as (λ b. cond b (Some t.measure) (found name (map (λ t. (t.name, t.measure)) ties)) ≡ None
      → (b || has_name name (map (λ t. (t.name, t.number)) ties)) ≡ false) [
        | true ↦ λ e. absurd cc
        | false ↦ λ e. new_number ties name e
      ] none

  -- what was lowered up to a place of a text is what the text means there
  pub record Matches (s : Lowered) (scene : Scene F) (made : List (List ℕ × Measure)) (names : List (List ℕ)) : Type 0
    where
      pub all : List Measure
      pub sound : IsSound F d used s (enumerate_from 0 scene.defined) (enumerate_from 0 all)
      pub tied : AreTied F d used s.instrs s.numbers made scene.objects
      pub points : scene.points ≡ s.points
      pub count : length scene.defined ≡ s.definitions
      pub counted : length all ≡ s.definitions
      pub each : AreFound made names all
      pub few : length s.instrs ≤ s.points + 520 * s.definitions
      pub distinct : AreDistinct s.numbers

  new_name : (s : Lowered) (made : List (List ℕ × Measure)) (objects : List (List ℕ × Figure F.ring)) (name : List ℕ)
      → AreTied F d used s.instrs s.numbers made objects → found name made ≡ None → has_name name s.numbers ≡ false
  new_name s made objects name tied none =
      ap (has_name name) tied.numbered
      ∙ new_number tied.ties name (ap (found name) (sym tied.measured) ∙ none)

  -- one more free point
  pub match_point : 2 ≤ d → (line : ℕ) (name : List ℕ) (s : Lowered) (scene : Scene F)
      (made : List (List ℕ × Measure)) (names : List (List ℕ)) → Matches s scene made names → s.points < 200
      → found name made ≡ None
      → Matches (point_lowered line s name) (with_point F scene name) (made ++ (name, free_point) ∷ []) names
  match_point least line name s scene made names matches room none =
      let i = instr.Free s.points in
      let wide : Lowered = record s { points = suc s.points } in
      let sized : IsSized d free_point =
      record { least = omega arith; below = omega arith; rows = omega arith; degree = omega arith } in
      let inner : IsInner d (measures d s.instrs) i = record { earlier = tt; steps = room; sized = sized } in
      let sound = matches.sound in
      let spread : IsSound F d used wide (enumerate_from 0 scene.defined) (enumerate_from 0 matches.all) =
      record {
        inner = sound.inner;
        lines = sound.lines;
        marks = sound.marks;
        figures = sound.figures;
        measures = sound.measures;
        free = given_more used s.points (suc s.points) s.instrs (omega arith) sound.free;
      } in
      let after = sound_push F d used line i wide _ _ spread inner (omega arith) in
      let x = point F.ring (F.free s.points) in
      let there = at_last F d used s.instrs i free_point x refl refl sized in
      let tie : Tie F d used = record { name = name; number = length s.instrs; measure = free_point; figure = x } in
      let kept = tied_kept F d used s (pushed line None i s).0 made scene.objects (keeps_pushed line None i s) matches.tied in
      let tied = tied_more F d used (s.instrs ++ i ∷ []) s.numbers made scene.objects tie kept there in
      let same : x ≡ point F.ring (F.free scene.points) = ap (λ n. point F.ring (F.free n)) (sym matches.points) in
      record {
        all = matches.all;
        sound =
            record {
              inner = after.inner;
              lines = after.lines;
              marks = after.marks;
              figures = after.figures;
              measures = after.measures;
              free = after.free;
            };
        tied =
            subst (λ (y : Figure F.ring). AreTied F d used (s.instrs ++ i ∷ []) (s.numbers ++ (name, length s.instrs) ∷ [])
            (made ++ (name, free_point) ∷ []) (scene.objects ++ (name, y) ∷ [])) same tied;
        points = ap suc matches.points;
        count = matches.count;
        counted = matches.counted;
        each = all_found_more made ((name, free_point) ∷ []) names matches.all matches.each;
        few = let f = matches.few in omega (arith, length-append s.instrs (i ∷ []));
        distinct =
            distinct_push s.numbers name (length s.instrs) matches.distinct
            (new_name s made scene.objects name matches.tied none);
      }

  -- free points
  pub match_points : 2 ≤ d → (line : ℕ) (news : List (List ℕ)) (s : Lowered) (scene : Scene F)
      (made : List (List ℕ × Measure)) (names : List (List ℕ)) → Matches s scene made names
      → s.points + length news ≤ 200 → AreNew made news
      → Matches (fold (point_lowered line) s news) (fold (with_point F) scene news)
      (made ++ entries_of free_point news) names
  match_points least line [] s scene made names matches room new =
      subst (λ (m : List (List ℕ × Measure)). Matches s scene m names) (sym (append-nil made)) matches
  match_points least line (name ∷ news) s scene made names matches room new =
      let one = match_point least line name s scene made names matches (omega arith) new.0 in
      let newer = behind made (name ∷ news) 0 name free_point (omega arith) refl new in
      let rest = match_points least line news (point_lowered line s name) (with_point F scene name)
      (made ++ (name, free_point) ∷ []) names one (omega arith) newer in
      subst (λ (m : List (List ℕ × Measure)). Matches (fold (point_lowered line) s (name ∷ news))
      (fold (with_point F) scene (name ∷ news)) m names)
      (append_assoc made ((name, free_point) ∷ []) (entries_of free_point news)) rest

  -- the instruction that ends a definition
  pub match_ended : (line : ℕ) (name : List ℕ) (s : Lowered) (scene : Scene F) (made : List (List ℕ × Measure))
      (names : List (List ℕ)) (t : Lowered) (i : Instr) (m : Measure) (x : Figure F.ring)
      (matches : Matches s scene made names)
      → IsNext F d used s (enumerate_from 0 scene.defined) (enumerate_from 0 matches.all) 519 t i m x
      → found name made ≡ None → name is name ≡ true
      → Matches (ended line name (t, i)) (with_definition F name x scene) (made ++ (name, m) ∷ []) (names ++ name ∷ [])
  match_ended line name s scene made names t i m x matches next none same =
      let keeps = next.keeps in
      let measure = next.measure in
      let figure = next.figure in
      let k = t.definitions in
      let r = pushed line (Some k) i t in
      let after = sound_end F d used line k i t _ _ next.sound next.inner next.given in
      let sized : IsSized d m = subst (IsSized d) measure next.inner.sized in
      let there = at_last F d used t.instrs i m x measure figure sized in
      let tie : Tie F d used = record { name = name; number = length t.instrs; measure = m; figure = x } in
      let whole = keeps_on s t r.0 keeps (keeps_pushed line (Some k) i t) in
      let kept = tied_kept F d used s r.0 made scene.objects whole matches.tied in
      let tied = tied_more F d used r.0.instrs t.numbers made scene.objects tie kept there in
      let k_is : k ≡ s.definitions = keeps.definitions in
      let defined : enumerate_from 0 scene.defined ++ (k, instr_figure F d (figures F d t.instrs) i) ∷ []
      ≡ enumerate_from 0 (scene.defined ++ x ∷ []) =
      ap (λ (y : Figure F.ring). enumerate_from 0 scene.defined ++ (k, y) ∷ []) figure
      ∙ ap (λ n. enumerate_from 0 scene.defined ++ (n, x) ∷ [])
      (let e = matches.count in let n : k ≡ 0 + length scene.defined = omega arith in n)
      ∙ sym (enumerate-push 0 scene.defined x) in
      let measured : enumerate_from 0 matches.all ++ (k, instr_measure d (measures d t.instrs) i) ∷ []
      ≡ enumerate_from 0 (matches.all ++ m ∷ []) =
      ap (λ (y : Measure). enumerate_from 0 matches.all ++ (k, y) ∷ []) measure
      ∙ ap (λ n. enumerate_from 0 matches.all ++ (n, m) ∷ [])
      (let e = matches.counted in let n : k ≡ 0 + length matches.all = omega arith in n)
      ∙ sym (enumerate-push 0 matches.all m) in
      record {
        all = matches.all ++ m ∷ [];
        sound =
            record {
              inner = after.inner;
              lines = after.lines;
              marks = after.marks;
              figures = after.figures ∙ defined;
              measures = after.measures ∙ measured;
              free = after.free;
            };
        tied = tied;
        points = matches.points ∙ sym keeps.points;
        count = let e = matches.count in omega (arith, length-append scene.defined (x ∷ []));
        counted = let e = matches.counted in omega (arith, length-append matches.all (m ∷ []));
        each =
            all_found_push (made ++ (name, m) ∷ []) names matches.all name m
            (all_found_more made ((name, m) ∷ []) names matches.all matches.each) (found_new name made m none same);
        few =
            let f = matches.few in let g = next.few in let p = keeps.points in
            omega (arith, length-append t.instrs (i ∷ []));
        distinct =
            distinct_push t.numbers name (length t.instrs) (subst AreDistinct (sym keeps.numbers) matches.distinct)
            (ap (has_name name) keeps.numbers ∙ new_name s made scene.objects name matches.tied none);
      }
