-- Lowered conclusions are those of the text: joins and meets from the left.
use Rattle.std.proofs.Common.{◌≡◌, ℕ, ◌+◌, ◌-◌, ◌*◌, ◌<◌, ◌≤◌, Bool, true, false, cond, List, [], ◌∷◌, ◌++◌, length, map, fold, None, Some, sym, ap, ◌∙◌, subst, arith, length-append}
use Rattle.std.specs.Prelude.{◌==◌}
use Rattle.std.specs.List.{AllByRecursion}
use Rattle.construction_reader.specs.Said.{Object}
use Rattle.step_types.specs.declared.measure.Measure.{Measure}
use Rattle.step_types.specs.Forms.{measure_of}
use Rattle.step_types.specs.Good.{IsSized}
use Rattle.step_types.proofs.GoodLaws.{each_append}
use Rattle.cayley_terms.specs.declared.instr.Instr.{Instr}
use Rattle.cayley_terms.specs.declared.instr.Instr.TheVariants as instr
use Rattle.cayley_terms.specs.Figures.{Figure, no_figure, joined, met}
use Rattle.cayley_terms.specs.Meaning.{Frame, object_figure}
use Rattle.cayley_terms.specs.Instrs.{figure_at, instr_figure, figures, meet_measure, instr_measure, measures}
use Rattle.cayley_terms.specs.Programs.{IsLast, EndsInOne}
use Rattle.cayley_terms.specs.Straight.{Lowered, pushed, object_lowered, objects_lowered, chain_lowered}
use Rattle.cayley_terms.specs.Kept.{ends}
use Rattle.cayley_terms.proofs.Made.{made-push, length-made, made-last}
use Rattle.cayley_terms.proofs.Inner.{last_push, ends-none}
use Rattle.cayley_terms.proofs.Sound.{IsGivenBelow, Keeps, keeps_not, keeps_on, keeps_pushed, join_below, IsAt, at_kept, IsSound, sound_push, at_last, join_earlier, meet_earlier, steps_of, join_measures, meet_measures, join_figures, meet_figures, join_inner, meet_inner}
use Rattle.cayley_terms.proofs.Objects.{AreTied, tied_kept, makes_object}

-- the sums of the steps, the rows and the degrees
abbrev pub steps_in : List Measure → ℕ
steps_in [] = 0
steps_in (m ∷ ms) = m.step + steps_in ms

abbrev pub rows_in : List Measure → ℕ
rows_in [] = 0
rows_in (m ∷ ms) = m.rows + rows_in ms

abbrev pub degrees_in : List Measure → ℕ
degrees_in [] = 0
degrees_in (m ∷ ms) = m.degree + degrees_in ms

-- the objects have these measures
abbrev pub AreMeasured : ℕ → List (List ℕ × Measure) → List Object → List Measure → Type 0
AreMeasured d made [] [] = Unit {0}
AreMeasured d made [] (m ∷ ms) = ⊥
AreMeasured d made (o ∷ os) [] = ⊥
AreMeasured d made (o ∷ os) (m ∷ ms) = (measure_of d made o ≡ Some m) × AreMeasured d made os ms

bracket_row : (b : Bool) → cond b 1 0 ≤ 1
bracket_row true = omega arith
bracket_row false = omega arith

module _ (F : Frame) (d used : ℕ) where
  -- the instructions of these numbers make objects of these measures
  abbrev pub AreAt : List Instr → List ℕ → List Measure → List (Figure F.ring) → Type 0
  AreAt instrs [] [] [] = Unit {0}
  AreAt instrs [] [] (x ∷ xs) = ⊥
  AreAt instrs [] (m ∷ ms) xs = ⊥
  AreAt instrs (n ∷ ns) [] xs = ⊥
  AreAt instrs (n ∷ ns) (m ∷ ms) [] = ⊥
  AreAt instrs (n ∷ ns) (m ∷ ms) (x ∷ xs) = IsAt F d used instrs n m x × AreAt instrs ns ms xs

  pub all_at_kept : (s t : Lowered) (ns : List ℕ) (ms : List Measure) (xs : List (Figure F.ring)) → Keeps s t
      → AreAt s.instrs ns ms xs → AreAt t.instrs ns ms xs
  all_at_kept s t [] [] [] keeps all = tt
  all_at_kept s t [] [] (x ∷ xs) keeps all = all
  all_at_kept s t [] (m ∷ ms) xs keeps all = all
  all_at_kept s t (n ∷ ns) [] xs keeps all = all
  all_at_kept s t (n ∷ ns) (m ∷ ms) [] keeps all = all
  all_at_kept s t (n ∷ ns) (m ∷ ms) (x ∷ xs) keeps all =
      (at_kept F d used s t n m x keeps all.0, all_at_kept s t ns ms xs keeps all.1)

  -- what lowering objects of these measures gives
  pub record MakesAll (s : Lowered) (fs : List (ℕ × Figure F.ring)) (ms : List (ℕ × Measure)) (r : Lowered × List ℕ)
      (all : List Measure) (xs : List (Figure F.ring)) : Type 0 where
    pub sound : IsSound F d used r.0 fs ms
    pub keeps : Keeps s r.0
    pub each : AreAt r.0.instrs r.1 all xs
    pub few : length r.0.instrs ≤ length s.instrs + (steps_in all + 4 * rows_in all)

  module _ (made : List (List ℕ × Measure)) (objects : List (List ℕ × Figure F.ring)) (fs : List (ℕ × Figure F.ring))
      (ms : List (ℕ × Measure)) (low : d ≤ 4) where
    pub makes_objects : (line : ℕ) (os : List Object) (s : Lowered) (all : List Measure) → IsSound F d used s fs ms
        → AreTied F d used s.instrs s.numbers made objects → AreMeasured d made os all → rows_in all ≤ 64
        → degrees_in all ≤ 1000
        → MakesAll s fs ms (objects_lowered line os s) all (map (object_figure F d objects) os)
    unfolding objects_lowered
    makes_objects line [] s [] sound tied e rows degree =
        record { sound = sound; keeps = keeps_not s; each = tt; few = omega arith }
    makes_objects line [] s (m ∷ all) sound tied e rows degree = absurd e
    makes_objects line (o ∷ os) s [] sound tied e rows degree = absurd e
    makes_objects line (o ∷ os) s (m ∷ all) sound tied e rows degree =
        let one = object_lowered line o s in
        let first = makes_object F d used made objects fs ms low line o s m sound tied e.0 (omega arith) (omega arith) in
        let rest = makes_objects line os one.0 all first.sound (tied_kept F d used s one.0 made objects first.keeps tied) e.1
        (omega arith) (omega arith) in
        let two = objects_lowered line os one.0 in
        record {
          sound = rest.sound;
          keeps = keeps_on s one.0 two.0 first.keeps rest.keeps;
          each = (at_kept F d used one.0 two.0 one.1 m (object_figure F d objects o) rest.keeps first.at, rest.each);
          few = let f = first.few in let g = rest.few in omega arith;
        }

  -- what has been lowered ends in the conclusion, of this object
  pub record IsEnded (s : Lowered) (fs : List (ℕ × Figure F.ring)) (ms : List (ℕ × Measure)) (x : Figure F.ring)
      : Type 0 where
    pub each : EndsInOne d [] s.instrs
    pub lines : length s.lines ≡ length s.instrs
    pub marks : length s.defined ≡ length s.instrs
    pub meant : ends s.defined (figures F d s.instrs) ≡ fs
    pub measured : ends s.defined (measures d s.instrs) ≡ ms
    pub free : AllByRecursion (IsGivenBelow used s.points) s.instrs
    pub last : figure_at F (figures F d s.instrs) (length s.instrs - 1) ≡ x

  -- the conclusion at the end
  pub ended_push : (line : ℕ) (i : Instr) (s : Lowered) (fs : List (ℕ × Figure F.ring)) (ms : List (ℕ × Measure))
      (x : Figure F.ring) → IsSound F d used s fs ms → IsLast d (measures d s.instrs) i → IsGivenBelow used s.points i
      → instr_figure F d (figures F d s.instrs) i ≡ x → IsEnded (pushed line None i s).0 fs ms x
  ended_push line i s fs ms x sound last free figure =
      let same : length s.instrs ≡ length (s.instrs ++ i ∷ []) - 1 = omega (arith, length-append s.instrs (i ∷ [])) in
      record {
        each = last_push d [] s.instrs i sound.inner last;
        lines =
            let e = sound.lines in omega (arith, length-append s.lines (line ∷ []), length-append s.instrs (i ∷ []));
        marks =
            let e = sound.marks in omega (arith, length-append s.defined (None ∷ []), length-append s.instrs (i ∷ []));
        meant =
            ap (ends (s.defined ++ None ∷ [])) (made-push (instr_figure F d) [] s.instrs i)
            ∙ ends-none s.defined (figures F d s.instrs) _
            (omega (arith, sound.marks, length-made (instr_figure F d) [] s.instrs))
            ∙ sound.figures;
        measured =
            ap (ends (s.defined ++ None ∷ [])) (made-push (instr_measure d) [] s.instrs i)
            ∙ ends-none s.defined (measures d s.instrs) _
            (omega (arith, sound.marks, length-made (instr_measure d) [] s.instrs))
            ∙ sound.measures;
        free = each_append (IsGivenBelow used s.points) s.instrs (i ∷ []) sound.free (free, tt);
        last =
            ap (figure_at F (figures F d (s.instrs ++ i ∷ []))) (sym same)
            ∙ made-last (instr_figure F d) s.instrs i (no_figure F.ring) ∙ figure;
      }

  -- two steps that add up to the rank end in a join
  join_ends : (line : ℕ) (s : Lowered) (fs : List (ℕ × Figure F.ring)) (ms : List (ℕ × Measure)) (a b : ℕ)
      (m n : Measure) (x y : Figure F.ring) → IsSound F d used s fs ms → IsAt F d used s.instrs a m x → IsAt F d used s.instrs b n y
      → m.step + n.step ≡ d → m.rows + n.rows + 1 ≤ 64 → m.degree + n.degree ≤ 1000
      → IsEnded (pushed line None (instr.Join a b) s).0 fs ms (joined F.ring x y)
  join_ends line s fs ms a b m n x y sound first second same rows degree =
      let measure = join_measures F d used s.instrs a b m n x y first second in
      let rows_are = ap (λ (k : Measure). k.rows) measure in
      let degree_is = ap (λ (k : Measure). k.degree) measure in
      let row = bracket_row (m.step + n.step == d) in
      ended_push line (instr.Join a b) s fs ms (joined F.ring x y) sound
      (record {
        earlier = join_earlier F d used s.instrs a b m n x y first second;
        steps = let e = steps_of F d used s.instrs a b m n x y first second in omega arith;
        rows = omega arith;
        degree = omega arith;
      })
      tt (join_figures F d used s.instrs a b m n x y first second)

  -- and in a meet
  meet_ends : (line : ℕ) (s : Lowered) (fs : List (ℕ × Figure F.ring)) (ms : List (ℕ × Measure)) (a b : ℕ)
      (m n : Measure) (x y : Figure F.ring) → IsSound F d used s fs ms → IsAt F d used s.instrs a m x → IsAt F d used s.instrs b n y
      → m.step + n.step ≡ d → m.rows + n.rows + 1 ≤ 64 → m.degree + n.degree ≤ 1000
      → IsEnded (pushed line None (instr.Meet a b) s).0 fs ms (met F.ring d x y)
  meet_ends line s fs ms a b m n x y sound first second same rows degree =
      let measure = meet_measures F d used s.instrs a b m n x y first second in
      let rows_are = ap (λ (k : Measure). k.rows) measure in
      let degree_is = ap (λ (k : Measure). k.degree) measure in
      ended_push line (instr.Meet a b) s fs ms (met F.ring d x y) sound
      (record {
        earlier = meet_earlier F d used s.instrs a b m n x y first second;
        steps = let e = steps_of F d used s.instrs a b m n x y first second in omega arith;
        rows = omega arith;
        degree = omega arith;
      })
      tt (meet_figures F d used s.instrs a b m n x y first second)

  -- what a conclusion gives
  pub record Concludes (s : Lowered) (fs : List (ℕ × Figure F.ring)) (ms : List (ℕ × Measure)) (t : Lowered)
      (x : Figure F.ring) (count : ℕ) : Type 0 where
    pub ended : IsEnded t fs ms x
    pub keeps : Keeps s t
    pub few : length t.instrs ≤ length s.instrs + count

  -- joins from the left, of steps that add up to the rank
  pub joins_conclude : (line : ℕ) (s : Lowered) (fs : List (ℕ × Figure F.ring)) (ms : List (ℕ × Measure)) (n : ℕ)
      (m : Measure) (x : Figure F.ring) (ns : List ℕ) (all : List Measure) (xs : List (Figure F.ring))
      → IsSound F d used s fs ms → IsAt F d used s.instrs n m x → AreAt s.instrs ns all xs → 0 < length ns
      → m.step + steps_in all ≡ d → m.rows + rows_in all + 1 ≤ 64 → m.degree + degrees_in all ≤ 1000
      → Concludes s fs ms (chain_lowered instr.Join line n ns s).0 (fold (joined F.ring) x xs) (length ns)
  unfolding chain_lowered
  joins_conclude line s fs ms n m x [] all xs sound at each some steps rows degree = absurd (omega arith)
  joins_conclude line s fs ms n m x (k ∷ ns) [] xs sound at each some steps rows degree = absurd each
  joins_conclude line s fs ms n m x (k ∷ ns) (a ∷ all) [] sound at each some steps rows degree = absurd each
  joins_conclude line s fs ms n m x (k ∷ []) (a ∷ []) (y ∷ []) sound at each some steps rows degree =
      record {
        ended = join_ends line s fs ms n k m a x y sound at each.0 (omega arith) (omega arith) (omega arith);
        keeps = keeps_pushed line None (instr.Join n k) s;
        few = omega (arith, length-append s.instrs (instr.Join n k ∷ []));
      }
  joins_conclude line s fs ms n m x (k ∷ []) (a ∷ []) (y ∷ z ∷ xs) sound at each some steps rows degree = absurd each.1
  joins_conclude line s fs ms n m x (k ∷ []) (a ∷ b ∷ all) (y ∷ xs) sound at each some steps rows degree = absurd each.1
  joins_conclude line s fs ms n m x (k ∷ l ∷ ns) (a ∷ []) (y ∷ xs) sound at each some steps rows degree = absurd each.1
  joins_conclude line s fs ms n m x (k ∷ l ∷ ns) (a ∷ b ∷ all) (y ∷ []) sound at each some steps rows degree =
      absurd each.1
  joins_conclude line s fs ms n m x (k ∷ l ∷ ns) (a ∷ b ∷ all) (y ∷ z ∷ xs) sound at each some steps rows degree =
      let i = instr.Join n k in
      let one = pushed line None i s in
      let next = each.1.0 in
      let least = next.sized.least in
      let below : m.step + a.step < d = omega arith in
      let both : Measure = record { step = m.step + a.step; rows = m.rows + a.rows; degree = m.degree + a.degree } in
      let inner = join_inner F d used s.instrs n k m a x y at each.0 below (omega arith) (omega arith) in
      let measure = join_measures F d used s.instrs n k m a x y at each.0 ∙ join_below d m a below in
      let there = at_last F d used s.instrs i both (joined F.ring x y) measure
      (join_figures F d used s.instrs n k m a x y at each.0) (subst (IsSized d) measure inner.sized) in
      let keeps = keeps_pushed line None i s in
      let rest = joins_conclude line one.0 fs ms one.1 both (joined F.ring x y) (l ∷ ns) (b ∷ all) (z ∷ xs)
      (sound_push F d used line i s fs ms sound inner tt) there
      (all_at_kept s one.0 (l ∷ ns) (b ∷ all) (z ∷ xs) keeps each.1) (omega arith) (omega arith) (omega arith)
      (omega arith) in
      record {
        ended = rest.ended;
        keeps = keeps_on s one.0 _ keeps rest.keeps;
        few = let f = rest.few in omega (arith, length-append s.instrs (i ∷ []));
      }

  -- a hyperplane: its step is one below the rank
  abbrev pub IsHyperplane : Measure → Type 0
  IsHyperplane m = m.step + 1 ≡ d

  -- meets from the left, of hyperplanes
  pub meets_conclude : (line : ℕ) (s : Lowered) (fs : List (ℕ × Figure F.ring)) (ms : List (ℕ × Measure)) (n : ℕ)
      (m : Measure) (x : Figure F.ring) (ns : List ℕ) (all : List Measure) (xs : List (Figure F.ring))
      → IsSound F d used s fs ms → IsAt F d used s.instrs n m x → AreAt s.instrs ns all xs → 0 < length ns
      → m.step ≡ length all → AllByRecursion IsHyperplane all → m.rows + rows_in all + length all ≤ 64
      → m.degree + degrees_in all ≤ 1000
      → Concludes s fs ms (chain_lowered instr.Meet line n ns s).0 (fold (met F.ring d) x xs) (length ns)
  unfolding chain_lowered
  meets_conclude line s fs ms n m x [] all xs sound at each some steps planes rows degree = absurd (omega arith)
  meets_conclude line s fs ms n m x (k ∷ ns) [] xs sound at each some steps planes rows degree = absurd each
  meets_conclude line s fs ms n m x (k ∷ ns) (a ∷ all) [] sound at each some steps planes rows degree = absurd each
  meets_conclude line s fs ms n m x (k ∷ []) (a ∷ []) (y ∷ []) sound at each some steps planes rows degree =
      let plane = planes.0 in
      record {
        ended = meet_ends line s fs ms n k m a x y sound at each.0 (omega arith) (omega arith) (omega arith);
        keeps = keeps_pushed line None (instr.Meet n k) s;
        few = omega (arith, length-append s.instrs (instr.Meet n k ∷ []));
      }
  meets_conclude line s fs ms n m x (k ∷ []) (a ∷ []) (y ∷ z ∷ xs) sound at each some steps planes rows degree =
      absurd each.1
  meets_conclude line s fs ms n m x (k ∷ []) (a ∷ b ∷ all) (y ∷ xs) sound at each some steps planes rows degree =
      absurd each.1
  meets_conclude line s fs ms n m x (k ∷ l ∷ ns) (a ∷ []) (y ∷ xs) sound at each some steps planes rows degree =
      absurd each.1
  meets_conclude line s fs ms n m x (k ∷ l ∷ ns) (a ∷ b ∷ all) (y ∷ []) sound at each some steps planes rows degree =
      absurd each.1
  meets_conclude line s fs ms n m x (k ∷ l ∷ ns) (a ∷ b ∷ all) (y ∷ z ∷ xs) sound at each some steps planes rows degree =
      let i = instr.Meet n k in
      let one = pushed line None i s in
      let plane = planes.0 in
      let above : d < m.step + a.step = omega arith in
      let both : Measure = meet_measure d m a in
      let inner = meet_inner F d used s.instrs n k m a x y at each.0 above (omega arith) (omega arith) in
      let measure = meet_measures F d used s.instrs n k m a x y at each.0 in
      let there = at_last F d used s.instrs i both (met F.ring d x y) measure
      (meet_figures F d used s.instrs n k m a x y at each.0) (subst (IsSized d) measure inner.sized) in
      let keeps = keeps_pushed line None i s in
      let rest = meets_conclude line one.0 fs ms one.1 both (met F.ring d x y) (l ∷ ns) (b ∷ all) (z ∷ xs)
      (sound_push F d used line i s fs ms sound inner tt) there
      (all_at_kept s one.0 (l ∷ ns) (b ∷ all) (z ∷ xs) keeps each.1) (omega arith) (omega arith) planes.1 (omega arith)
      (omega arith) in
      record {
        ended = rest.ended;
        keeps = keeps_on s one.0 _ keeps rest.keeps;
        few = let f = rest.few in omega (arith, length-append s.instrs (i ∷ []));
      }
