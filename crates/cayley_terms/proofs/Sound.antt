-- What holds while a construction is lowered.
use Rattle.std.proofs.Common.{◌≡◌, ℕ, ◌+◌, ◌<◌, ◌≤◌, false, cond, List, [], ◌∷◌, ◌++◌, length, Option, None, Some, sym, ap, ◌∙◌, subst, refl, arith, append_assoc, append-nil, length-append}
use Rattle.std.specs.Prelude.{◌==◌, max}
use Rattle.std.specs.List.{AllByRecursion}
use Rattle.std.proofs.lemmas.Bool.{ne_eqb}
use Rattle.step_types.specs.declared.measure.Measure.{Measure}
use Rattle.step_types.specs.Good.{IsSized}
use Rattle.step_types.proofs.GoodLaws.{each_append}
use Rattle.cayley_terms.specs.declared.instr.Instr.{Instr}
use Rattle.cayley_terms.specs.declared.instr.Instr.TheVariants as instr
use Rattle.cayley_terms.specs.Figures.{Figure, no_figure, joined, met, mixed}
use Rattle.cayley_terms.specs.Meaning.{Frame}
use Rattle.cayley_terms.specs.Instrs.{made_behind, figure_at, instr_figure, figures, no_measure, measure_at, join_measure, meet_measure, on_measure, instr_measure, measures}
use Rattle.cayley_terms.specs.Programs.{NamesEarlier, IsInner}
use Rattle.cayley_terms.specs.Straight.{Lowered, pushed}
use Rattle.cayley_terms.specs.Kept.{ends}
use Rattle.cayley_terms.proofs.Made.{made-push, length-made, made-front, made-last}
use Rattle.cayley_terms.proofs.Inner.{AreInner, inner_push, ends-none, ends-some}

-- a free point is one of the first so many, and a parameter one of those that are used
abbrev pub IsGivenBelow : (used points : ℕ) → Instr → Type 0
IsGivenBelow used points (instr.Free i) = i < points
IsGivenBelow used points (instr.Join a b) = Unit {0}
IsGivenBelow used points (instr.Meet a b) = Unit {0}
IsGivenBelow used points (instr.On a b s t) = (s < used) × (t < used)
IsGivenBelow used points (instr.Conic p1 p2 p3 p4 p5 p6) = Unit {0}

pub given_more : (used n m : ℕ) (instrs : List Instr) → n ≤ m → AllByRecursion (IsGivenBelow used n) instrs
    → AllByRecursion (IsGivenBelow used m) instrs
given_more used n m [] more all = tt
given_more used n m (i ∷ instrs) more all = (one i all.0, given_more used n m instrs more all.1) where
  one : (i : Instr) → IsGivenBelow used n i → IsGivenBelow used m i
  one (instr.Free k) below = omega arith
  one (instr.Join a b) below = tt
  one (instr.Meet a b) below = tt
  one (instr.On a b s t) below = below
  one (instr.Conic p1 p2 p3 p4 p5 p6) below = tt

-- what was lowered only got more instructions
pub record Keeps (s t : Lowered) : Type 0 where
  pub more : List Instr
  pub instrs : t.instrs ≡ s.instrs ++ more
  pub numbers : t.numbers ≡ s.numbers
  pub points : t.points ≡ s.points
  pub definitions : t.definitions ≡ s.definitions

pub keeps_not : (s : Lowered) → Keeps s s
keeps_not s =
    record { more = []; instrs = sym (append-nil s.instrs); numbers = refl; points = refl; definitions = refl }

pub keeps_on : (s t u : Lowered) → Keeps s t → Keeps t u → Keeps s u
keeps_on s t u first second =
    record {
      more = first.more ++ second.more;
      instrs =
          second.instrs ∙ ap (λ instrs. instrs ++ second.more) first.instrs ∙ append_assoc s.instrs first.more second.more;
      numbers = second.numbers ∙ first.numbers;
      points = second.points ∙ first.points;
      definitions = second.definitions ∙ first.definitions;
    }

pub keeps_pushed : (line : ℕ) (mark : Option ℕ) (i : Instr) (s : Lowered) → Keeps s (pushed line mark i s).0
keeps_pushed line mark i s =
    record { more = i ∷ []; instrs = refl; numbers = refl; points = refl; definitions = refl }

-- the measure of a join of less than the rank
pub join_below : (d : ℕ) (a b : Measure) → a.step + b.step < d
    → join_measure d a b ≡ record { step = a.step + b.step; rows = a.rows + b.rows; degree = a.degree + b.degree }
join_below d a b below =
    let other : (a.step + b.step == d) ≡ false = ne_eqb (a.step + b.step) d (λ e. omega arith) in
    let none : a.rows + b.rows + cond (a.step + b.step == d) 1 0 ≡ a.rows + b.rows =
    ap (λ r. a.rows + b.rows + cond r 1 0) other ∙ omega arith in
    ap (λ (rows : ℕ). record { step = a.step + b.step; rows = rows; degree = a.degree + b.degree }) none

module _ (F : Frame) (d used : ℕ) where
  -- the instruction of this number makes an object of this measure
  pub record IsAt (instrs : List Instr) (n : ℕ) (m : Measure) (x : Figure F.ring) : Type 0 where
    pub below : n < length instrs
    pub measure : measure_at (measures d instrs) n ≡ m
    pub figure : figure_at F (figures F d instrs) n ≡ x
    pub sized : IsSized d m

  -- and so with more instructions behind it
  pub at_front : (instrs more : List Instr) (n : ℕ) (m : Measure) (x : Figure F.ring) → IsAt instrs n m x
      → IsAt (instrs ++ more) n m x
  at_front instrs more n m x at =
      record {
        below = let b = at.below in omega (arith, length-append instrs more);
        measure = made-front (instr_measure d) instrs more n no_measure at.below ∙ at.measure;
        figure = made-front (instr_figure F d) instrs more n (no_figure F.ring) at.below ∙ at.figure;
        sized = at.sized;
      }

  pub at_kept : (s t : Lowered) (n : ℕ) (m : Measure) (x : Figure F.ring) → Keeps s t → IsAt s.instrs n m x
      → IsAt t.instrs n m x
  at_kept s t n m x keeps at =
      subst (λ instrs. IsAt instrs n m x) (sym keeps.instrs) (at_front s.instrs keeps.more n m x at)

  -- what has been lowered is sound: these objects and measures ended definitions
  pub record IsSound (s : Lowered) (fs : List (ℕ × Figure F.ring)) (ms : List (ℕ × Measure)) : Type 0 where
    pub inner : AreInner d [] s.instrs
    pub lines : length s.lines ≡ length s.instrs
    pub marks : length s.defined ≡ length s.instrs
    pub figures : ends s.defined (figures F d s.instrs) ≡ fs
    pub measures : ends s.defined (measures d s.instrs) ≡ ms
    pub free : AllByRecursion (IsGivenBelow used s.points) s.instrs

  marks_made : {X : Type 0} (f : List X → Instr → X) (marks : List (Option ℕ)) (instrs : List Instr)
      → length marks ≡ length instrs → length marks ≡ length (made_behind f [] instrs)
  marks_made f marks instrs same = omega (arith, same, length-made f [] instrs)

  -- one more instruction, which ends no definition
  pub sound_push : (line : ℕ) (i : Instr) (s : Lowered) (fs : List (ℕ × Figure F.ring)) (ms : List (ℕ × Measure))
      → IsSound s fs ms → IsInner d (measures d s.instrs) i → IsGivenBelow used s.points i
      → IsSound (pushed line None i s).0 fs ms
  sound_push line i s fs ms sound inner free =
      record {
        inner = inner_push d [] s.instrs i sound.inner inner;
        lines =
            let e = sound.lines in omega (arith, length-append s.lines (line ∷ []), length-append s.instrs (i ∷ []));
        marks =
            let e = sound.marks in omega (arith, length-append s.defined (None ∷ []), length-append s.instrs (i ∷ []));
        figures =
            ap (ends (s.defined ++ None ∷ [])) (made-push (instr_figure F d) [] s.instrs i)
            ∙ ends-none s.defined (figures F d s.instrs) _
            (marks_made (instr_figure F d) s.defined s.instrs sound.marks)
            ∙ sound.figures;
        measures =
            ap (ends (s.defined ++ None ∷ [])) (made-push (instr_measure d) [] s.instrs i)
            ∙ ends-none s.defined (measures d s.instrs) _ (marks_made (instr_measure d) s.defined s.instrs sound.marks)
            ∙ sound.measures;
        free = each_append (IsGivenBelow used s.points) s.instrs (i ∷ []) sound.free (free, tt);
      }

  -- one more instruction, which ends this definition
  pub sound_end : (line k : ℕ) (i : Instr) (s : Lowered) (fs : List (ℕ × Figure F.ring)) (ms : List (ℕ × Measure))
      → IsSound s fs ms → IsInner d (measures d s.instrs) i → IsGivenBelow used s.points i
      → IsSound (pushed line (Some k) i s).0 (fs ++ (k, instr_figure F d (figures F d s.instrs) i) ∷ [])
      (ms ++ (k, instr_measure d (measures d s.instrs) i) ∷ [])
  sound_end line k i s fs ms sound inner free =
      record {
        inner = inner_push d [] s.instrs i sound.inner inner;
        lines =
            let e = sound.lines in omega (arith, length-append s.lines (line ∷ []), length-append s.instrs (i ∷ []));
        marks =
            let e = sound.marks in omega (arith, length-append s.defined (Some k ∷ []), length-append s.instrs (i ∷ []));
        figures =
            ap (ends (s.defined ++ Some k ∷ [])) (made-push (instr_figure F d) [] s.instrs i)
            ∙ ends-some s.defined (figures F d s.instrs) k _
            (marks_made (instr_figure F d) s.defined s.instrs sound.marks)
            ∙ ap (λ (es : List (ℕ × Figure F.ring)). es ++ (k, instr_figure F d (figures F d s.instrs) i) ∷ [])
            sound.figures;
        measures =
            ap (ends (s.defined ++ Some k ∷ [])) (made-push (instr_measure d) [] s.instrs i)
            ∙ ends-some s.defined (measures d s.instrs) k _
            (marks_made (instr_measure d) s.defined s.instrs sound.marks)
            ∙ ap (λ (es : List (ℕ × Measure)). es ++ (k, instr_measure d (measures d s.instrs) i) ∷ []) sound.measures;
        free = each_append (IsGivenBelow used s.points) s.instrs (i ∷ []) sound.free (free, tt);
      }

  -- the last instruction makes what it makes of those before it
  pub at_last : (instrs : List Instr) (i : Instr) (m : Measure) (x : Figure F.ring)
      → instr_measure d (measures d instrs) i ≡ m → instr_figure F d (figures F d instrs) i ≡ x → IsSized d m
      → IsAt (instrs ++ i ∷ []) (length instrs) m x
  at_last instrs i m x measure figure sized =
      record {
        below = omega (arith, length-append instrs (i ∷ []));
        measure = made-last (instr_measure d) instrs i no_measure ∙ measure;
        figure = made-last (instr_figure F d) instrs i (no_figure F.ring) ∙ figure;
        sized = sized;
      }

  -- behind so many instructions at most the next one makes an object of this measure
  pub record IsNext (s : Lowered) (fs : List (ℕ × Figure F.ring)) (ms : List (ℕ × Measure)) (many : ℕ) (t : Lowered)
      (i : Instr) (m : Measure) (x : Figure F.ring) : Type 0 where
    pub sound : IsSound t fs ms
    pub keeps : Keeps s t
    pub few : length t.instrs ≤ length s.instrs + many
    pub inner : IsInner d (measures d t.instrs) i
    pub given : IsGivenBelow used t.points i
    pub measure : instr_measure d (measures d t.instrs) i ≡ m
    pub figure : instr_figure F d (figures F d t.instrs) i ≡ x

  -- ---- the join and the meet of two

  earlier : (instrs : List Instr) (n : ℕ) (m : Measure) (x : Figure F.ring) → IsAt instrs n m x → n < length (measures d instrs)
  earlier instrs n m x at = let b = at.below in omega (arith, length-made (instr_measure d) [] instrs)

  module _ (instrs : List Instr) (a b : ℕ) (m n : Measure) (x y : Figure F.ring) (first : IsAt instrs a m x)
      (second : IsAt instrs b n y) where
    pub join_earlier : NamesEarlier (measures d instrs) (instr.Join a b)
    join_earlier = (earlier instrs a m x first, (earlier instrs b n y second, tt))

    pub meet_earlier : NamesEarlier (measures d instrs) (instr.Meet a b)
    meet_earlier = (earlier instrs a m x first, (earlier instrs b n y second, tt))

    pub join_measures : instr_measure d (measures d instrs) (instr.Join a b) ≡ join_measure d m n
    join_measures = ap (λ k. join_measure d k (measure_at (measures d instrs) b)) first.measure
        ∙ ap (join_measure d m) second.measure

    pub meet_measures : instr_measure d (measures d instrs) (instr.Meet a b) ≡ meet_measure d m n
    meet_measures = ap (λ k. meet_measure d k (measure_at (measures d instrs) b)) first.measure
        ∙ ap (meet_measure d m) second.measure

    pub join_figures : instr_figure F d (figures F d instrs) (instr.Join a b) ≡ joined F.ring x y
    join_figures = ap (λ k. joined F.ring k (figure_at F (figures F d instrs) b)) first.figure
        ∙ ap (joined F.ring x) second.figure

    pub meet_figures : instr_figure F d (figures F d instrs) (instr.Meet a b) ≡ met F.ring d x y
    meet_figures = ap (λ k. met F.ring d k (figure_at F (figures F d instrs) b)) first.figure
        ∙ ap (met F.ring d x) second.figure

    pub steps_of : (measure_at (measures d instrs) a).step + (measure_at (measures d instrs) b).step ≡ m.step + n.step
    steps_of = let e = ap (λ k. k.step) first.measure in let f = ap (λ k. k.step) second.measure in omega arith

    -- where the steps add up to less than the rank
    pub join_inner : m.step + n.step < d → m.rows + n.rows ≤ 64 → m.degree + n.degree ≤ 1000
        → IsInner d (measures d instrs) (instr.Join a b)
    join_inner below rows degree =
        let small = join_below d m n below in
        let least = first.sized.least in
        let sized : IsSized d (record { step = m.step + n.step; rows = m.rows + n.rows; degree = m.degree + n.degree }) =
        record { least = omega arith; below = below; rows = rows; degree = degree } in
        record {
          earlier = join_earlier;
          steps = let e = steps_of in omega arith;
          sized = subst (IsSized d) (sym (join_measures ∙ small)) sized;
        }

    -- where they add up to more
    pub meet_inner : d < m.step + n.step → m.rows + n.rows + 1 ≤ 64 → m.degree + n.degree ≤ 1000
        → IsInner d (measures d instrs) (instr.Meet a b)
    meet_inner above rows degree =
        let low = first.sized.below in
        let lower = second.sized.below in
        let sized : IsSized d (meet_measure d m n) =
        record { least = omega arith; below = omega arith; rows = rows; degree = degree } in
        record {
          earlier = meet_earlier;
          steps = let e = steps_of in omega arith;
          sized = subst (IsSized d) (sym meet_measures) sized;
        }

    -- a point by two parameters

    pub on_measures : (u v : ℕ) → instr_measure d (measures d instrs) (instr.On a b u v) ≡ on_measure m n
    on_measures u v = ap (λ k. on_measure k (measure_at (measures d instrs) b)) first.measure
        ∙ ap (on_measure m) second.measure

    pub on_figures : (u v : ℕ) → instr_figure F d (figures F d instrs) (instr.On a b u v)
        ≡ mixed F.ring (F.param u) (F.param v) x y
    on_figures u v =
        ap (λ k. mixed F.ring (F.param u) (F.param v) k (figure_at F (figures F d instrs) b)) first.figure
        ∙ ap (mixed F.ring (F.param u) (F.param v) x) second.figure

    pub on_inner : (u v : ℕ) → m.step ≡ 1 → n.step ≡ 1 → u < 64 → v < 64 → max m.rows n.rows ≤ 64
        → max m.degree n.degree + 1 ≤ 1000 → IsInner d (measures d instrs) (instr.On a b u v)
    on_inner u v one other u_low v_low rows degree =
        let below = first.sized.below in
        let sized : IsSized d (on_measure m n) =
        record { least = omega arith; below = omega arith; rows = rows; degree = degree } in
        record {
          earlier = join_earlier;
          steps =
              (ap (λ k. k.step) first.measure ∙ one, ap (λ k. k.step) second.measure ∙ other, u_low, v_low);
          sized = subst (IsSized d) (sym (on_measures u v)) sized;
        }
