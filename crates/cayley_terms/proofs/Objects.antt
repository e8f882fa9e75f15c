-- Lowered objects are the objects of the text.
use Rattle.std.proofs.Common.{◌≡◌, ℕ, ◌+◌, ◌-◌, ◌*◌, ◌<◌, ◌≤◌, true, false, cond, List, [], ◌∷◌, ◌++◌, length, map, None, Some, sym, ap, ◌∙◌, subst, arith, length-append}
use Rattle.std.specs.List.{AllByRecursion}
use Rattle.std.proofs.lemmas.List.{map-append}
use Rattle.construction_reader.specs.Words.{◌is◌}
use Rattle.construction_reader.specs.Said.{Object}
use Rattle.step_types.specs.declared.measure.Measure.{Measure}
use Rattle.step_types.specs.Known.{found}
use Rattle.step_types.specs.Forms.{measure_of}
use Rattle.step_types.specs.Good.{IsSized}
use Rattle.step_types.proofs.GoodLaws.{each_append}
use Rattle.cayley_terms.specs.declared.instr.Instr.{Instr}
use Rattle.cayley_terms.specs.declared.instr.Instr.TheVariants as instr
use Rattle.cayley_terms.specs.Named.{named}
use Rattle.cayley_terms.specs.Figures.{Figure, no_figure, joined, met}
use Rattle.cayley_terms.specs.Meaning.{Frame, object_figure}
use Rattle.cayley_terms.specs.Straight.{Lowered, pushed, object_lowered}
use Rattle.cayley_terms.proofs.Measured.{join_parts, meet_parts, joined_is, met_is}
use Rattle.cayley_terms.proofs.Sound.{Keeps, keeps_not, keeps_on, keeps_pushed, join_below, IsAt, at_front, at_kept, IsSound, sound_push, at_last, join_measures, meet_measures, join_figures, meet_figures, join_inner, meet_inner}

module _ (F : Frame) (d used : ℕ) where
  -- a name with the number, the measure and the object that it has
  pub record Tie : Type 0 where
    pub name : List ℕ
    pub number : ℕ
    pub measure : Measure
    pub figure : Figure F.ring

  -- the instruction of its number makes the object
  abbrev pub IsTie : List Instr → Tie → Type 0
  IsTie instrs t = IsAt F d used instrs t.number t.measure t.figure

  -- the same names have these numbers, measures and objects
  pub record AreTied (instrs : List Instr) (numbers : List (List ℕ × ℕ)) (made : List (List ℕ × Measure))
      (objects : List (List ℕ × Figure F.ring)) : Type 0 where
    pub ties : List Tie
    pub numbered : numbers ≡ map (λ t. (t.name, t.number)) ties
    pub measured : made ≡ map (λ t. (t.name, t.measure)) ties
    pub meant : objects ≡ map (λ t. (t.name, t.figure)) ties
    pub each : AllByRecursion (IsTie instrs) ties

  ties_front : (instrs more : List Instr) (ties : List Tie) → AllByRecursion (IsTie instrs) ties
      → AllByRecursion (IsTie (instrs ++ more)) ties
  ties_front instrs more [] all = tt
  ties_front instrs more (t ∷ ties) all =
      (at_front F d used instrs more t.number t.measure t.figure all.0, ties_front instrs more ties all.1)

  -- and so with more instructions behind them
  pub tied_kept : (s t : Lowered) (made : List (List ℕ × Measure)) (objects : List (List ℕ × Figure F.ring))
      → Keeps s t → AreTied s.instrs s.numbers made objects → AreTied t.instrs t.numbers made objects
  tied_kept s t made objects keeps tied =
      record {
        ties = tied.ties;
        numbered = keeps.numbers ∙ tied.numbered;
        measured = tied.measured;
        meant = tied.meant;
        each =
            subst (λ instrs. AllByRecursion (IsTie instrs) tied.ties) (sym keeps.instrs)
            (ties_front s.instrs keeps.more tied.ties tied.each);
      }

  -- with one more name
  pub tied_more : (instrs : List Instr) (numbers : List (List ℕ × ℕ)) (made : List (List ℕ × Measure))
      (objects : List (List ℕ × Figure F.ring)) (t : Tie) → AreTied instrs numbers made objects → IsTie instrs t
      → AreTied instrs (numbers ++ (t.name, t.number) ∷ []) (made ++ (t.name, t.measure) ∷ [])
      (objects ++ (t.name, t.figure) ∷ [])
  tied_more instrs numbers made objects t tied at =
      record {
        ties = tied.ties ++ t ∷ [];
        numbered =
            ap (λ (es : List (List ℕ × ℕ)). es ++ (t.name, t.number) ∷ []) tied.numbered
            ∙ sym (map-append (λ (t : Tie). (t.name, t.number)) tied.ties (t ∷ []));
        measured =
            ap (λ (es : List (List ℕ × Measure)). es ++ (t.name, t.measure) ∷ []) tied.measured
            ∙ sym (map-append (λ (t : Tie). (t.name, t.measure)) tied.ties (t ∷ []));
        meant =
            ap (λ (es : List (List ℕ × Figure F.ring)). es ++ (t.name, t.figure) ∷ []) tied.meant
            ∙ sym (map-append (λ (t : Tie). (t.name, t.figure)) tied.ties (t ∷ []));
        each = each_append (IsTie instrs) tied.ties (t ∷ []) tied.each (at, tt);
      }

  found_in : (instrs : List Instr) (ties : List Tie) (name : List ℕ) (m : Measure) → AllByRecursion (IsTie instrs) ties
      → found name (map (λ t. (t.name, t.measure)) ties) ≡ Some m
      → IsAt F d used instrs (named 0 (map (λ t. (t.name, t.number)) ties) name) m
      (named (no_figure F.ring) (map (λ t. (t.name, t.figure)) ties) name)
  found_in instrs [] name m all e = absurd cc
  found_in instrs (t ∷ ties) name m all e =
      elim (name is t.name) as (λ b. cond b (Some t.measure) (found name (map (λ t. (t.name, t.measure)) ties)) ≡ Some m
      → IsAt F d used instrs (cond b t.number (named 0 (map (λ t. (t.name, t.number)) ties) name)) m
      (cond b t.figure (named (no_figure F.ring) (map (λ t. (t.name, t.figure)) ties) name))) [
        | true ↦ λ (e : Some t.measure ≡ Some m).
            let same : t.measure ≡ m = cc in subst (λ k. IsAt F d used instrs t.number k t.figure) same all.0
        | false ↦ λ e. found_in instrs ties name m all.1 e
      ] e

  -- a name that is found has its number, its measure and its object
  pub tied_found : (instrs : List Instr) (numbers : List (List ℕ × ℕ)) (made : List (List ℕ × Measure))
      (objects : List (List ℕ × Figure F.ring)) (name : List ℕ) (m : Measure) → AreTied instrs numbers made objects
      → found name made ≡ Some m → IsAt F d used instrs (named 0 numbers name) m (named (no_figure F.ring) objects name)
  tied_found instrs numbers made objects name m tied e =
      let there = found_in instrs tied.ties name m tied.each (ap (found name) (sym tied.measured) ∙ e) in
      subst (λ (es : List (List ℕ × ℕ)). IsAt F d used instrs (named 0 es name) m (named (no_figure F.ring) objects name))
      (sym tied.numbered)
      (subst (λ (es : List (List ℕ × Figure F.ring)). IsAt F d used instrs (named 0 (map (λ t. (t.name, t.number)) tied.ties) name)
      m (named (no_figure F.ring) es name)) (sym tied.meant) there)

  -- what lowering an object of this measure gives
  pub record Makes (s : Lowered) (fs : List (ℕ × Figure F.ring)) (ms : List (ℕ × Measure)) (r : Lowered × ℕ)
      (m : Measure) (x : Figure F.ring) : Type 0 where
    pub sound : IsSound F d used r.0 fs ms
    pub keeps : Keeps s r.0
    pub at : IsAt F d used r.0.instrs r.1 m x
    pub few : length r.0.instrs + 1 ≤ length s.instrs + (m.step + 4 * m.rows)

  -- two objects, and their join of less than the rank
  pub makes_join : (line : ℕ) (s : Lowered) (fs : List (ℕ × Figure F.ring)) (ms : List (ℕ × Measure))
      (one two : Lowered × ℕ) (a b m : Measure) (x y : Figure F.ring) → Makes s fs ms one a x
      → Makes one.0 fs ms two b y → a.step + b.step < d
      → record { step = a.step + b.step; rows = a.rows + b.rows; degree = a.degree + b.degree } ≡ m → m.rows ≤ 64
      → m.degree ≤ 1000
      → Makes s fs ms (pushed line None (instr.Join one.1 two.1) two.0) m (joined F.ring x y)
  makes_join line s fs ms one two a b m x y first second below same rows degree =
      let i = instr.Join one.1 two.1 in
      let instrs = two.0.instrs in
      let at_one = at_kept F d used one.0 two.0 one.1 a x second.keeps first.at in
      let step_is : a.step + b.step ≡ m.step = ap (λ (k : Measure). k.step) same in
      let rows_are : a.rows + b.rows ≡ m.rows = ap (λ (k : Measure). k.rows) same in
      let degree_is : a.degree + b.degree ≡ m.degree = ap (λ (k : Measure). k.degree) same in
      let inner = join_inner F d used instrs one.1 two.1 a b x y at_one second.at below (omega arith) (omega arith) in
      let measure = join_measures F d used instrs one.1 two.1 a b x y at_one second.at ∙ join_below d a b below ∙ same in
      record {
        sound = sound_push F d used line i two.0 fs ms second.sound inner tt;
        keeps =
            keeps_on s one.0 _ first.keeps
            (keeps_on one.0 two.0 _ second.keeps (keeps_pushed line None i two.0));
        at =
            at_last F d used instrs i m (joined F.ring x y) measure
            (join_figures F d used instrs one.1 two.1 a b x y at_one second.at)
            (subst (IsSized d) measure inner.sized);
        few =
            let f = first.few in let g = second.few in omega (arith, length-append instrs (i ∷ []));
      }

  -- two objects, and their meet of less than the rank
  pub makes_meet : d ≤ 4 → (line : ℕ) (s : Lowered) (fs : List (ℕ × Figure F.ring)) (ms : List (ℕ × Measure))
      (one two : Lowered × ℕ) (a b m : Measure) (x y : Figure F.ring) → Makes s fs ms one a x
      → Makes one.0 fs ms two b y → d < a.step + b.step
      → record { step = a.step + b.step - d; rows = a.rows + b.rows + 1; degree = a.degree + b.degree } ≡ m
      → m.rows ≤ 64 → m.degree ≤ 1000
      → Makes s fs ms (pushed line None (instr.Meet one.1 two.1) two.0) m (met F.ring d x y)
  makes_meet low line s fs ms one two a b m x y first second above same rows degree =
      let i = instr.Meet one.1 two.1 in
      let instrs = two.0.instrs in
      let at_one = at_kept F d used one.0 two.0 one.1 a x second.keeps first.at in
      let step_is : a.step + b.step - d ≡ m.step = ap (λ (k : Measure). k.step) same in
      let rows_are : a.rows + b.rows + 1 ≡ m.rows = ap (λ (k : Measure). k.rows) same in
      let degree_is : a.degree + b.degree ≡ m.degree = ap (λ (k : Measure). k.degree) same in
      let inner = meet_inner F d used instrs one.1 two.1 a b x y at_one second.at above (omega arith) (omega arith) in
      let measure = meet_measures F d used instrs one.1 two.1 a b x y at_one second.at ∙ same in
      record {
        sound = sound_push F d used line i two.0 fs ms second.sound inner tt;
        keeps =
            keeps_on s one.0 _ first.keeps
            (keeps_on one.0 two.0 _ second.keeps (keeps_pushed line None i two.0));
        at =
            at_last F d used instrs i m (met F.ring d x y) measure
            (meet_figures F d used instrs one.1 two.1 a b x y at_one second.at)
            (subst (IsSized d) measure inner.sized);
        few =
            let f = first.few in let g = second.few in omega (arith, length-append instrs (i ∷ []));
      }

  module _ (made : List (List ℕ × Measure)) (objects : List (List ℕ × Figure F.ring)) (fs : List (ℕ × Figure F.ring))
      (ms : List (ℕ × Measure)) (low : d ≤ 4) where
    pub makes_object : (line : ℕ) (o : Object) (s : Lowered) (m : Measure) → IsSound F d used s fs ms
        → AreTied s.instrs s.numbers made objects → measure_of d made o ≡ Some m → m.rows ≤ 64 → m.degree ≤ 1000
        → Makes s fs ms (object_lowered line o s) m (object_figure F d objects o)
    unfolding object_lowered measure_of object_figure
    makes_object line (Object.Named name) s m sound tied e rows degree =
        let at = tied_found s.instrs s.numbers made objects name m tied e in
        let least = at.sized.least in
        record { sound = sound; keeps = keeps_not s; at = at; few = omega arith }
    makes_object line (Object.Join a b) s m sound tied e rows degree =
        let parts = join_parts d made a b m e in
        let x = parts.0 in
        let y = parts.1.1.0 in
        let instrs = joined_is d x y m parts.1.1.1.1 in
        let rows_are : x.rows + y.rows ≡ m.rows = ap (λ (k : Measure). k.rows) instrs.1 in
        let degree_is : x.degree + y.degree ≡ m.degree = ap (λ (k : Measure). k.degree) instrs.1 in
        let one = object_lowered line a s in
        let first = makes_object line a s x sound tied parts.1.0 (omega arith) (omega arith) in
        let second = makes_object line b one.0 y first.sound (tied_kept s one.0 made objects first.keeps tied)
        parts.1.1.1.0 (omega arith) (omega arith) in
        makes_join line s fs ms one (object_lowered line b one.0) x y m (object_figure F d objects a)
        (object_figure F d objects b) first second instrs.0 instrs.1 rows degree
    makes_object line (Object.Meet a b) s m sound tied e rows degree =
        let parts = meet_parts d made a b m e in
        let x = parts.0 in
        let y = parts.1.1.0 in
        let instrs = met_is d x y m parts.1.1.1.1 in
        let rows_are : x.rows + y.rows + 1 ≡ m.rows = ap (λ (k : Measure). k.rows) instrs.1 in
        let degree_is : x.degree + y.degree ≡ m.degree = ap (λ (k : Measure). k.degree) instrs.1 in
        let one = object_lowered line a s in
        let first = makes_object line a s x sound tied parts.1.0 (omega arith) (omega arith) in
        let second = makes_object line b one.0 y first.sound (tied_kept s one.0 made objects first.keeps tied)
        parts.1.1.1.0 (omega arith) (omega arith) in
        makes_meet low line s fs ms one (object_lowered line b one.0) x y m (object_figure F d objects a)
        (object_figure F d objects b) first second instrs.0 instrs.1 rows degree
