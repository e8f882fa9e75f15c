-- Lowered points by Pascal's theorem are those of the text.
use Rattle.std.proofs.Common.{◌≡◌, ℕ, ◌+◌, ◌≤◌, List, [], ◌∷◌, length, None, Some, sym, ap, ◌∙◌, subst, arith, length-append}
use Rattle.step_types.specs.declared.measure.Measure.{Measure}
use Rattle.step_types.specs.Measures.{crossing}
use Rattle.step_types.specs.Measures.{joined as join_of, met as meet_of, pascal as pascal_of}
use Rattle.step_types.specs.Good.{IsSized}
use Rattle.cayley_terms.specs.declared.instr.Instr.TheVariants as instr
use Rattle.cayley_terms.specs.Figures.{Figure, joined, met, pascal}
use Rattle.cayley_terms.specs.Meaning.{Frame}
use Rattle.cayley_terms.specs.Straight.{Lowered, pushed, pascal_lowered}
use Rattle.cayley_terms.specs.Crossings.{cut_lowered, crossing_lowered}
use Rattle.cayley_terms.proofs.Measured.{some_same, joined_is, met_is, crossing_is, pascal_is}
use Rattle.cayley_terms.proofs.Sound.{Keeps, keeps_on, keeps_pushed, join_below, IsAt, at_kept, IsSound, sound_push, at_last, IsNext, join_inner, meet_inner, join_measures, meet_measures, join_figures, meet_figures}

-- ---- rows and degrees

join_sizes : (rank : ℕ) (a b m : Measure) → join_of rank a b ≡ Some m
    → (a.rows + b.rows ≡ m.rows) × (a.degree + b.degree ≡ m.degree)
join_sizes rank a b m e =
    let same = (joined_is rank a b m e).1 in
    (ap (λ (k : Measure). k.rows) same, ap (λ (k : Measure). k.degree) same)

meet_sizes : (rank : ℕ) (a b m : Measure) → meet_of rank a b ≡ Some m
    → (a.rows + b.rows + 1 ≡ m.rows) × (a.degree + b.degree ≡ m.degree)
meet_sizes rank a b m e =
    let same = (met_is rank a b m e).1 in
    (ap (λ (k : Measure). k.rows) same, ap (λ (k : Measure). k.degree) same)

crossing_sizes : (rank : ℕ) (a b c d m : Measure) → crossing rank a b c d ≡ Some m
    → (a.rows + b.rows + c.rows + d.rows ≤ m.rows) × (a.degree + b.degree + c.degree + d.degree ≤ m.degree)
crossing_sizes rank a b c d m e =
    let parts = crossing_is rank a b c d m e in
    let one = join_sizes rank a b parts.first parts.joined_first in
    let two = join_sizes rank c d parts.second parts.joined_second in
    let last = meet_sizes rank parts.first parts.second m parts.met_there in (
      let f = one.0 in let g = two.0 in let h = last.0 in omega arith,
      let f = one.1 in let g = two.1 in let h = last.1 in omega arith,
    )

-- those of the six points are at most those of the point
pub pascal_sizes : (rank : ℕ) (a b c d e q m : Measure) → pascal_of rank a b c d e q ≡ Some m
    → (a.rows + b.rows + c.rows + d.rows + e.rows + q.rows ≤ m.rows)
    × (a.degree + b.degree + c.degree + d.degree + e.degree + q.degree ≤ m.degree)
pascal_sizes rank a b c d e q m h =
    let parts = pascal_is rank a b c d e q m h in
    let y = crossing_sizes rank a q c d parts.y parts.is_y in
    let z = crossing_sizes rank b c parts.x parts.y parts.z parts.is_z in
    let last = crossing_sizes rank a q e parts.z m parts.last in (
      let f = y.0 in let g = z.0 in let k = last.0 in omega arith,
      let f = y.1 in let g = z.1 in let k = last.1 in omega arith,
    )

module _ (F : Frame) (rank used line : ℕ) (fs : List (ℕ × Figure F.ring)) (ms : List (ℕ × Measure)) where
  -- an object with its number and its measure
  pub record Made : Type 0 where
    pub number : ℕ
    pub measure : Measure
    pub figure : Figure F.ring

  -- the instruction of its number makes it
  abbrev pub Has : Lowered → Made → Type 0
  Has s x = IsAt F rank used s.instrs x.number x.measure x.figure

  has_kept : (s t : Lowered) (x : Made) → Keeps s t → Has s x → Has t x
  has_kept s t x keeps has = at_kept F rank used s t x.number x.measure x.figure keeps has

  -- so many instructions were added, and there is this object
  pub record Adds (s : Lowered) (many : ℕ) (t : Lowered) (x : Made) : Type 0 where
    pub sound : IsSound F rank used t fs ms
    pub keeps : Keeps s t
    pub has : Has t x
    pub count : length t.instrs ≡ length s.instrs + many

  abbrev join_made : ℕ → Measure → Made → Made → Made
  join_made n m x y = record { number = n; measure = m; figure = joined F.ring x.figure y.figure }

  abbrev meet_made : ℕ → Measure → Figure F.ring → Figure F.ring → Made
  meet_made n m x y = record { number = n; measure = m; figure = met F.ring rank x y }

  add_join : (s : Lowered) (x y : Made) (m : Measure) → IsSound F rank used s fs ms → Has s x → Has s y
      → join_of rank x.measure y.measure ≡ Some m → m.rows ≤ 64 → m.degree ≤ 1000
      → Adds s 1 (pushed line None (instr.Join x.number y.number) s).0 (join_made (length s.instrs) m x y)
  add_join s x y m sound first second e rows degree =
      let i = instr.Join x.number y.number in
      let are = joined_is rank x.measure y.measure m e in
      let sizes = join_sizes rank x.measure y.measure m e in
      let rows_are = sizes.0 in
      let degree_is = sizes.1 in
      let inner = join_inner F rank used s.instrs x.number y.number x.measure y.measure x.figure y.figure first second are.0
      (omega arith) (omega arith) in
      let measure = join_measures F rank used s.instrs x.number y.number x.measure y.measure x.figure y.figure first second
      ∙ join_below rank x.measure y.measure are.0 ∙ are.1 in
      record {
        sound = sound_push F rank used line i s fs ms sound inner tt;
        keeps = keeps_pushed line None i s;
        has =
            at_last F rank used s.instrs i m (joined F.ring x.figure y.figure) measure
            (join_figures F rank used s.instrs x.number y.number x.measure y.measure x.figure y.figure first second)
            (subst (IsSized rank) measure inner.sized);
        count = omega (arith, length-append s.instrs (i ∷ []));
      }

  add_meet : (s : Lowered) (x y : Made) (m : Measure) → IsSound F rank used s fs ms → Has s x → Has s y
      → meet_of rank x.measure y.measure ≡ Some m → m.rows ≤ 64 → m.degree ≤ 1000
      → Adds s 1 (pushed line None (instr.Meet x.number y.number) s).0 (meet_made (length s.instrs) m x.figure y.figure)
  add_meet s x y m sound first second e rows degree =
      let i = instr.Meet x.number y.number in
      let are = met_is rank x.measure y.measure m e in
      let sizes = meet_sizes rank x.measure y.measure m e in
      let rows_are = sizes.0 in
      let degree_is = sizes.1 in
      let inner = meet_inner F rank used s.instrs x.number y.number x.measure y.measure x.figure y.figure first second are.0
      (omega arith) (omega arith) in
      let measure = meet_measures F rank used s.instrs x.number y.number x.measure y.measure x.figure y.figure first second
      ∙ are.1 in
      record {
        sound = sound_push F rank used line i s fs ms sound inner tt;
        keeps = keeps_pushed line None i s;
        has =
            at_last F rank used s.instrs i m (met F.ring rank x.figure y.figure) measure
            (meet_figures F rank used s.instrs x.number y.number x.measure y.measure x.figure y.figure first second)
            (subst (IsSized rank) measure inner.sized);
        count = omega (arith, length-append s.instrs (i ∷ []));
      }

  add_cut : (s : Lowered) (l x y : Made) (k m : Measure) → IsSound F rank used s fs ms → Has s l → Has s x → Has s y
      → join_of rank x.measure y.measure ≡ Some k → meet_of rank l.measure k ≡ Some m → m.rows ≤ 64 → m.degree ≤ 1000
      → (let r = cut_lowered line l.number x.number y.number s in
      Adds s 2 r.0 (meet_made r.1 m l.figure (joined F.ring x.figure y.figure)))
  add_cut s l x y k m sound has_l has_x has_y e f rows degree =
      let sizes = meet_sizes rank l.measure k m f in
      let rows_are = sizes.0 in
      let degree_is = sizes.1 in
      let t = (pushed line None (instr.Join x.number y.number) s).0 in
      let other = join_made (length s.instrs) k x y in
      let first = add_join s x y k sound has_x has_y e (omega arith) (omega arith) in
      let second = add_meet t l other m first.sound (has_kept s t l first.keeps has_l) first.has f rows degree in
      record {
        sound = second.sound;
        keeps = keeps_on s t _ first.keeps second.keeps;
        has = second.has;
        count = let p = first.count in let q = second.count in omega arith;
      }

  add_crossing : (s : Lowered) (a b c d : Made) (m : Measure) → IsSound F rank used s fs ms → Has s a → Has s b → Has s c
      → Has s d → crossing rank a.measure b.measure c.measure d.measure ≡ Some m → m.rows ≤ 64 → m.degree ≤ 1000
      → (let r = crossing_lowered line a.number b.number c.number d.number s in
      Adds s 3 r.0 (meet_made r.1 m (joined F.ring a.figure b.figure) (joined F.ring c.figure d.figure)))
  add_crossing s a b c d m sound has_a has_b has_c has_d e rows degree =
      let parts = crossing_is rank a.measure b.measure c.measure d.measure m e in
      let sizes = meet_sizes rank parts.first parts.second m parts.met_there in
      let rows_are = sizes.0 in
      let degree_is = sizes.1 in
      let t = (pushed line None (instr.Join a.number b.number) s).0 in
      let l = join_made (length s.instrs) parts.first a b in
      let first = add_join s a b parts.first sound has_a has_b parts.joined_first (omega arith) (omega arith) in
      let rest = add_cut t l c d parts.second m first.sound first.has (has_kept s t c first.keeps has_c)
      (has_kept s t d first.keeps has_d) parts.joined_second parts.met_there rows degree in
      record {
        sound = rest.sound;
        keeps = keeps_on s t _ first.keeps rest.keeps;
        has = rest.has;
        count = let p = first.count in let q = rest.count in omega arith;
      }

  pub next_pascal : (s : Lowered) (a b c d e q : Made) (m : Measure) → IsSound F rank used s fs ms → Has s a → Has s b
      → Has s c → Has s d → Has s e → Has s q
      → pascal_of rank a.measure b.measure c.measure d.measure e.measure q.measure ≡ Some m → m.rows ≤ 64
      → m.degree ≤ 1000
      → (let r = pascal_lowered line (a.number ∷ b.number ∷ c.number ∷ d.number ∷ e.number ∷ []) q.number s in
      IsNext F rank used s fs ms 10 r.0 r.1 m (pascal F.ring rank a.figure b.figure c.figure d.figure e.figure q.figure))
  unfolding pascal_lowered
  next_pascal s a b c d e q m sound has_a has_b has_c has_d has_e has_q h rows degree =
      let parts = pascal_is rank a.measure b.measure c.measure d.measure e.measure q.measure m h in
      let at_y = crossing_is rank a.measure q.measure c.measure d.measure parts.y parts.is_y in
      let last = crossing_is rank a.measure q.measure e.measure parts.z m parts.last in
      let same : last.first ≡ at_y.first = some_same _ _ (sym last.joined_first ∙ at_y.joined_first) in
      let met_there : meet_of rank at_y.first last.second ≡ Some m =
      ap (λ (k : Measure). meet_of rank k last.second) (sym same) ∙ last.met_there in
      let size_m = meet_sizes rank at_y.first last.second m met_there in
      let size_p = join_sizes rank e.measure parts.z last.second last.joined_second in
      let size_z = crossing_sizes rank b.measure c.measure parts.x parts.y parts.z parts.is_z in
      let rows_m = size_m.0 in
      let rows_p = size_p.0 in
      let rows_z = size_z.0 in
      let degree_m = size_m.1 in
      let degree_p = size_p.1 in
      let degree_z = size_z.1 in
      let s1 = (pushed line None (instr.Join a.number q.number) s).0 in
      let l = join_made (length s.instrs) at_y.first a q in
      let to_l = add_join s a q at_y.first sound has_a has_q at_y.joined_first (omega arith) (omega arith) in
      let r2 = crossing_lowered line a.number b.number d.number e.number s1 in
      let x = meet_made r2.1 parts.x (joined F.ring a.figure b.figure) (joined F.ring d.figure e.figure) in
      let to_x = add_crossing s1 a b d e parts.x to_l.sound (has_kept s s1 a to_l.keeps has_a)
      (has_kept s s1 b to_l.keeps has_b) (has_kept s s1 d to_l.keeps has_d) (has_kept s s1 e to_l.keeps has_e) parts.is_x
      (omega arith) (omega arith) in
      let s2 = r2.0 in
      let keeps2 = keeps_on s s1 s2 to_l.keeps to_x.keeps in
      let l2 = has_kept s1 s2 l to_x.keeps to_l.has in
      let r3 = cut_lowered line l.number c.number d.number s2 in
      let y = meet_made r3.1 parts.y l.figure (joined F.ring c.figure d.figure) in
      let to_y = add_cut s2 l c d at_y.second parts.y to_x.sound l2 (has_kept s s2 c keeps2 has_c)
      (has_kept s s2 d keeps2 has_d) at_y.joined_second at_y.met_there (omega arith) (omega arith) in
      let s3 = r3.0 in
      let keeps3 = keeps_on s s2 s3 keeps2 to_y.keeps in
      let l3 = has_kept s2 s3 l to_y.keeps l2 in
      let r4 = crossing_lowered line b.number c.number x.number y.number s3 in
      let z = meet_made r4.1 parts.z (joined F.ring b.figure c.figure) (joined F.ring x.figure y.figure) in
      let to_z = add_crossing s3 b c x y parts.z to_y.sound (has_kept s s3 b keeps3 has_b) (has_kept s s3 c keeps3 has_c)
      (has_kept s2 s3 x to_y.keeps to_x.has) to_y.has parts.is_z (omega arith) (omega arith) in
      let s4 = r4.0 in
      let keeps4 = keeps_on s s3 s4 keeps3 to_z.keeps in
      let l4 = has_kept s3 s4 l to_z.keeps l3 in
      let s5 = (pushed line None (instr.Join e.number z.number) s4).0 in
      let p = join_made (length s4.instrs) last.second e z in
      let to_p = add_join s4 e z last.second to_z.sound (has_kept s s4 e keeps4 has_e) to_z.has last.joined_second
      (omega arith) (omega arith) in
      let l5 = has_kept s4 s5 l to_p.keeps l4 in
      let are = met_is rank at_y.first last.second m met_there in
      record {
        sound = to_p.sound;
        keeps = keeps_on s s4 s5 keeps4 to_p.keeps;
        few =
            let n1 = to_l.count in let n2 = to_x.count in let n3 = to_y.count in let n4 = to_z.count in
            let n5 = to_p.count in omega arith;
        inner =
            meet_inner F rank used s5.instrs l.number p.number l.measure p.measure l.figure p.figure l5 to_p.has are.0
            (omega arith) (omega arith);
        given = tt;
        measure =
            meet_measures F rank used s5.instrs l.number p.number l.measure p.measure l.figure p.figure l5 to_p.has
            ∙ are.1;
        figure = meet_figures F rank used s5.instrs l.number p.number l.measure p.measure l.figure p.figure l5 to_p.has;
      }
