-- Lowered definitions are those of the text.
use Rattle.std.proofs.Common.{◌≡◌, ℕ, ◌+◌, ◌*◌, ◌≤◌, true, List, [], ◌∷◌, ◌++◌, length, map, None, Some, ap, ◌∙◌, refl, arith}
use Rattle.std.specs.Prelude.{max}
use Rattle.construction_reader.specs.Words.{◌is◌}
use Rattle.construction_reader.specs.Said.{Object, Recipe}
use Rattle.step_types.specs.declared.measure.Measure.{Measure}
use Rattle.step_types.specs.Known.{found}
use Rattle.step_types.specs.Measures.{pascal as pascal_of}
use Rattle.step_types.specs.Forms.{measure_of, measure_at, pascal_measure, recipe_measure}
use Rattle.cayley_terms.specs.Figures.{Figure}
use Rattle.cayley_terms.specs.Meaning.{Frame, Scene, object_figure, recipe_figure, with_definition}
use Rattle.cayley_terms.specs.Named.{place_of}
use Rattle.cayley_terms.specs.Straight.{Lowered, object_lowered, objects_lowered, recipe_lowered, ended}
use Rattle.cayley_terms.proofs.Params.{HasParams, place_below}
use Rattle.cayley_terms.proofs.Measured.{some_then, join_parts, meet_parts, joined_is, met_is, mixed_is, at_step}
use Rattle.cayley_terms.proofs.Sound.{Keeps, keeps_on, join_below, IsAt, at_kept, IsSound, IsNext, join_inner, meet_inner, on_inner, join_measures, meet_measures, on_measures, join_figures, meet_figures, on_figures}
use Rattle.cayley_terms.proofs.Objects.{AreTied, tied_kept, makes_object}
use Rattle.cayley_terms.proofs.Chains.{all_at_kept, makes_objects}
use Rattle.cayley_terms.proofs.PascalRows.{Made, pascal_sizes, next_pascal}
use Rattle.cayley_terms.proofs.Rows.{Matches, match_ended}

-- five points and one more of these measures, and what Pascal's theorem makes of them
pub record HasSix (d : ℕ) (made : List (List ℕ × Measure)) (a b c p e q : Object) (m : Measure) : Type 0 where
  pub at_a : Measure
  pub at_b : Measure
  pub at_c : Measure
  pub at_p : Measure
  pub at_e : Measure
  pub at_q : Measure
  pub is_a : (measure_of d made a ≡ Some at_a) × (at_a.step ≡ 1)
  pub is_b : (measure_of d made b ≡ Some at_b) × (at_b.step ≡ 1)
  pub is_c : (measure_of d made c ≡ Some at_c) × (at_c.step ≡ 1)
  pub is_p : (measure_of d made p ≡ Some at_p) × (at_p.step ≡ 1)
  pub is_e : (measure_of d made e ≡ Some at_e) × (at_e.step ≡ 1)
  pub is_q : (measure_of d made q ≡ Some at_q) × (at_q.step ≡ 1)
  pub makes : pascal_of d at_a at_b at_c at_p at_e at_q ≡ Some m

has_six : (d : ℕ) (made : List (List ℕ × Measure)) (a b c p e q : Object) (m : Measure)
    → pascal_measure d made (a ∷ b ∷ c ∷ p ∷ e ∷ []) q ≡ Some m → HasSix d made a b c p e q m
unfolding pascal_measure
has_six d made a b c p e q m h =
    let a1 = some_then (measure_at d made 1 a) _ m h in
    let b1 = some_then (measure_at d made 1 b) _ m a1.1.1 in
    let c1 = some_then (measure_at d made 1 c) _ m b1.1.1 in
    let p1 = some_then (measure_at d made 1 p) _ m c1.1.1 in
    let e1 = some_then (measure_at d made 1 e) _ m p1.1.1 in
    let q1 = some_then (measure_at d made 1 q) _ m e1.1.1 in
    record {
      at_a = a1.0;
      at_b = b1.0;
      at_c = c1.0;
      at_p = p1.0;
      at_e = e1.0;
      at_q = q1.0;
      is_a = at_step d made 1 a a1.0 a1.1.0;
      is_b = at_step d made 1 b b1.0 b1.1.0;
      is_c = at_step d made 1 c c1.0 c1.1.0;
      is_p = at_step d made 1 p p1.0 p1.1.0;
      is_e = at_step d made 1 e e1.0 e1.1.0;
      is_q = at_step d made 1 q q1.0 q1.1.0;
      makes = q1.1.1;
    }

module _ (F : Frame) (d used : ℕ) (low : d ≤ 4) (line : ℕ) (s : Lowered) (made : List (List ℕ × Measure))
    (objects : List (List ℕ × Figure F.ring)) (fs : List (ℕ × Figure F.ring)) (ms : List (ℕ × Measure))
    (start : IsSound F d used s fs ms) (tied : AreTied F d used s.instrs s.numbers made objects) where
  -- what lowering two objects of these measures gives
  record MakesTwo (a b : Object) (one two : Lowered × ℕ) (p q : Measure) : Type 0 where
    pub sound : IsSound F d used two.0 fs ms
    pub keeps : Keeps s two.0
    pub first : IsAt F d used two.0.instrs one.1 p (object_figure F d objects a)
    pub second : IsAt F d used two.0.instrs two.1 q (object_figure F d objects b)
    pub few : length two.0.instrs ≤ length s.instrs + 4 * (p.rows + q.rows) + p.step + q.step

  makes_two : (a b : Object) (p q : Measure) → measure_of d made a ≡ Some p → measure_of d made b ≡ Some q
      → p.rows ≤ 64 → p.degree ≤ 1000 → q.rows ≤ 64 → q.degree ≤ 1000
      → MakesTwo a b (object_lowered line a s) (object_lowered line b (object_lowered line a s).0) p q
  makes_two a b p q is_p is_q p_rows p_degree q_rows q_degree =
      let one = object_lowered line a s in
      let two = object_lowered line b one.0 in
      let first = makes_object F d used made objects fs ms low line a s p start tied is_p p_rows p_degree in
      let second = makes_object F d used made objects fs ms low line b one.0 q first.sound
      (tied_kept F d used s one.0 made objects first.keeps tied) is_q q_rows q_degree in
      record {
        sound = second.sound;
        keeps = keeps_on s one.0 two.0 first.keeps second.keeps;
        first = at_kept F d used one.0 two.0 one.1 p (object_figure F d objects a) second.keeps first.at;
        second = second.at;
        few = let f = first.few in let g = second.few in omega arith;
      }

  abbrev made_at : ℕ → Measure → Object → Made F d used line fs ms
  made_at n m o = record { number = n; measure = m; figure = object_figure F d objects o }

  -- a point by Pascal's theorem
  pascal_next : (params : List (List ℕ)) (five : List Object) (q : Object) (m : Measure)
      → pascal_measure d made five q ≡ Some m → m.rows ≤ 64 → m.degree ≤ 1000
      → (let r = recipe_lowered params line (Recipe.Pascal five q) s in
      IsNext F d used s fs ms 519 r.0 r.1 m (recipe_figure F d params objects (Recipe.Pascal five q)))
  unfolding pascal_measure recipe_lowered objects_lowered
  pascal_next params (a ∷ b ∷ c ∷ p ∷ e ∷ []) q m h rows degree =
      let six = has_six d made a b c p e q m h in
      let sizes = pascal_sizes d six.at_a six.at_b six.at_c six.at_p six.at_e six.at_q m six.makes in
      let few_rows = sizes.0 in
      let low_degree = sizes.1 in
      let os = a ∷ b ∷ c ∷ p ∷ e ∷ [] in
      let all = six.at_a ∷ six.at_b ∷ six.at_c ∷ six.at_p ∷ six.at_e ∷ [] in
      let one = objects_lowered line os s in
      let two = object_lowered line q one.0 in
      let a1 = object_lowered line a s in
      let b1 = object_lowered line b a1.0 in
      let c1 = object_lowered line c b1.0 in
      let p1 = object_lowered line p c1.0 in
      let e1 = object_lowered line e p1.0 in
      let first = makes_objects F d used made objects fs ms low line os s all start tied
      (six.is_a.0, (six.is_b.0, (six.is_c.0, (six.is_p.0, (six.is_e.0, tt))))) (omega arith) (omega arith) in
      let second = makes_object F d used made objects fs ms low line q one.0 six.at_q first.sound
      (tied_kept F d used s one.0 made objects first.keeps tied) six.is_q.0 (omega arith) (omega arith) in
      let ats = all_at_kept F d used one.0 two.0 one.1 all (map (object_figure F d objects) os) second.keeps first.each in
      let next = next_pascal F d used line fs ms two.0 (made_at a1.1 six.at_a a) (made_at b1.1 six.at_b b)
      (made_at c1.1 six.at_c c) (made_at p1.1 six.at_p p) (made_at e1.1 six.at_e e) (made_at two.1 six.at_q q) m
      second.sound ats.0 ats.1.0 ats.1.1.0 ats.1.1.1.0 ats.1.1.1.1.0 second.at six.makes rows degree in
      record {
        sound = next.sound;
        keeps = keeps_on s two.0 _ (keeps_on s one.0 two.0 first.keeps second.keeps) next.keeps;
        few =
            let f = first.few in let g = second.few in let k = next.few in let n1 = six.is_a.1 in
            let n2 = six.is_b.1 in let n3 = six.is_c.1 in let n4 = six.is_p.1 in let n5 = six.is_e.1 in
            let n6 = six.is_q.1 in omega arith;
        inner = next.inner;
        given = next.given;
        measure = next.measure;
        figure = next.figure;
      }
  pascal_next params five q m h rows degree = absurd cc

  recipe_next : (params : List (List ℕ)) (recipe : Recipe) (m : Measure) → length params ≡ used → used ≤ 64
      → HasParams params recipe → recipe_measure d made recipe ≡ Some m → m.rows ≤ 64 → m.degree ≤ 1000
      → (let r = recipe_lowered params line recipe s in
      IsNext F d used s fs ms 519 r.0 r.1 m (recipe_figure F d params objects recipe))
  unfolding recipe_lowered recipe_measure object_figure
  recipe_next params (Recipe.Join a b) m many few_params has e rows degree =
      let parts = join_parts d made a b m e in
      let p = parts.0 in
      let q = parts.1.1.0 in
      let are = joined_is d p q m parts.1.1.1.1 in
      let below = are.0 in
      let rows_are : p.rows + q.rows ≡ m.rows = ap (λ (k : Measure). k.rows) are.1 in
      let degree_is : p.degree + q.degree ≡ m.degree = ap (λ (k : Measure). k.degree) are.1 in
      let one = object_lowered line a s in
      let two = object_lowered line b one.0 in
      let x = object_figure F d objects a in
      let y = object_figure F d objects b in
      let made_two = makes_two a b p q parts.1.0 parts.1.1.1.0 (omega arith) (omega arith) (omega arith) (omega arith) in
      let at_one = made_two.first in
      let at_two = made_two.second in
      let instrs = two.0.instrs in
      record {
        sound = made_two.sound;
        keeps = made_two.keeps;
        few = let f = made_two.few in omega arith;
        inner = join_inner F d used instrs one.1 two.1 p q x y at_one at_two below (omega arith) (omega arith);
        given = tt;
        measure = join_measures F d used instrs one.1 two.1 p q x y at_one at_two ∙ join_below d p q below ∙ are.1;
        figure = join_figures F d used instrs one.1 two.1 p q x y at_one at_two;
      }
  recipe_next params (Recipe.Meet a b) m many few_params has e rows degree =
      let parts = meet_parts d made a b m e in
      let p = parts.0 in
      let q = parts.1.1.0 in
      let are = met_is d p q m parts.1.1.1.1 in
      let rows_are : p.rows + q.rows + 1 ≡ m.rows = ap (λ (k : Measure). k.rows) are.1 in
      let degree_is : p.degree + q.degree ≡ m.degree = ap (λ (k : Measure). k.degree) are.1 in
      let one = object_lowered line a s in
      let two = object_lowered line b one.0 in
      let x = object_figure F d objects a in
      let y = object_figure F d objects b in
      let made_two = makes_two a b p q parts.1.0 parts.1.1.1.0 (omega arith) (omega arith) (omega arith) (omega arith) in
      let at_one = made_two.first in
      let at_two = made_two.second in
      let instrs = two.0.instrs in
      record {
        sound = made_two.sound;
        keeps = made_two.keeps;
        few =
            let f = made_two.few in let g = at_one.sized.below in let h = at_two.sized.below in omega arith;
        inner = meet_inner F d used instrs one.1 two.1 p q x y at_one at_two are.0 (omega arith) (omega arith);
        given = tt;
        measure = meet_measures F d used instrs one.1 two.1 p q x y at_one at_two ∙ are.1;
        figure = meet_figures F d used instrs one.1 two.1 p q x y at_one at_two;
      }
  recipe_next params (Recipe.On a b u v) m many few_params has e rows degree =
      let first = some_then (measure_of d made a) _ m e in
      let second = some_then (measure_of d made b) _ m first.1.1 in
      let p = first.0 in
      let q = second.0 in
      let are = mixed_is p q m second.1.1 in
      let p_step = are.0 in
      let q_step = are.1 in
      let rows_are : max p.rows q.rows ≡ m.rows = ap (λ (k : Measure). k.rows) are.2 in
      let degree_is : max p.degree q.degree + 1 ≡ m.degree = ap (λ (k : Measure). k.degree) are.2 in
      let one = object_lowered line a s in
      let two = object_lowered line b one.0 in
      let x = object_figure F d objects a in
      let y = object_figure F d objects b in
      let made_two = makes_two a b p q first.1.0 second.1.0 (omega arith) (omega arith) (omega arith) (omega arith) in
      let at_one = made_two.first in
      let at_two = made_two.second in
      let instrs = two.0.instrs in
      let u_place = place_of u params in
      let v_place = place_of v params in
      let u_below = place_below params u has.0 in
      let v_below = place_below params v has.1 in
      record {
        sound = made_two.sound;
        keeps = made_two.keeps;
        few = let f = made_two.few in omega arith;
        inner =
            on_inner F d used instrs one.1 two.1 p q x y at_one at_two u_place v_place p_step q_step (omega arith)
            (omega arith) (omega arith) (omega arith);
        given = (omega arith, omega arith);
        measure = on_measures F d used instrs one.1 two.1 p q x y at_one at_two u_place v_place ∙ are.2;
        figure = on_figures F d used instrs one.1 two.1 p q x y at_one at_two u_place v_place;
      }
  recipe_next params (Recipe.Pascal five q) m many few_params has e rows degree =
      pascal_next params five q m e rows degree

-- one definition more
pub match_definition : (F : Frame) (d : ℕ) → d ≤ 4 → (params : List (List ℕ)) → length params ≤ 64 → (line : ℕ)
    (name : List ℕ) (recipe : Recipe) (s : Lowered) (scene : Scene F) (made : List (List ℕ × Measure))
    (names : List (List ℕ)) (m : Measure) → Matches F d (length params) s scene made names → HasParams params recipe
    → recipe_measure d made recipe ≡ Some m → m.rows ≤ 64 → m.degree ≤ 1000 → found name made ≡ None
    → name is name ≡ true
    → Matches F d (length params) (ended line name (recipe_lowered params line recipe s))
    (with_definition F name (recipe_figure F d params scene.objects recipe) scene) (made ++ (name, m) ∷ [])
    (names ++ name ∷ [])
match_definition F d low params few_params line name recipe s scene made names m matches has e rows degree none same =
    let r = recipe_lowered params line recipe s in
    match_ended F d (length params) line name s scene made names r.0 r.1 m
    (recipe_figure F d params scene.objects recipe) matches
    (recipe_next F d (length params) low line s made scene.objects _ _ matches.sound matches.tied params recipe m refl
    few_params has e rows degree)
    none same
