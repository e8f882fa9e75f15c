-- What the functions that lower Pascal's joins and meets need room for, and that they do what is lowered.
use Rattle.std.proofs.Common.{◌≡◌, ℕ, List, [], ◌∷◌, length, get_or, None, Result, Ok, Err, IfOk, sym, ap, ◌∙◌, subst, refl, arith}
use Rattle.cay_base.specs.declared.failed.NoMemory.{NoMemory}
use Rattle.construction_reader.specs.Said.{Object, Recipe}
use Rattle.construction_reader.specs.Grammar.{IsRecipe}
use Rattle.cayley_terms.specs.declared.instr.Instr.{Instr}
use Rattle.cayley_terms.specs.declared.instr.Instr.TheVariants as instr
use Rattle.cayley_terms.specs.Straight.{Lowered, Step, ◌>>=◌, answer, pushed, object_lowered, objects_lowered, pascal_lowered, recipe_lowered}
use Rattle.cayley_terms.specs.Crossings.{cut_lowered, crossing_lowered}
use Rattle.cayley_terms.specs.Room.{Fits}
use Rattle.cayley_terms.proofs.Growth.{Grows, grows_on, grows_pushed, grows_object, grows_pascal, fits_before}

-- Pascal's joins and meets, by crossings
abbrev crossings : ℕ → (a b c d e q : ℕ) → Step Instr
crossings line a b c d e q = do
  l ← pushed line None (instr.Join a q)
  x ← crossing_lowered line a b d e
  y ← cut_lowered line l c d
  z ← crossing_lowered line b c x y
  p ← pushed line None (instr.Join e z)
  answer (instr.Meet l p)

pascal-is : (line : ℕ) (five : List ℕ) (q : ℕ) (s : Lowered) → length five ≡ 5 → pascal_lowered line five q s
    ≡ crossings line (get_or five 0 0) (get_or five 1 0) (get_or five 2 0) (get_or five 3 0) (get_or five 4 0) q s
unfolding pascal_lowered
pascal-is line (a ∷ b ∷ c ∷ d ∷ e ∷ []) q s five = refl
pascal-is line five q s count = absurd (omega arith)

grows_cut : (line l a b : ℕ) (s : Lowered) → Grows s (cut_lowered line l a b s).0
grows_cut line l a b s =
    let one = pushed line None (instr.Join a b) s in
    grows_on s one.0 _ (grows_pushed line None (instr.Join a b) s) (grows_pushed line None (instr.Meet l one.1) one.0)

grows_crossing : (line a b c d : ℕ) (s : Lowered) → Grows s (crossing_lowered line a b c d s).0
grows_crossing line a b c d s =
    let one = pushed line None (instr.Join a b) s in
    grows_on s one.0 _ (grows_pushed line None (instr.Join a b) s) (grows_cut line one.1 c d one.0)

-- ---- each step has room, and the last gives the whole

module _ (line : ℕ) (five : List ℕ) (q : ℕ) (s : Lowered) (count : length five ≡ 5) where
  -- all joins and meets
  abbrev whole : Lowered × Instr
  whole = pascal_lowered line five q s

  -- the five points
  abbrev a : ℕ
  a = get_or five 0 0

  abbrev b : ℕ
  b = get_or five 1 0

  abbrev c : ℕ
  c = get_or five 2 0

  abbrev d : ℕ
  d = get_or five 3 0

  abbrev e : ℕ
  e = get_or five 4 0

  -- each step, by the answers of those before it
  abbrev by_l : Lowered × ℕ
  by_l = pushed line None (instr.Join a q) s

  abbrev by_x : Lowered × ℕ → Lowered × ℕ
  by_x l = crossing_lowered line a b d e l.0

  abbrev by_y : Lowered × ℕ → Lowered × ℕ → Lowered × ℕ
  by_y l x = cut_lowered line l.1 c d x.0

  abbrev by_z : Lowered × ℕ → Lowered × ℕ → Lowered × ℕ
  by_z x y = crossing_lowered line b c x.1 y.1 y.0

  abbrev by_p : Lowered × ℕ → Lowered × ℕ
  by_p z = pushed line None (instr.Join e z.1) z.0

  -- what is left behind z, behind y and behind x
  abbrev from_z : Lowered × ℕ → Lowered × ℕ → Lowered × Instr
  from_z l z = ((by_p z).0, instr.Meet l.1 (by_p z).1)

  abbrev from_y : Lowered × ℕ → Lowered × ℕ → Lowered × ℕ → Lowered × Instr
  from_y l x y = from_z l (by_z x y)

  abbrev from_x : Lowered × ℕ → Lowered × ℕ → Lowered × Instr
  from_x l x = from_y l x (by_y l x)

  grows_z : (l z : Lowered × ℕ) → Grows z.0 (from_z l z).0
  grows_z l z = grows_pushed line None (instr.Join e z.1) z.0

  grows_y : (l x y : Lowered × ℕ) → Grows y.0 (from_y l x y).0
  grows_y l x y = grows_on y.0 (by_z x y).0 _ (grows_crossing line b c x.1 y.1 y.0) (grows_z l (by_z x y))

  grows_x : (l x : Lowered × ℕ) → Grows x.0 (from_x l x).0
  grows_x l x = grows_on x.0 (by_y l x).0 _ (grows_cut line l.1 c d x.0) (grows_y l x (by_y l x))

  grows_l : (l : Lowered × ℕ) → Grows l.0 (from_x l (by_x l)).0
  grows_l l = grows_on l.0 (by_x l).0 _ (grows_crossing line a b d e l.0) (grows_x l (by_x l))

  from_head : whole ≡ from_x by_l (by_x by_l)
  from_head = pascal-is line five q s count

  pub room_l : Fits whole.0 → Fits by_l.0
  room_l room = fits_before by_l.0 _ (grows_l by_l) (subst (λ (r : Lowered × Instr). Fits r.0) from_head room)

  module _ (l : Lowered × ℕ) (is_l : l ≡ by_l) where
    whole_l : whole ≡ from_x l (by_x l)
    whole_l = from_head ∙ ap (λ l. from_x l (by_x l)) (sym is_l)

    pub room_x : Fits whole.0 → Fits (by_x l).0
    room_x room = fits_before (by_x l).0 _ (grows_x l (by_x l)) (subst (λ (r : Lowered × Instr). Fits r.0) whole_l room)

    module _ (x : Lowered × ℕ) (is_x : x ≡ by_x l) where
      whole_x : whole ≡ from_x l x
      whole_x = whole_l ∙ ap (from_x l) (sym is_x)

      pub room_y : Fits whole.0 → Fits (by_y l x).0
      room_y room =
          fits_before (by_y l x).0 _ (grows_y l x (by_y l x)) (subst (λ (r : Lowered × Instr). Fits r.0) whole_x room)

      module _ (y : Lowered × ℕ) (is_y : y ≡ by_y l x) where
        whole_y : whole ≡ from_y l x y
        whole_y = whole_x ∙ ap (from_y l x) (sym is_y)

        pub room_z : Fits whole.0 → Fits (by_z x y).0
        room_z room =
            fits_before (by_z x y).0 _ (grows_z l (by_z x y)) (subst (λ (r : Lowered × Instr). Fits r.0) whole_y room)

        module _ (z : Lowered × ℕ) (is_z : z ≡ by_z x y) where
          whole_z : whole ≡ from_z l z
          whole_z = whole_y ∙ ap (from_z l) (sym is_z)

          pub room_p : Fits whole.0 → Fits (by_p z).0
          room_p room = subst (λ (r : Lowered × Instr). Fits r.0) whole_z room

          pub crossings_done : (p : Lowered × ℕ) → p ≡ by_p z → (p.0, instr.Meet l.1 p.1) ≡ whole
          crossings_done p is_p = ap (λ (p : Lowered × ℕ). (p.0, instr.Meet l.1 p.1)) is_p ∙ sym whole_z

-- ---- behind six objects

-- each object has its number

pub as_many : (line : ℕ) (os : List Object) (s : Lowered) → length (objects_lowered line os s).1 ≡ length os
unfolding objects_lowered
as_many line [] s = refl
as_many line (o ∷ os) s = let rest = as_many line os (object_lowered line o s).0 in omega arith

module _ (params : List (List ℕ)) (line : ℕ) (r : Recipe) (os : List Object) (o : Object) (s : Lowered)
    (is : r ≡ Recipe.Pascal os o) where
  pascal_recipe-is : recipe_lowered params line r s
      ≡ (let ns = objects_lowered line os s in let n = object_lowered line o ns.0 in pascal_lowered line ns.1 n.1 n.0)
  unfolding recipe_lowered
  pascal_recipe-is = ap (λ p. recipe_lowered params line p s) is

  pub five_room : Fits (recipe_lowered params line r s).0 → Fits (objects_lowered line os s).0
  five_room room =
      let ns = objects_lowered line os s in
      let n = object_lowered line o ns.0 in
      fits_before ns.0 _ (grows_on ns.0 n.0 _ (grows_object line o ns.0) (grows_pascal line ns.1 n.1 n.0))
      (subst (λ (x : Lowered × Instr). Fits x.0) pascal_recipe-is room)

  module _ (ns : Lowered × List ℕ) (is_ns : ns ≡ objects_lowered line os s) where
    behind_five : recipe_lowered params line r s
        ≡ (let n = object_lowered line o ns.0 in pascal_lowered line ns.1 n.1 n.0)
    behind_five =
        pascal_recipe-is
        ∙ ap (λ (ns : Lowered × List ℕ). let n = object_lowered line o ns.0 in pascal_lowered line ns.1 n.1 n.0) (sym is_ns)

    pub sixth_room : Fits (recipe_lowered params line r s).0 → Fits (object_lowered line o ns.0).0
    sixth_room room =
        let n = object_lowered line o ns.0 in
        fits_before n.0 _ (grows_pascal line ns.1 n.1 n.0)
        (subst (λ (x : Lowered × Instr). Fits x.0) behind_five room)

    pub behind_six : (n : Lowered × ℕ) → n ≡ object_lowered line o ns.0
        → recipe_lowered params line r s ≡ pascal_lowered line ns.1 n.1 n.0
    behind_six n is_n = behind_five ∙ ap (λ (n : Lowered × ℕ). pascal_lowered line ns.1 n.1 n.0) (sym is_n)

    pub five_of : IsRecipe r → length ns.1 ≡ 5
    five_of formed =
        ap (λ (ns : Lowered × List ℕ). length ns.1) is_ns ∙ as_many line os s ∙ (subst IsRecipe is formed).0.0

-- the answer is that of the whole
pub pascal_done : (result : Result Instr NoMemory) (after : Lowered) (last whole : Lowered × Instr)
    → IfOk result (λ i. (after, i) ≡ last) → last ≡ whole → IfOk result (λ i. (after, i) ≡ whole)
pascal_done (Ok i) _ _ _ is_last same = is_last ∙ same
pascal_done (Err e) _ _ _ _ _ = tt
