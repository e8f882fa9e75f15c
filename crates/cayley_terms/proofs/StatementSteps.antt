-- What the functions that lower statements need room for, and that they do what is lowered.
use Rattle.std.proofs.Common.{◌≡◌, ℕ, zero, suc, ◌+◌, ◌<◌, ◌≤◌, false, List, [], ◌∷◌, length, map, drop, get_or, fold, None, Some, sym, ap, ◌∙◌, subst, refl, arith, add-one}
use Rattle.std.specs.List.{AllByRecursion}
use Rattle.construction_reader.specs.declared.types.Statement.{Statement}
use Rattle.construction_reader.specs.Said.{Object, Recipe, row, sentences_of}
use Rattle.construction_reader.specs.Grammar.{IsSentence}
use Rattle.cayley_terms.specs.declared.instr.Instr.{Instr}
use Rattle.cayley_terms.specs.declared.instr.Instr.TheVariants as instr
use Rattle.cayley_terms.specs.Named.{place_of, has_name}
use Rattle.cayley_terms.specs.Straight.{Lowered, pushed, object_lowered, objects_lowered, recipe_lowered, chain_lowered, from_left_lowered, point_lowered, ended, row_lowered}
use Rattle.cayley_terms.specs.Room.{Fits}
use Rattle.cayley_terms.proofs.Names.{distinct_new}
use Rattle.cayley_terms.proofs.Growth.{grows_chain, grows_from_left, grows_points, grows_named, grows_ended, grows_rows, fits_before}
use Rattle.cayley_terms.proofs.ObjectSteps.{pair_of, first_of_fits, second_of_fits, pair_of-is}

-- ---- recipes

-- the point by the parameters of these names
abbrev pub on_params : List (List ℕ) → (u v : List ℕ) → ℕ → ℕ → Instr
on_params params u v a b = instr.On a b (place_of u params) (place_of v params)

module _ (params : List (List ℕ)) (line : ℕ) (r : Recipe) (a b : Object) (s : Lowered) where
  pub join_recipe-is : r ≡ Recipe.Join a b → recipe_lowered params line r s ≡ pair_of instr.Join line a b s
  unfolding recipe_lowered
  join_recipe-is is_join = ap (λ p. recipe_lowered params line p s) is_join

  pub meet_recipe-is : r ≡ Recipe.Meet a b → recipe_lowered params line r s ≡ pair_of instr.Meet line a b s
  unfolding recipe_lowered
  meet_recipe-is is_meet = ap (λ p. recipe_lowered params line p s) is_meet

  pub on_recipe-is : (u v : List ℕ) → r ≡ Recipe.On a b u v → recipe_lowered params line r s
      ≡ pair_of (on_params params u v) line a b s
  unfolding recipe_lowered
  on_recipe-is u v is_on = ap (λ p. recipe_lowered params line p s) is_on

-- what `make` makes of two objects
module _ (make : ℕ → ℕ → Instr) (line : ℕ) (a b : Object) (s : Lowered) (whole : Lowered × Instr)
    (is : whole ≡ pair_of make line a b s) where
  pub recipe_first : Fits whole.0 → Fits (object_lowered line a s).0
  recipe_first room = first_of_fits make line a b s (subst (λ (x : Lowered × Instr). Fits x.0) is room)

  pub recipe_second : (one : Lowered × ℕ) → one ≡ object_lowered line a s → Fits whole.0
      → Fits (object_lowered line b one.0).0
  recipe_second one is_one room =
      second_of_fits make line a b s one is_one (subst (λ (x : Lowered × Instr). Fits x.0) is room)

  pub recipe_done : (one two : Lowered × ℕ) → one ≡ object_lowered line a s → two ≡ object_lowered line b one.0
      → (two.0, make one.1 two.1) ≡ whole
  recipe_done one two is_one is_two = pair_of-is make line a b s one two is_one is_two ∙ sym is

-- ---- chains

chain-at : (make : ℕ → ℕ → Instr) (line first : ℕ) (others : List ℕ) (i other : ℕ) (s : Lowered) → i < length others
    → other ≡ get_or others i other → chain_lowered make line first (drop i others) s
    ≡ chain_lowered make line first (other ∷ drop (suc i) others) s
chain-at make line first [] i other s less at = absurd (omega arith)
chain-at make line first (x ∷ others) zero other s less at =
    ap (λ y. chain_lowered make line first (y ∷ others) s) (sym at)
chain-at make line first (x ∷ others) (suc i) other s less at =
    chain-at make line first others i other s (omega arith) at

-- one more of a chain
pub chain_next : (make : ℕ → ℕ → Instr) (line first : ℕ) (others : List ℕ) (i other : ℕ) (s : Lowered)
    (one : Lowered × ℕ) → i < length others → other ≡ get_or others i other
    → one ≡ pushed line None (make first other) s
    → chain_lowered make line first (drop i others) s ≡ chain_lowered make line one.1 (drop (i + 1) others) one.0
unfolding chain_lowered
chain_next make line first others i other s one less at is_one =
    chain-at make line first others i other s less at
    ∙ ap (λ (r : Lowered × ℕ). chain_lowered make line r.1 (drop (suc i) others) r.0) (sym is_one)
    ∙ ap (λ n. chain_lowered make line one.1 (drop n others) one.0) (sym (add-one i))

pub chain_room : (make : ℕ → ℕ → Instr) (line first : ℕ) (others : List ℕ) (i other : ℕ) (s : Lowered)
    (whole : Lowered × ℕ) → i < length others → other ≡ get_or others i other
    → whole ≡ chain_lowered make line first (drop i others) s → Fits whole.0
    → Fits (pushed line None (make first other) s).0
unfolding chain_lowered
chain_room make line first others i other s whole less at is_whole room =
    let one = pushed line None (make first other) s in
    let same = is_whole ∙ chain-at make line first others i other s less at in
    fits_before one.0 _ (grows_chain make line one.1 (drop (suc i) others) one.0)
    (subst (λ (r : Lowered × ℕ). Fits r.0) same room)

pub chain_end : (make : ℕ → ℕ → Instr) (line first : ℕ) (others : List ℕ) (i : ℕ) (s : Lowered) → length others ≤ i
    → chain_lowered make line first (drop i others) s ≡ (s, first)
unfolding chain_lowered
chain_end make line first [] zero s over = refl
chain_end make line first [] (suc i) s over = refl
chain_end make line first (x ∷ others) zero s over = absurd (omega arith)
chain_end make line first (x ∷ others) (suc i) s over = chain_end make line first others i s (omega arith)

-- the objects of a chain, and then the chain
pub chain_objects_room : (make : ℕ → ℕ → Instr) (line : ℕ) (os : List Object) (s : Lowered)
    → Fits (let r = objects_lowered line os s in from_left_lowered make line r.1 r.0).0
    → Fits (objects_lowered line os s).0
chain_objects_room make line os s room =
    let r = objects_lowered line os s in
    fits_before r.0 _ (grows_from_left make line r.1 r.0) room

-- ---- free points and definitions

-- before a name is added, it is new
pub point_new : (line : ℕ) (s : Lowered) (name : List ℕ) → Fits (point_lowered line s name)
    → has_name name s.numbers ≡ false
point_new line s name room = distinct_new s.numbers [] name (length s.instrs) room.names

pub ended_new : (line : ℕ) (name : List ℕ) (last : Lowered × Instr) → Fits (ended line name last)
    → has_name name last.0.numbers ≡ false
ended_new line name last room = distinct_new last.0.numbers [] name (length last.0.instrs) room.names

pub point_room : (line : ℕ) (s : Lowered) (name : List ℕ) → Fits (point_lowered line s name)
    → Fits (pushed line None (instr.Free s.points) s).0
point_room line s name room =
    let one = pushed line None (instr.Free s.points) s in
    fits_before one.0 _ (grows_named name one.1 (suc s.points) s.definitions one.0 (omega arith) (omega arith)) room

pub ended_room : (line : ℕ) (name : List ℕ) (last : Lowered × Instr) → Fits (ended line name last)
    → Fits (pushed line (Some last.0.definitions) last.1 last.0).0
ended_room line name last room =
    let one = pushed line (Some last.0.definitions) last.1 last.0 in
    fits_before one.0 _
    (grows_named name one.1 last.0.points (suc last.0.definitions) one.0 (omega arith) (omega arith)) room

pub recipe_room : (line : ℕ) (name : List ℕ) (last : Lowered × Instr) → Fits (ended line name last) → Fits last.0
recipe_room line name last room = fits_before last.0 _ (grows_ended line name last) room

-- the first of the free points that are left
pub points_next : (line : ℕ) (names : List (List ℕ)) (i : ℕ) (name : List ℕ) (s one : Lowered) → i < length names
    → name ≡ get_or names i name → one ≡ point_lowered line s name
    → fold (point_lowered line) s (drop i names) ≡ fold (point_lowered line) one (drop (i + 1) names)
points_next line [] i name s one less at is_one = absurd (omega arith)
points_next line (first ∷ names) zero name s one less at is_one =
    ap (λ n. fold (point_lowered line) (point_lowered line s n) names) (sym at)
    ∙ ap (λ r. fold (point_lowered line) r names) (sym is_one)
points_next line (first ∷ names) (suc i) name s one less at is_one =
    points_next line names i name s one (omega arith) at is_one
    ∙ ap (λ n. fold (point_lowered line) one (drop n names)) (add-one i)
    ∙ ap (λ n. fold (point_lowered line) one (drop n (first ∷ names))) (sym (add-one (suc i)))

pub points_room : (line : ℕ) (names : List (List ℕ)) (i : ℕ) (name : List ℕ) (s whole : Lowered) → i < length names
    → name ≡ get_or names i name → whole ≡ fold (point_lowered line) s (drop i names) → Fits whole
    → Fits (point_lowered line s name)
points_room line names i name s whole less at is_whole room =
    let one = point_lowered line s name in
    fits_before one _ (grows_points line (drop (i + 1) names) one)
    (subst Fits (is_whole ∙ points_next line names i name s one less at refl) room)

pub points_end : (line : ℕ) (names : List (List ℕ)) (i : ℕ) (s : Lowered) → length names ≤ i
    → fold (point_lowered line) s (drop i names) ≡ s
points_end line [] zero s over = refl
points_end line [] (suc i) s over = refl
points_end line (name ∷ names) zero s over = absurd (omega arith)
points_end line (name ∷ names) (suc i) s over = points_end line names i s (omega arith)

-- ---- all statements

rows-at : (params : List (List ℕ)) (items : List Statement) (i : ℕ) (s : Statement) (l : Lowered) → i < length items
    → s ≡ get_or items i s → fold (row_lowered params) l (map row (drop i items))
    ≡ fold (row_lowered params) (row_lowered params l (row s)) (map row (drop (suc i) items))
rows-at params [] i s l less at = absurd (omega arith)
rows-at params (first ∷ items) zero s l less at =
    ap (λ x. fold (row_lowered params) (row_lowered params l (row x)) (map row items)) (sym at)
rows-at params (first ∷ items) (suc i) s l less at = rows-at params items i s l (omega arith) at

-- the first of the statements that are left
pub rows_next : (params : List (List ℕ)) (items : List Statement) (i : ℕ) (s : Statement) (l one : Lowered)
    → i < length items → s ≡ get_or items i s → one ≡ row_lowered params l (row s) → fold (row_lowered params) l (map row (drop i items))
    ≡ fold (row_lowered params) one (map row (drop (i + 1) items))
rows_next params items i s l one less at is_one =
    rows-at params items i s l less at
    ∙ ap (λ r. fold (row_lowered params) r (map row (drop (suc i) items)))
    (sym is_one)
    ∙ ap (λ n. fold (row_lowered params) one (map row (drop n items))) (sym (add-one i))

pub rows_room : (params : List (List ℕ)) (items : List Statement) (i : ℕ) (s : Statement) (l whole : Lowered)
    → i < length items → s ≡ get_or items i s → fold (row_lowered params) l (map row (drop i items)) ≡ whole
    → Fits whole → Fits (row_lowered params l (row s))
rows_room params items i s l whole less at is_whole room =
    let one = row_lowered params l (row s) in
    fits_before one _ (grows_rows params (map row (drop (i + 1) items)) one)
    (subst Fits (sym is_whole ∙ rows_next params items i s l one less at refl) room)

pub rows_end : (params : List (List ℕ)) (items : List Statement) (i : ℕ) (l whole : Lowered) → length items ≤ i
    → fold (row_lowered params) l (map row (drop i items)) ≡ whole → l ≡ whole
rows_end params [] zero l whole over e = e
rows_end params [] (suc i) l whole over e = e
rows_end params (s ∷ items) zero l whole over e = absurd (omega arith)
rows_end params (s ∷ items) (suc i) l whole over e = rows_end params items i l whole (omega arith) e

-- each of the statements is one of the grammar
pub formed_at : (items : List Statement) (i : ℕ) (s : Statement) → i < length items → s ≡ get_or items i s
    → AllByRecursion IsSentence (sentences_of (map row items)) → IsSentence (row s).sentence
formed_at [] i s less at all = absurd (omega arith)
formed_at (first ∷ items) zero s less at all = subst (λ x. IsSentence (row x).sentence) (sym at) all.0
formed_at (first ∷ items) (suc i) s less at all = formed_at items i s (omega arith) at all.1

-- before the first statement
pub rows_start : (params : List (List ℕ)) (l : Lowered) (items : List Statement)
    → fold (row_lowered params) l (map row (drop 0 items)) ≡ fold (row_lowered params) l (map row items)
rows_start params l items = refl
