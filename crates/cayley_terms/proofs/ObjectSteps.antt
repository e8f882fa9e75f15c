-- What the functions that lower need room for, and that they do what is lowered.
use Rattle.std.proofs.Common.{◌≡◌, ◌⊎◌, inl, inr, ℕ, zero, suc, ◌+◌, ◌<◌, ◌≤◌, arith, add-one, append_assoc, append-nil, length, map, drop, get_or, List, [], ◌∷◌, ◌++◌, None, Result, Ok, Err, IfOk, sym, ap, ◌∙◌, subst, refl}
use Rattle.cay_base.specs.declared.failed.NoMemory.{NoMemory}
use Rattle.construction_reader.specs.declared.types.Arg.{Arg}
use Rattle.construction_reader.specs.Said.{Object, object}
use Rattle.cayley_terms.specs.declared.instr.Instr.{Instr}
use Rattle.cayley_terms.specs.declared.instr.Instr.TheVariants as instr
use Rattle.cayley_terms.specs.Named.{named}
use Rattle.cayley_terms.specs.Straight.{Lowered, Step, ◌>>=◌, answer, pushed, object_lowered, objects_lowered}
use Rattle.cayley_terms.specs.Room.{Fits}
use Rattle.cayley_terms.proofs.Growth.{grows_on, grows_pushed, grows_object, grows_objects, fits_before}

-- how many names, joins and meets are in an object
abbrev pub parts : Object → ℕ
parts (Object.Named name) = 1
parts (Object.Join a b) = parts a + parts b + 1
parts (Object.Meet a b) = parts a + parts b + 1

pub parts_below : (o a b : Object) → (o ≡ Object.Join a b) ⊎ (o ≡ Object.Meet a b)
    → (parts a < parts o) × (parts b < parts o)
parts_below o a b (inl is_join) = let e = ap parts is_join in (omega arith, omega arith)
parts_below o a b (inr is_meet) = let e = ap parts is_meet in (omega arith, omega arith)

-- two objects, and what `make` makes of them
abbrev pub pair_lowered : (ℕ → ℕ → Instr) → ℕ → Object → Object → Step ℕ
pair_lowered make line a b = do
  first ← object_lowered line a
  second ← object_lowered line b
  pushed line None (make first second)

-- two objects, and what `make` makes of them, which is not pushed yet
abbrev pub pair_of : (ℕ → ℕ → Instr) → ℕ → Object → Object → Step Instr
pair_of make line a b = do
  first ← object_lowered line a
  second ← object_lowered line b
  answer (make first second)

pub join-is : (line : ℕ) (a b : Object) (s : Lowered)
    → object_lowered line (Object.Join a b) s ≡ pair_lowered instr.Join line a b s
unfolding object_lowered
join-is line a b s = refl

pub meet-is : (line : ℕ) (a b : Object) (s : Lowered)
    → object_lowered line (Object.Meet a b) s ≡ pair_lowered instr.Meet line a b s
unfolding object_lowered
meet-is line a b s = refl

module _ (make : ℕ → ℕ → Instr) (line : ℕ) (a b : Object) (s : Lowered) where
  pub first_fits : Fits (pair_lowered make line a b s).0 → Fits (object_lowered line a s).0
  first_fits room =
      let one = object_lowered line a s in
      let two = object_lowered line b one.0 in
      fits_before one.0 _
      (grows_on one.0 two.0 _ (grows_object line b one.0) (grows_pushed line None (make one.1 two.1) two.0)) room

  pub first_of_fits : Fits (pair_of make line a b s).0 → Fits (object_lowered line a s).0
  first_of_fits room =
      let one = object_lowered line a s in
      fits_before one.0 _ (grows_object line b one.0) room

  pub second_fits : (one : Lowered × ℕ) → one ≡ object_lowered line a s → Fits (pair_lowered make line a b s).0
      → Fits (object_lowered line b one.0).0
  second_fits one is_one room =
      let first = object_lowered line a s in
      let second = object_lowered line b first.0 in
      subst (λ (r : Lowered × ℕ). Fits (object_lowered line b r.0).0) (sym is_one)
      (fits_before second.0 _ (grows_pushed line None (make first.1 second.1) second.0) room)

  pub second_of_fits : (one : Lowered × ℕ) → one ≡ object_lowered line a s → Fits (pair_of make line a b s).0
      → Fits (object_lowered line b one.0).0
  second_of_fits one is_one room = subst (λ (r : Lowered × ℕ). Fits (object_lowered line b r.0).0) (sym is_one) room

  pub pair-is : (one two : Lowered × ℕ) → one ≡ object_lowered line a s → two ≡ object_lowered line b one.0
      → pushed line None (make one.1 two.1) two.0 ≡ pair_lowered make line a b s
  pair-is one two is_one is_two =
      ap (λ (r : Lowered × ℕ). pushed line None (make one.1 r.1) r.0) is_two
      ∙ ap (λ (r : Lowered × ℕ). let q = object_lowered line b r.0 in pushed line None (make r.1 q.1) q.0) is_one

  pub pair_of-is : (one two : Lowered × ℕ) → one ≡ object_lowered line a s → two ≡ object_lowered line b one.0
      → (two.0, make one.1 two.1) ≡ pair_of make line a b s
  pair_of-is one two is_one is_two =
      ap (λ (r : Lowered × ℕ). (r.0, make one.1 r.1)) is_two
      ∙ ap (λ (r : Lowered × ℕ). let q = object_lowered line b r.0 in (q.0, make r.1 q.1)) is_one

-- ---- an object of the code, by what it says

module _ (line : ℕ) (o a b : Object) (s : Lowered) where
  pub join_room : o ≡ Object.Join a b → Fits (object_lowered line o s).0 → Fits (pair_lowered instr.Join line a b s).0
  join_room is_join room =
      subst (λ (r : Lowered × ℕ). Fits r.0) (ap (λ p. object_lowered line p s) is_join ∙ join-is line a b s) room

  pub meet_room : o ≡ Object.Meet a b → Fits (object_lowered line o s).0 → Fits (pair_lowered instr.Meet line a b s).0
  meet_room is_meet room =
      subst (λ (r : Lowered × ℕ). Fits r.0) (ap (λ p. object_lowered line p s) is_meet ∙ meet-is line a b s) room

  pub join_done : (one two : Lowered × ℕ) → o ≡ Object.Join a b → one ≡ object_lowered line a s
      → two ≡ object_lowered line b one.0 → pushed line None (instr.Join one.1 two.1) two.0 ≡ object_lowered line o s
  join_done one two is_join is_one is_two =
      pair-is instr.Join line a b s one two is_one is_two ∙ sym (join-is line a b s)
      ∙ ap (λ p. object_lowered line p s) (sym is_join)

  pub meet_done : (one two : Lowered × ℕ) → o ≡ Object.Meet a b → one ≡ object_lowered line a s
      → two ≡ object_lowered line b one.0 → pushed line None (instr.Meet one.1 two.1) two.0 ≡ object_lowered line o s
  meet_done one two is_meet is_one is_two =
      pair-is instr.Meet line a b s one two is_one is_two ∙ sym (meet-is line a b s)
      ∙ ap (λ p. object_lowered line p s) (sym is_meet)

-- a name
pub name_done : (line : ℕ) (o : Object) (name : List ℕ) (n : ℕ) (s : Lowered) → o ≡ Object.Named name
    → n ≡ named 0 s.numbers name → (s, n) ≡ object_lowered line o s
unfolding object_lowered
name_done line o name n s is_name found = ap (λ k. (s, k)) found ∙ ap (λ p. object_lowered line p s) (sym is_name)

-- the push of what was answered is the whole
pub pushed_done : (result : Result ℕ NoMemory) (after : Lowered) (step whole : Lowered × ℕ)
    → IfOk result (λ n. (after, n) ≡ step) → step ≡ whole → IfOk result (λ n. (after, n) ≡ whole)
pushed_done (Ok n) after step whole is_step same = is_step ∙ same
pushed_done (Err e) after step whole is_step same = tt

-- what the whole needs room for, its last push does
pub pushed_room : {step whole : Lowered × ℕ} → step ≡ whole → Fits whole.0 → Fits step.0
pushed_room same room = subst (λ (r : Lowered × ℕ). Fits r.0) (sym same) room

-- ---- several objects

-- with these numbers in front of the answer
abbrev pub with_front : List ℕ → Lowered × List ℕ → Lowered × List ℕ
with_front numbers r = (r.0, numbers ++ r.1)

pub front_none : (r : Lowered × List ℕ) → r ≡ with_front [] r
front_none r = refl

objects-at : (line : ℕ) (args : List Arg) (i : ℕ) (arg : Arg) (s : Lowered) → i < length args → arg ≡ get_or args i arg
    → objects_lowered line (map object (drop i args)) s
    ≡ objects_lowered line (object arg ∷ map object (drop (suc i) args)) s
objects-at line [] i arg s less at = absurd (omega arith)
objects-at line (first ∷ args) zero arg s less at =
    ap (λ o. objects_lowered line (object o ∷ map object args) s) (sym at)
objects-at line (first ∷ args) (suc i) arg s less at = objects-at line args i arg s (omega arith) at

-- the first of the objects that are left
pub objects_next : (line : ℕ) (args : List Arg) (i : ℕ) (arg : Arg) (s : Lowered) (numbers : List ℕ) (one : Lowered × ℕ)
    → i < length args → arg ≡ get_or args i arg → one ≡ object_lowered line (object arg) s
    → with_front numbers (objects_lowered line (map object (drop i args)) s)
    ≡ with_front (numbers ++ one.1 ∷ []) (objects_lowered line (map object (drop (i + 1) args)) one.0)
unfolding objects_lowered
objects_next line args i arg s numbers one less at is_one =
    let rest = map object (drop (suc i) args) in
    let both = λ (r : Lowered × ℕ). objects_lowered line rest r.0 in
    ap (with_front numbers) (objects-at line args i arg s less at)
    ∙ ap (λ (r : Lowered × ℕ). with_front numbers ((both r).0, r.1 ∷ (both r).1)) (sym is_one)
    ∙ ap (λ ns. ((both one).0, ns)) (sym (append_assoc numbers (one.1 ∷ []) (both one).1))
    ∙ ap (λ n. with_front (numbers ++ one.1 ∷ []) (objects_lowered line (map object (drop n args)) one.0)) (sym (add-one i))

pub objects_room : (line : ℕ) (args : List Arg) (i : ℕ) (arg : Arg) (s : Lowered) (numbers : List ℕ)
    (whole : Lowered × List ℕ) → i < length args → arg ≡ get_or args i arg
    → whole ≡ with_front numbers (objects_lowered line (map object (drop i args)) s) → Fits whole.0
    → Fits (object_lowered line (object arg) s).0
unfolding objects_lowered
objects_room line args i arg s numbers whole less at is_whole room =
    let one = object_lowered line (object arg) s in
    let last = objects_lowered line (map object (drop (suc i) args)) one.0 in
    let same : whole.0 ≡ last.0 =
    ap (λ (r : Lowered × List ℕ). r.0) is_whole
    ∙ ap (λ (r : Lowered × List ℕ). r.0) (objects-at line args i arg s less at) in
    fits_before one.0 last.0 (grows_objects line (map object (drop (suc i) args)) one.0) (subst Fits same room)

pub objects_end : (line : ℕ) (args : List Arg) (i : ℕ) (s : Lowered) (numbers : List ℕ) → length args ≤ i
    → with_front numbers (objects_lowered line (map object (drop i args)) s) ≡ (s, numbers)
unfolding objects_lowered
objects_end line [] zero s numbers over = ap (λ ns. (s, ns)) (append-nil numbers)
objects_end line [] (suc i) s numbers over = ap (λ ns. (s, ns)) (append-nil numbers)
objects_end line (arg ∷ args) zero s numbers over = absurd (omega arith)
objects_end line (arg ∷ args) (suc i) s numbers over = objects_end line args i s numbers (omega arith)
