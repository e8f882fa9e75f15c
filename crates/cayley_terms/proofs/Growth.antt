-- What has been lowered only grows.
use Rattle.std.proofs.Common.{◌≡◌, ℕ, suc, ◌≤◌, List, [], ◌∷◌, ◌++◌, length, fold, Option, None, Some, sym, ap, ◌∙◌, subst, refl, arith, append_assoc, append-nil, length-append}
use Rattle.construction_reader.specs.Said.{Object, Recipe, Claim, Sentence, Row}
use Rattle.cayley_terms.specs.declared.instr.Instr.{Instr}
use Rattle.cayley_terms.specs.declared.instr.Instr.TheVariants as instr
use Rattle.cayley_terms.specs.Named.{AreDistinct}
use Rattle.cayley_terms.specs.Straight.{Lowered, pushed, object_lowered, objects_lowered, pascal_lowered, recipe_lowered, chain_lowered, from_left_lowered, conic_lowered, claim_lowered, point_lowered, ended, sentence_lowered, row_lowered}
use Rattle.cayley_terms.specs.Room.{Fits}
use Rattle.cayley_terms.proofs.Names.{distinct_front}

-- nothing is taken away
pub record Grows (s t : Lowered) : Type 0 where
  pub instrs : length s.instrs ≤ length t.instrs
  pub points : s.points ≤ t.points
  pub definitions : s.definitions ≤ t.definitions
  pub more : List (List ℕ × ℕ)
  pub numbers : t.numbers ≡ s.numbers ++ more

pub grows_not : (s : Lowered) → Grows s s
grows_not s =
    record {
      instrs = omega arith;
      points = omega arith;
      definitions = omega arith;
      more = [];
      numbers = sym (append-nil s.numbers);
    }

pub grows_on : (s t u : Lowered) → Grows s t → Grows t u → Grows s u
grows_on s t u first second =
    record {
      instrs = let a = first.instrs in let b = second.instrs in omega arith;
      points = let a = first.points in let b = second.points in omega arith;
      definitions = let a = first.definitions in let b = second.definitions in omega arith;
      more = first.more ++ second.more;
      numbers =
          second.numbers ∙ ap (λ ns. ns ++ second.more) first.numbers
          ∙ append_assoc s.numbers first.more second.more;
    }

-- ---- each step adds

pub grows_pushed : (line : ℕ) (ends : Option ℕ) (i : Instr) (s : Lowered) → Grows s (pushed line ends i s).0
grows_pushed line ends i s =
    record {
      instrs = omega (arith, length-append s.instrs (i ∷ []));
      points = omega arith;
      definitions = omega arith;
      more = [];
      numbers = sym (append-nil s.numbers);
    }

pub grows_object : (line : ℕ) (o : Object) (s : Lowered) → Grows s (object_lowered line o s).0
unfolding object_lowered
grows_object line (Object.Named name) s = grows_not s
grows_object line (Object.Join a b) s =
    let one = object_lowered line a s in
    let two = object_lowered line b one.0 in
    grows_on s one.0 _ (grows_object line a s)
    (grows_on one.0 two.0 _ (grows_object line b one.0) (grows_pushed line None (instr.Join one.1 two.1) two.0))
grows_object line (Object.Meet a b) s =
    let one = object_lowered line a s in
    let two = object_lowered line b one.0 in
    grows_on s one.0 _ (grows_object line a s)
    (grows_on one.0 two.0 _ (grows_object line b one.0) (grows_pushed line None (instr.Meet one.1 two.1) two.0))

pub grows_objects : (line : ℕ) (os : List Object) (s : Lowered) → Grows s (objects_lowered line os s).0
unfolding objects_lowered
grows_objects line [] s = grows_not s
grows_objects line (o ∷ os) s =
    let one = object_lowered line o s in
    grows_on s one.0 _ (grows_object line o s) (grows_objects line os one.0)

pub grows_pascal : (line : ℕ) (five : List ℕ) (q : ℕ) (s : Lowered) → Grows s (pascal_lowered line five q s).0
unfolding pascal_lowered
grows_pascal line (a ∷ b ∷ c ∷ d ∷ e ∷ []) q s =
    let s1 = pushed line None (instr.Join a q) s in
    let s2 = pushed line None (instr.Join a b) s1.0 in
    let s3 = pushed line None (instr.Join d e) s2.0 in
    let s4 = pushed line None (instr.Meet s2.1 s3.1) s3.0 in
    let s5 = pushed line None (instr.Join c d) s4.0 in
    let s6 = pushed line None (instr.Meet s1.1 s5.1) s5.0 in
    let s7 = pushed line None (instr.Join b c) s6.0 in
    let s8 = pushed line None (instr.Join s4.1 s6.1) s7.0 in
    let s9 = pushed line None (instr.Meet s7.1 s8.1) s8.0 in
    grows_on s s1.0 _ (grows_pushed line None (instr.Join a q) s)
    (grows_on s1.0 s2.0 _ (grows_pushed line None (instr.Join a b) s1.0)
    (grows_on s2.0 s3.0 _ (grows_pushed line None (instr.Join d e) s2.0)
    (grows_on s3.0 s4.0 _ (grows_pushed line None (instr.Meet s2.1 s3.1) s3.0)
    (grows_on s4.0 s5.0 _ (grows_pushed line None (instr.Join c d) s4.0)
    (grows_on s5.0 s6.0 _ (grows_pushed line None (instr.Meet s1.1 s5.1) s5.0)
    (grows_on s6.0 s7.0 _ (grows_pushed line None (instr.Join b c) s6.0)
    (grows_on s7.0 s8.0 _ (grows_pushed line None (instr.Join s4.1 s6.1) s7.0)
    (grows_on s8.0 s9.0 _ (grows_pushed line None (instr.Meet s7.1 s8.1) s8.0)
    (grows_pushed line None (instr.Join e s9.1) s9.0)))))))))
grows_pascal line five q s = grows_not s

pub grows_recipe : (params : List (List ℕ)) (line : ℕ) (r : Recipe) (s : Lowered)
    → Grows s (recipe_lowered params line r s).0
unfolding recipe_lowered
grows_recipe params line (Recipe.Join a b) s =
    let one = object_lowered line a s in
    grows_on s one.0 _ (grows_object line a s) (grows_object line b one.0)
grows_recipe params line (Recipe.Meet a b) s =
    let one = object_lowered line a s in
    grows_on s one.0 _ (grows_object line a s) (grows_object line b one.0)
grows_recipe params line (Recipe.On a b p q) s =
    let one = object_lowered line a s in
    grows_on s one.0 _ (grows_object line a s) (grows_object line b one.0)
grows_recipe params line (Recipe.Pascal five through) s =
    let one = objects_lowered line five s in
    let two = object_lowered line through one.0 in
    grows_on s one.0 _ (grows_objects line five s)
    (grows_on one.0 two.0 _ (grows_object line through one.0) (grows_pascal line one.1 two.1 two.0))

pub grows_chain : (make : ℕ → ℕ → Instr) (line first : ℕ) (others : List ℕ) (s : Lowered)
    → Grows s (chain_lowered make line first others s).0
unfolding chain_lowered
grows_chain make line first [] s = grows_not s
grows_chain make line first (second ∷ others) s =
    let one = pushed line None (make first second) s in
    grows_on s one.0 _ (grows_pushed line None (make first second) s) (grows_chain make line one.1 others one.0)

pub grows_from_left : (make : ℕ → ℕ → Instr) (line : ℕ) (ns : List ℕ) (s : Lowered)
    → Grows s (from_left_lowered make line ns s).0
grows_from_left make line [] s = grows_not s
grows_from_left make line (first ∷ others) s = grows_chain make line first others s

grows_conic : (line : ℕ) (ns : List ℕ) (s : Lowered) → Grows s (conic_lowered line ns s).0
grows_conic line (p1 ∷ p2 ∷ p3 ∷ p4 ∷ p5 ∷ p6 ∷ []) s = grows_pushed line None (instr.Conic p1 p2 p3 p4 p5 p6) s
grows_conic line ns s = grows_not s

pub grows_claim : (line : ℕ) (claim : Claim) (s : Lowered) → Grows s (claim_lowered line claim s).0
unfolding claim_lowered
grows_claim line (Claim.Collinear args) s =
    let one = objects_lowered line args s in
    grows_on s one.0 _ (grows_objects line args s) (grows_from_left instr.Join line one.1 one.0)
grows_claim line (Claim.Concurrent args) s =
    let one = objects_lowered line args s in
    grows_on s one.0 _ (grows_objects line args s) (grows_from_left instr.Meet line one.1 one.0)
grows_claim line (Claim.Coplanar args) s =
    let one = objects_lowered line args s in
    grows_on s one.0 _ (grows_objects line args s) (grows_from_left instr.Join line one.1 one.0)
grows_claim line (Claim.Meeting args) s =
    let one = objects_lowered line args s in
    grows_on s one.0 _ (grows_objects line args s) (grows_from_left instr.Join line one.1 one.0)
grows_claim line (Claim.Incident args) s =
    let one = objects_lowered line args s in
    grows_on s one.0 _ (grows_objects line args s) (grows_from_left instr.Join line one.1 one.0)
grows_claim line (Claim.Conic args) s =
    let one = objects_lowered line args s in
    grows_on s one.0 _ (grows_objects line args s) (grows_conic line one.1 one.0)

-- one more name
pub grows_named : (name : List ℕ) (n p q : ℕ) (s : Lowered) → s.points ≤ p → s.definitions ≤ q
    → Grows s (record s { numbers = s.numbers ++ (name, n) ∷ []; points = p; definitions = q })
grows_named name n p q s more_points more_definitions =
    record {
      instrs = omega arith;
      points = more_points;
      definitions = more_definitions;
      more = (name, n) ∷ [];
      numbers = refl;
    }

pub grows_point : (line : ℕ) (s : Lowered) (name : List ℕ) → Grows s (point_lowered line s name)
grows_point line s name =
    let one = pushed line None (instr.Free s.points) s in
    grows_on s one.0 _ (grows_pushed line None (instr.Free s.points) s)
    (grows_named name one.1 (suc s.points) s.definitions one.0 (omega arith) (omega arith))

pub grows_points : (line : ℕ) (names : List (List ℕ)) (s : Lowered) → Grows s (fold (point_lowered line) s names)
grows_points line [] s = grows_not s
grows_points line (name ∷ names) s =
    grows_on s (point_lowered line s name) _ (grows_point line s name)
    (grows_points line names (point_lowered line s name))

pub grows_ended : (line : ℕ) (name : List ℕ) (last : Lowered × Instr) → Grows last.0 (ended line name last)
grows_ended line name last =
    let one = pushed line (Some last.0.definitions) last.1 last.0 in
    grows_on last.0 one.0 _ (grows_pushed line (Some last.0.definitions) last.1 last.0)
    (grows_named name one.1 last.0.points (suc last.0.definitions) one.0 (omega arith) (omega arith))

pub grows_row : (params : List (List ℕ)) (row : Row) (s : Lowered) → Grows s (row_lowered params s row)
grows_row params row s = grows_sentence row.sentence where
  grows_sentence : (sentence : Sentence) → Grows s (sentence_lowered params row.line s sentence)
  grows_sentence (Sentence.Free names) = grows_points row.line names s
  grows_sentence (Sentence.Define kind name recipe) =
      let one = recipe_lowered params row.line recipe s in
      grows_on s one.0 _ (grows_recipe params row.line recipe s) (grows_ended row.line name one)
  grows_sentence (Sentence.Conclude claim) = grows_claim row.line claim s

pub grows_rows : (params : List (List ℕ)) (rows : List Row) (s : Lowered)
    → Grows s (fold (row_lowered params) s rows)
grows_rows params [] s = grows_not s
grows_rows params (row ∷ rows) s =
    grows_on s (row_lowered params s row) _ (grows_row params row s)
    (grows_rows params rows (row_lowered params s row))

-- ---- what has room later has room before

pub fits_before : (s t : Lowered) → Grows s t → Fits t → Fits s
fits_before s t grows room =
    record {
      instrs = let a = grows.instrs in let b = room.instrs in omega arith;
      points = let a = grows.points in let b = room.points in omega arith;
      definitions = let a = grows.definitions in let b = room.definitions in omega arith;
      names = distinct_front s.numbers grows.more (subst AreDistinct grows.numbers room.names);
    }
