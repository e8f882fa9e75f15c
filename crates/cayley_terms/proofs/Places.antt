-- The instructions of a program, by their numbers.
use Rattle.std.proofs.Common.{◌≡◌, ℕ, zero, suc, ◌+◌, ◌<◌, ◌≤◌, List, [], ◌∷◌, ◌++◌, length, map, take, drop, Some, sym, ap, ◌∙◌, subst, refl, arith, length-append}
use Rattle.std.specs.Prelude.{slice_get, slice_index_or}
use Rattle.std.proofs.Math.Seq.{take-length}
use Rattle.std.proofs.lemmas.List.{map_push, take-append-le, length-take-le, take-append-drop}
use Rattle.std.proofs.lemmas.Option.{slice_get_within}
use Rattle.step_types.specs.declared.measure.Measure.{Measure}
use Rattle.cayley_terms.specs.declared.instr.Instr.{Instr}
use Rattle.cayley_terms.specs.declared.instr.Instr.TheVariants as instr
use Rattle.cayley_terms.specs.Figures.{Figure}
use Rattle.cayley_terms.specs.Meaning.{Frame}
use Rattle.cayley_terms.specs.Instrs.{made_behind, figure_at, instr_figure, instr_measure}
use Rattle.cayley_terms.specs.Programs.{IsInner, IsLast, EndsInOne}
use Rattle.cayley_terms.specs.Steps.{step_made}
use Rattle.cayley_terms.proofs.Made.{made-none, made-one, made-append, length-made}
use Rattle.cayley_terms.proofs.StepLists.{steps_of, step_is}

some_same : {A : Type 0} (x y : A) → Some x ≡ Some y → x ≡ y
some_same x y e = cc

-- ---- what is made of the front

get-front : {X : Type 0} (xs ys : List X) (n : ℕ) → n < length xs → slice_get (xs ++ ys) n ≡ slice_get xs n
get-front [] ys n less = absurd (omega arith)
get-front (x ∷ xs) ys zero less = refl
get-front (x ∷ xs) ys (suc n) less = get-front xs ys n (omega arith)

get-seam : {X : Type 0} (xs : List X) (x : X) → slice_get (xs ++ x ∷ []) (length xs) ≡ Some x
get-seam [] x = refl
get-seam (y ∷ xs) x = get-seam xs x

module _ {X : Type 0} (f : List X → Instr → X) where
  get-before : (before : List X) (instrs : List Instr) (n : ℕ) → n < length before
      → slice_get (made_behind f before instrs) n ≡ slice_get before n
  get-before before [] n less = ap (λ (xs : List X). slice_get xs n) (made-none f before)
  get-before before (i ∷ instrs) n less =
      let more = f before i ∷ [] in
      let further : n < length (before ++ more) = omega (arith, length-append before more) in
      ap (λ (xs : List X). slice_get xs n) (made-one f before i instrs) ∙ get-before (before ++ more) instrs n further
      ∙ get-front before more n less

  take-before : (before : List X) (instrs : List Instr) (n : ℕ) → n ≤ length before
      → take n (made_behind f before instrs) ≡ take n before
  take-before before [] n within = ap (take n) (made-none f before)
  take-before before (i ∷ instrs) n within =
      let more = f before i ∷ [] in
      let further : n ≤ length (before ++ more) = omega (arith, length-append before more) in
      ap (take n) (made-one f before i instrs) ∙ take-before (before ++ more) instrs n further
      ∙ take-append-le n before more within

  -- what the front makes is the front of what is made
  pub made-take : (instrs : List Instr) (n : ℕ) → n ≤ length instrs
      → made_behind f [] (take n instrs) ≡ take n (made_behind f [] instrs)
  made-take instrs n within =
      let front = made_behind f [] (take n instrs) in
      let long : length front ≡ n = omega (arith, length-made f [] (take n instrs), length-take-le n instrs within) in
      let split = ap (made_behind f []) (sym (take-append-drop n instrs))
      ∙ made-append f [] (take n instrs) (drop n instrs) in
      sym
      (ap (take n) split ∙ take-before front (drop n instrs) n (omega arith)
      ∙ ap (λ k. take k front) (sym long) ∙ take-length front)

  at-behind : (before : List X) (instrs : List Instr) (n k : ℕ) (i : Instr) → slice_get instrs n ≡ Some i
      → k ≡ length before + n
      → slice_get (made_behind f before instrs) k ≡ Some (f (made_behind f before (take n instrs)) i)
  at-behind before [] n k i at same = absurd cc
  at-behind before (x ∷ instrs) zero k i at same =
      let more = f before x ∷ [] in
      let here : k ≡ length before = omega arith in
      let less : k < length (before ++ more) = omega (arith, length-append before more) in
      ap (λ (xs : List X). slice_get xs k) (made-one f before x instrs) ∙ get-before (before ++ more) instrs k less
      ∙ ap (slice_get (before ++ more)) here ∙ get-seam before (f before x)
      ∙ ap (λ y. Some (f before y)) (some_same x i at)
      ∙ ap (λ (xs : List X). Some (f xs i)) (sym (made-none f before))
  at-behind before (x ∷ instrs) (suc n) k i at same =
      let more = f before x ∷ [] in
      ap (λ (xs : List X). slice_get xs k) (made-one f before x instrs)
      ∙ at-behind (before ++ more) instrs n k i at (omega (arith, length-append before more))
      ∙ ap (λ (xs : List X). Some (f xs i)) (sym (made-one f before x (take n instrs)))

  -- what the instruction of this number makes
  pub made-at : (instrs : List Instr) (n : ℕ) (i : Instr) → slice_get instrs n ≡ Some i
      → slice_get (made_behind f [] instrs) n ≡ Some (f (take n (made_behind f [] instrs)) i)
  made-at instrs n i at =
      let less = slice_get_within instrs n i at in
      at-behind [] instrs n n i at (omega arith)
      ∙ ap (λ (xs : List X). Some (f xs i)) (made-take instrs n (omega arith))

-- ---- the forms of instructions

pub inner_at : (d : ℕ) (before : List Measure) (instrs : List Instr) (n : ℕ) (i : Instr) → EndsInOne d before instrs
    → n + 1 < length instrs → slice_get instrs n ≡ Some i
    → IsInner d (made_behind (instr_measure d) before (take n instrs)) i
inner_at d before [] n i ends less at = absurd ends
inner_at d before (x ∷ []) n i ends less at = absurd (omega arith)
inner_at d before (x ∷ y ∷ instrs) zero i ends less at =
    subst (λ ms. IsInner d ms i) (sym (made-none (instr_measure d) before))
    (subst (IsInner d before) (some_same x i at) ends.0)
inner_at d before (x ∷ y ∷ instrs) (suc n) i ends less at =
    subst (λ ms. IsInner d ms i) (sym (made-one (instr_measure d) before x (take n (y ∷ instrs))))
    (inner_at d (before ++ instr_measure d before x ∷ []) (y ∷ instrs) n i ends.1 (omega arith) at)

pub last_at : (d : ℕ) (before : List Measure) (instrs : List Instr) (n : ℕ) (i : Instr) → EndsInOne d before instrs
    → n + 1 ≡ length instrs → slice_get instrs n ≡ Some i
    → IsLast d (made_behind (instr_measure d) before (take n instrs)) i
last_at d before [] n i ends same at = absurd ends
last_at d before (x ∷ []) zero i ends same at =
    subst (λ ms. IsLast d ms i) (sym (made-none (instr_measure d) before))
    (subst (IsLast d before) (some_same x i at) ends)
last_at d before (x ∷ []) (suc n) i ends same at = absurd (omega arith)
last_at d before (x ∷ y ∷ instrs) zero i ends same at = absurd (omega arith)
last_at d before (x ∷ y ∷ instrs) (suc n) i ends same at =
    subst (λ ms. IsLast d ms i) (sym (made-one (instr_measure d) before x (take n (y ∷ instrs))))
    (last_at d (before ++ instr_measure d before x ∷ []) (y ∷ instrs) n i ends.1 (omega arith) at)

-- ---- steps

module _ (F : Frame) (d : ℕ) where
  abbrev pub figure_steps : List (Figure F.ring) → List ℕ
  figure_steps xs = map (λ x. x.step) xs

  step-at : (xs : List (Figure F.ring)) (n : ℕ) → slice_index_or (figure_steps xs) n 0 ≡ (figure_at F xs n).step
  step-at [] n = refl
  step-at (x ∷ xs) zero = refl
  step-at (x ∷ xs) (suc n) = step-at xs n

  figure_step : (xs : List (Figure F.ring)) (i : Instr)
      → (instr_figure F d xs i).step ≡ step_made d (figure_steps xs) i
  figure_step xs (instr.Free k) = refl
  figure_step xs (instr.Join a b) = omega (arith, step-at xs a, step-at xs b)
  figure_step xs (instr.Meet a b) = omega (arith, step-at xs a, step-at xs b)
  figure_step xs (instr.On a b s t) = refl
  figure_step xs (instr.Conic p1 p2 p3 p4 p5 p6) = refl

  -- objects and measures have the same steps
  pub steps_agree : (ms : List Measure) (xs : List (Figure F.ring)) (instrs : List Instr) → steps_of ms ≡ figure_steps xs
      → steps_of (made_behind (instr_measure d) ms instrs) ≡ figure_steps (made_behind (instr_figure F d) xs instrs)
  steps_agree ms xs [] same =
      ap steps_of (made-none (instr_measure d) ms) ∙ same ∙ ap figure_steps (sym (made-none (instr_figure F d) xs))
  steps_agree ms xs (i ∷ instrs) same =
      let step : (instr_measure d ms i).step ≡ (instr_figure F d xs i).step =
      sym (step_is d ms i) ∙ ap (λ ss. step_made d ss i) same ∙ sym (figure_step xs i) in
      let next : steps_of (ms ++ instr_measure d ms i ∷ []) ≡ figure_steps (xs ++ instr_figure F d xs i ∷ []) =
      map_push (λ (m : Measure). m.step) ms (instr_measure d ms i)
      ∙ ap (λ ss. ss ++ (instr_measure d ms i).step ∷ []) same
      ∙ ap (λ k. figure_steps xs ++ k ∷ []) step
      ∙ sym (map_push (λ (x : Figure F.ring). x.step) xs (instr_figure F d xs i)) in
      ap steps_of (made-one (instr_measure d) ms i instrs)
      ∙ steps_agree (ms ++ instr_measure d ms i ∷ []) (xs ++ instr_figure F d xs i ∷ []) instrs next
      ∙ ap figure_steps (sym (made-one (instr_figure F d) xs i instrs))
