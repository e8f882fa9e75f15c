-- What the first instructions of a program make within the limit.
use Rattle.std.proofs.Common.{◌≡◌, refl, sym, ap, ap₂, ◌∙◌, subst, ℕ, zero, suc, ◌+◌, ◌-◌, ◌<◌, ◌≤◌, List, [], ◌∷◌}
use Rattle.std.proofs.Common.{◌++◌, map, length, take, drop, get_or, arith, length-append}
use Rattle.std.specs.Prelude.{ℤ, pos, Option, Some, None, Contains}
use Rattle.std.proofs.lemmas.List.{get_or-map, length-map, map_push, take_more, take_all, length-take-le}
use Rattle.std.proofs.lemmas.List.{take-append-drop}
use Rattle.std.proofs.lemmas.Option.{slice_get-get_or}
use Rattle.coordinate_model.specs.Ring.{Integers}
use Rattle.coordinate_model.specs.Sequences.{subsets}
use Rattle.coordinate_model.specs.Limited.{Limited}
use Rattle.step_types.specs.declared.measure.Measure.{Measure}
use Rattle.cayley_terms.specs.declared.instr.Instr.{Instr}
use Rattle.cayley_terms.specs.declared.instr.Instr.TheVariants.{Free}
use Rattle.cayley_terms.specs.declared.program.Program.{Program}
use Rattle.cayley_terms.specs.Figures.{Figure, no_figure}
use Rattle.cayley_terms.specs.Instrs.{made_behind, figures, measures, instr_measure}
use Rattle.cayley_terms.specs.Programs.{EndsInOne}
use Rattle.cayley_terms.proofs.Made.{made-push, made-front, length-made, made-none}
use Rattle.cayley_terms.proofs.Places.{steps_agree, made-at, made-take}
use Rattle.std.proofs.Math.ListN.{get_or-map as at_default}
use Rattle.std.proofs.Math.Seq.{get_or-append_seam}
use Rattle.placement.proofs.Ready.{one_coordinate}
use Rattle.placement.specs.Figures.{coordinates_of, figures_before, figures_in_order, instr_in_order, Placement}
use Rattle.placement.specs.Figures.{WithinLimit, numbers, values}
use Rattle.placement.specs.Placed.{numbers_at, HasValues, StaysWithin, PassesAt}
use Rattle.placement.specs.Ready.{AreSoFar, AreMade, AreSized, step_at}
use Rattle.placement.proofs.Shown.{figures-show, objects-are, at}

some_same : {A : Type 0} (x y : A) → Some x ≡ Some y → x ≡ y
some_same x y e = cc

module _ (p : Program) (points : List (List ℤ)) (params : List ℤ) where
  abbrev F : List (Figure Limited) → Instr → Figure Limited
  F = instr_in_order (WithinLimit points params) p.rank

  abbrev all : List (Figure Limited)
  all = figures_in_order (WithinLimit points params) p.rank p.instrs

  -- at the start
  pub so_far_none : AreSoFar p points params 0 []
  so_far_none = ap (map (coordinates_of Limited p.rank))
      (sym (made-none (instr_in_order (WithinLimit points params) p.rank) []))

  -- behind one more instruction
  pub so_far_next : (n : ℕ) (objects : List (List ℤ)) (o : List ℤ) (i : Instr) → n < length p.instrs
      → map (λ z. Some z) o ≡ coordinates_of Limited p.rank
      (instr_in_order (WithinLimit points params) p.rank (figures_before p n points params) (get_or p.instrs n i))
      → AreSoFar p points params n objects → AreSoFar p points params (n + 1) (objects ++ o ∷ [])
  so_far_next n objects o i here e so_far =
      map_push (λ zs. map (λ z. Some z) zs) objects o
      ∙ ap₂ (λ xs x. xs ++ x ∷ []) so_far e
      ∙ sym (map_push (coordinates_of Limited p.rank) (figures_before p n points params) _)
      ∙ ap (map (coordinates_of Limited p.rank))
      (sym (made-push (instr_in_order (WithinLimit points params) p.rank) [] (take n p.instrs) (get_or p.instrs n i))
      ∙ ap (made_behind (instr_in_order (WithinLimit points params) p.rank) []) (sym (take_more p.instrs n i here)))

  -- as many as there were instructions
  pub so_far_long : (n : ℕ) (objects : List (List ℤ)) → n ≤ length p.instrs → AreSoFar p points params n objects
      → length objects ≡ n
  so_far_long n objects within e =
      sym (length-map objects (λ zs. map (λ z. Some z) zs)) ∙ ap length e
      ∙ length-map (figures_before p n points params) (coordinates_of Limited p.rank)
      ∙ length-made F [] (take n p.instrs) ∙ whole (length-take-le n p.instrs within)
    where
      whole : length (take n p.instrs) ≡ n → 0 + length (take n p.instrs) ≡ n
      whole e = omega arith

  -- the front makes the front
  front_same : (n k : ℕ) → n ≤ length p.instrs → k < n
      → get_or all k (no_figure Limited) ≡ get_or (figures_before p n points params) k (no_figure Limited)
  front_same n k within h =
      ap (λ (instrs : List Instr). get_or (made_behind F [] instrs) k (no_figure Limited))
      (sym (take-append-drop n p.instrs))
      ∙ made-front F (take n p.instrs) (drop n p.instrs) k (no_figure Limited)
      (omega (arith, length-take-le n p.instrs within))

  step_same : (xs : List (Figure Integers)) (k : ℕ)
      → get_or (map (λ x. x.step) xs) k 0 ≡ (get_or xs k (no_figure Integers)).step
  step_same [] k = refl
  step_same (x ∷ xs) zero = refl
  step_same (x ∷ xs) (suc k) = step_same xs k

  -- the steps of all
  step_of : (k : ℕ) → step_at p.steps k ≡ (get_or all k (no_figure Limited)).step
  step_of k =
      ap (λ (ns : List ℕ). get_or ns k 0)
      (p.formed.stepped ∙ steps_agree (Placement points params) p.rank [] [] p.instrs refl)
      ∙ step_same (figures (Placement points params) p.rank p.instrs) k
      ∙ sym (at points params p.rank all (figures (Placement points params) p.rank p.instrs) k
      (figures-show points params p.rank p.instrs)).step

  coordinates_at : (n k : ℕ) (objects : List (List ℤ)) → n ≤ length p.instrs → k < length objects
      → AreSoFar p points params n objects
      → map (λ z. Some z) (get_or objects k []) ≡ coordinates_of Limited p.rank
      (get_or (figures_before p n points params) k (no_figure Limited))
  coordinates_at n k objects within h e =
      let long = so_far_long n objects within e in
      let there : k < length (figures_before p n points params) =
      omega (arith, length-made F [] (take n p.instrs), length-take-le n p.instrs within, long) in
      sym (get_or-map (λ zs. map (λ z. Some z) zs) objects k [] [] h)
      ∙ ap (λ (xs : List (List (Option ℤ))). get_or xs k []) e
      ∙ get_or-map (coordinates_of Limited p.rank) (figures_before p n points params) k (no_figure Limited) [] there

  -- they are the objects of the first instructions
  pub so_far_made : (n : ℕ) (objects : List (List ℤ)) → n ≤ length p.instrs → AreSoFar p points params n objects
      → AreMade p.rank p.steps objects (figures_before p n points params)
  so_far_made n objects within e =
      let long = so_far_long n objects within e in
      record {
        steps_of = λ k h. step_of k ∙ ap (λ (x : Figure Limited). x.step) (front_same n k within (omega arith));
        coordinates =
            λ k h. coordinates_at n k objects within h e
            ∙ ap (λ s. map (get_or (figures_before p n points params) k (no_figure Limited)).coordinates
            (subsets p.rank s))
            (sym (step_of k ∙ ap (λ (x : Figure Limited). x.step) (front_same n k within (omega arith))));
      }

  -- each has as many coordinates as its step says
  pub so_far_sized : (n : ℕ) (objects : List (List ℤ)) → n ≤ length p.instrs → AreSoFar p points params n objects
      → AreSized p.rank p.steps objects
  so_far_sized n objects within e k h =
      let m = so_far_made n objects within e in
      sym (length-map (get_or objects k []) (λ z. Some z)) ∙ ap length (m.coordinates k h)
      ∙ length-map (subsets p.rank (step_at p.steps k))
      (get_or (figures_before p n points params) k (no_figure Limited)).coordinates

  -- what the instruction of this number makes
  figure_of : (n : ℕ) (i : Instr) → n < length p.instrs
      → get_or all n (no_figure Limited) ≡ F (figures_before p n points params) (get_or p.instrs n i)
  figure_of n i h =
      let instr : Instr = get_or p.instrs n i in
      some_same _ _
      (sym (slice_get-get_or all n (no_figure Limited) (omega (arith, length-made F [] p.instrs)))
      ∙ made-at F p.instrs n instr (slice_get-get_or p.instrs n i h)
      ∙ ap (λ (xs : List (Figure Limited)). Some (F xs instr)) (sym (made-take F p.instrs n (omega arith))))

  no_none : (zs : List ℤ) → Contains (map (λ z. Some z) zs) None → ⊥
  no_none zs (i, h, e) =
      let long = length-map zs (λ z. Some z) in
      let here : Some (get_or zs i (pos 0)) ≡ None =
      sym (get_or-map (λ z. Some z) zs i (pos 0) None (omega arith)) ∙ e in
      absurd cc

  numbers_of : (n : ℕ) → n < length p.instrs
      → numbers_at p points params n ≡ coordinates_of Limited p.rank (get_or all n (no_figure Limited))
  numbers_of n h =
      get_or-map (coordinates_of Limited p.rank) all n (no_figure Limited) [] (omega (arith, length-made F [] p.instrs))

  -- a number of the next instruction passes the limit
  pub passes_at : (n : ℕ) (i : Instr) (objects : List (List ℤ)) → n < length p.instrs
      → AreSoFar p points params n objects
      → Contains (coordinates_of Limited p.rank (F (figures_before p n points params) (get_or p.instrs n i))) None
      → PassesAt p points params (get_or p.lines n 0)
  passes_at n i objects h e none = record {
    number = n;
    within = h;
    line_of = refl;
    passes =
        subst (λ xs. Contains xs None)
        (ap (coordinates_of Limited p.rank) (sym (figure_of n i h)) ∙ sym (numbers_of n h)) none;
    first =
        λ m less has. let long = so_far_long n objects (omega arith) e in
        no_none (get_or objects m [])
        (subst (λ xs. Contains xs None)
        (numbers_of m (omega arith) ∙ ap (coordinates_of Limited p.rank) (front_same n m (omega arith) less)
        ∙ sym (coordinates_at n m objects (omega arith) (omega arith) e)) has);
  }

  -- all instructions are done
  pub so_far_all : (n : ℕ) (objects : List (List ℤ)) → length p.instrs ≤ n → AreSoFar p points params n objects
      → map (λ zs. map (λ z. Some z) zs) objects ≡ numbers p points params
  so_far_all n objects past e =
      e ∙ ap (λ instrs. map (coordinates_of Limited p.rank)
      (figures_in_order (WithinLimit points params) p.rank instrs))
      (take_all n p.instrs past)

  pub stays_within : (objects : List (List ℤ)) → map (λ zs. map (λ z. Some z) zs) objects ≡ numbers p points params
      → StaysWithin p points params
  stays_within objects e n has =
      no_none (get_or objects n [])
      (subst (λ xs. Contains xs None)
      (ap (λ (xs : List (List (Option ℤ))). get_or xs n []) (sym e) ∙ at_default
      (λ zs. map (λ z. Some z) zs) objects n []) has)

  pub values_are : (objects : List (List ℤ)) → map (λ zs. map (λ z. Some z) zs) objects ≡ numbers p points params
      → objects ≡ values p points params
  values_are objects e =
      objects-are points params p.rank objects all (figures (Placement points params) p.rank p.instrs)
      (figures-show points params p.rank p.instrs) e

  -- the last has one coordinate
  pub last_is_one : (rest : List (List ℤ)) (last : List ℤ)
      → map (λ zs. map (λ z. Some z) zs) (rest ++ last ∷ []) ≡ numbers p points params
      → last ≡ get_or last 0 (pos 0) ∷ []
  last_is_one rest last e =
      let objects : List (List ℤ) = rest ++ last ∷ [] in
      let so_far : AreSoFar p points params (length p.instrs) objects =
      e ∙ ap (λ instrs. map (coordinates_of Limited p.rank)
      (figures_in_order (WithinLimit points params) p.rank instrs))
      (sym (take_all (length p.instrs) p.instrs (omega arith))) in
      let long : length objects ≡ length p.instrs = so_far_long (length p.instrs) objects (omega arith) so_far in
      let count : length objects ≡ length rest + 1 = length-append rest (last ∷ []) in
      let n : ℕ = length rest in
      let here : n + 1 ≡ length p.instrs = omega arith in
      let size : length (get_or objects n []) ≡ length (subsets p.rank (step_at p.steps n)) =
      so_far_sized (length p.instrs) objects (omega arith) so_far n (omega arith) in
      let one : length (subsets p.rank (step_at p.steps n)) ≡ 1 =
      one_coordinate p n (get_or p.instrs n (Free 0)) here (slice_get-get_or p.instrs n (Free 0) (omega arith)) in
      let at_end : get_or objects n [] ≡ last = get_or-append_seam rest last [] [] in
      alone last (sym (ap length at_end) ∙ size ∙ one)
    where
      alone : (zs : List ℤ) → length zs ≡ 1 → zs ≡ get_or zs 0 (pos 0) ∷ []
      alone [] e = absurd (omega arith)
      alone (z ∷ []) e = refl
      alone (z ∷ y ∷ zs) e = absurd (omega arith)

  -- as many steps as instructions
  pub steps_long : length p.steps ≡ length p.instrs
  steps_long =
      let count = length-made (instr_measure p.rank) [] p.instrs in
      ap (λ (ns : List ℕ). length ns) p.formed.stepped
      ∙ length-map (measures p.rank p.instrs) (λ (m : Measure). m.step)
      ∙ (let same : length (measures p.rank p.instrs) ≡ length p.instrs = omega arith in same)

  ends_somewhere : (instrs : List Instr) → EndsInOne p.rank [] instrs → 0 < length instrs
  ends_somewhere [] h = absurd h
  ends_somewhere (i ∷ instrs) h = omega arith

  -- there is a conclusion
  pub some_object : (objects : List (List ℤ)) → map (λ zs. map (λ z. Some z) zs) objects ≡ numbers p points params
      → 0 < length objects
  some_object objects e =
      let long : length objects ≡ length all =
      sym (length-map objects (λ zs. map (λ z. Some z) zs)) ∙ ap length e ∙ length-map all
      (coordinates_of Limited p.rank) in
      omega (arith, long, length-made F [] p.instrs, ends_somewhere p.instrs p.formed.each)

  -- the objects but the last, and the last
  pub parted : (objects : List (List ℤ)) (x : List ℤ) → 0 < length objects
      → objects ≡ take (length objects - 1) objects ++ get_or objects (length objects - 1) x ∷ []
  parted objects x h =
      sym (take_all (length objects - 1 + 1) objects (omega arith)) ∙ take_more objects (length objects - 1) x
      (omega arith)

  -- the conclusion's value is that of the last
  pub has_values : (objects rest : List (List ℤ)) (last : List ℤ) (z : ℤ)
      → map (λ zs. map (λ z. Some z) zs) objects ≡ numbers p points params → objects ≡ rest ++ last ∷ []
      → z ≡ get_or last 0 (pos 0) → HasValues p points params rest z
  has_values objects rest last z e split value =
      let whole : map (λ zs. map (λ z. Some z) zs) (rest ++ last ∷ []) ≡ numbers p points params =
      subst (λ (os : List (List ℤ)). map (λ zs. map (λ z. Some z) zs) os ≡ numbers p points params) split e in
      ap (λ (y : ℤ). rest ++ (y ∷ []) ∷ []) value
      ∙ ap (λ (l : List ℤ). rest ++ l ∷ []) (sym (last_is_one rest last whole))
      ∙ values_are (rest ++ last ∷ []) whole
