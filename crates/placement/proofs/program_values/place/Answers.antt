use Rattle.std.proofs.Common.{◌≡◌, sym, ap, ◌∙◌, subst, ℕ, ◌<◌, ◌≤◌, ◌+◌, ◌-◌, List, [], map, take}
use Rattle.std.proofs.Common.{length, get_or, arith, ℤ, pos, Some, None, rules, to_z}
use Rattle.std.specs.Prelude.{Contains, vec_len}
use Rattle.std.specs.Option.{option_map}
use Rattle.std.proofs.lemmas.Option.{slice_get-get_or}
use Rattle.std.proofs.lemmas.Int.{to_z-of_z}
use mir.Syntax.{w128}
use mir.Val.{SFits}
use Rattle.coordinate_model.specs.Limited.{Limited}
use Rattle.cayley_terms.specs.declared.instr.Instr.{Instr}
use Rattle.cayley_terms.specs.declared.instr.Instr.TheVariants.{Free}
use Rattle.cayley_terms.specs.declared.program.Program.{Program}
use Rattle.placement.specs.Figures.{figures_before, coordinates_of, instr_in_order, WithinLimit}
use Rattle.placement.specs.Numbers.{AreNumbers}
use Rattle.placement.specs.Placed.{PassesAt, HasValues}
use Rattle.placement.specs.Ready.{AreSoFar, CanMake, AreSized, AreMade}
use Rattle.placement.proofs.Ready.{can_make}
use Rattle.placement.proofs.SoFar.{so_far_none, so_far_next, so_far_long, so_far_made, so_far_sized, passes_at}
use Rattle.placement.proofs.SoFar.{so_far_all}
use Rattle.placement.proofs.SoFar.{stays_within, steps_long, some_object, parted, has_values}
use Rattle.placement.proofs.program_values.place.Goals as goal
use Rattle.placement.proofs.program_values.place.Goals.{in-Some-pop, in-None}

some_same : (x y : List ℤ) → Some x ≡ Some y → x ≡ y
some_same x y e = cc

none_left : {A : Type 0} (x : List ℤ) → Some x ≡ None → A
none_left x e = absurd cc

pub loop-n-init : goal.loop-n-init
loop-n-init c =
    let p : Program = c.args.program.now in
    let points : List (List ℤ) = map (λ v. v.items) c.args.points.now in
    subst (AreSoFar p points c.args.params.now 0) (sym c.new-objects.ensures.items)
    (so_far_none p points c.args.params.now)

pub make-requires-clause-few : goal.make-requires-clause-few
make-requires-clause-few c =
    let p : Program = c.args.program.now in
    let d : ℕ = p.rank in
    let points : List (List ℤ) = map (λ v. v.items) c.args.points.now in
    let params : List ℤ = c.args.params.now in
    let n : ℕ = c.loop-n.n in
    let objects : List (List ℤ) = c.loop-n.objects.items in
    let within : n < length p.instrs =
    subst (λ (xs : List Instr). n < length xs) c.items-instrs.ensures c.loop-n-test.true in
    let count : length c.deref.result.now ≡ n =
    ap (λ (os : List (List ℤ)). length os) c.deref.ensures.value
    ∙ so_far_long p points params n objects (omega arith) c.loop-n.invariant in
    let steps : length c.items.result.now ≡ length p.instrs =
    ap (λ (ss : List ℕ). length ss) c.items.ensures ∙ steps_long p points params in
    omega arith

pub make-requires-clause-ready : goal.make-requires-clause-ready
make-requires-clause-ready c =
    let p : Program = c.args.program.now in
    let d : ℕ = p.rank in
    let points : List (List ℤ) = map (λ v. v.items) c.args.points.now in
    let params : List ℤ = c.args.params.now in
    let n : ℕ = c.loop-n.n in
    let objects : List (List ℤ) = c.loop-n.objects.items in
    let within : n < length p.instrs =
    subst (λ (xs : List Instr). n < length xs) c.items-instrs.ensures c.loop-n-test.true in
    let count : length c.deref.result.now ≡ n =
    ap (λ (os : List (List ℤ)). length os) c.deref.ensures.value
    ∙ so_far_long p points params n objects (omega arith) c.loop-n.invariant in
    let i : Instr = get_or c.items-instrs.result.now n (Free 0) in
    subst (λ (ss : List ℕ). CanMake d ss (length c.deref.result.now) i) (sym c.items.ensures)
    (subst (λ k. CanMake d p.steps k i) (sym count)
    (subst (λ (xs : List Instr). CanMake d p.steps n (get_or xs n (Free 0))) (sym c.items-instrs.ensures)
    (can_make p n (get_or p.instrs n (Free 0)) (slice_get-get_or p.instrs n (Free 0) within))))

pub make-requires-clause-sized : goal.make-requires-clause-sized
make-requires-clause-sized c =
    let p : Program = c.args.program.now in
    let d : ℕ = p.rank in
    let points : List (List ℤ) = map (λ v. v.items) c.args.points.now in
    let params : List ℤ = c.args.params.now in
    let n : ℕ = c.loop-n.n in
    let objects : List (List ℤ) = c.loop-n.objects.items in
    let within : n < length p.instrs =
    subst (λ (xs : List Instr). n < length xs) c.items-instrs.ensures c.loop-n-test.true in
    subst (λ (ss : List ℕ). AreSized d ss c.deref.result.now) (sym c.items.ensures)
    (subst (λ (os : List (List ℤ)). AreSized d p.steps os) (sym c.deref.ensures.value)
    (so_far_sized p points params n objects (omega arith) c.loop-n.invariant))

pub returns-in_default-clause-passes : goal.returns-in_default-clause-passes
returns-in_default-clause-passes c =
    let p : Program = c.args.program.now in
    let d : ℕ = p.rank in
    let points : List (List ℤ) = map (λ v. v.items) c.args.points.now in
    let params : List ℤ = c.args.params.now in
    let n : ℕ = c.loop-n.n in
    let objects : List (List ℤ) = c.loop-n.objects.items in
    let within : n < length p.instrs =
    subst (λ (xs : List Instr). n < length xs) c.items-instrs.ensures c.loop-n-test.true in
    let figures = figures_before p n points params in
    let made : AreMade d c.items.result.now c.deref.result.now figures =
    subst (λ (ss : List ℕ). AreMade d ss c.deref.result.now figures) (sym c.items.ensures)
    (subst (λ (os : List (List ℤ)). AreMade d p.steps os figures) (sym c.deref.ensures.value)
    (so_far_made p points params n objects (omega arith) c.loop-n.invariant)) in
    let i : Instr = get_or c.items-instrs.result.now n (Free 0) in
    let same : coordinates_of Limited d (instr_in_order (WithinLimit points params) d figures i)
    ≡ coordinates_of Limited d (instr_in_order (WithinLimit points params) d figures (get_or p.instrs n (Free 0))) =
    ap (λ (xs : List Instr). coordinates_of Limited d
    (instr_in_order (WithinLimit points params) d figures (get_or xs n (Free 0))))
    c.items-instrs.ensures in
    let none : Contains (coordinates_of Limited d (instr_in_order (WithinLimit points params) d figures i)) None =
    subst (λ m. AreNumbers (coordinates_of Limited d (instr_in_order (WithinLimit points params) d figures i))
    (option_map (λ v. v.items) m))
    c.in_default.is (c.in_ok-made.ensures figures made) in
    subst (λ (ls : List ℕ). PassesAt p points params (get_or ls n 0)) (sym c.items-in_default.ensures)
    (passes_at p points params n (Free 0) objects within c.loop-n.invariant (subst (λ xs. Contains xs None) same none))

pub loop-n-preserved : goal.loop-n-preserved
loop-n-preserved c =
    let p : Program = c.args.program.now in
    let d : ℕ = p.rank in
    let points : List (List ℤ) = map (λ v. v.items) c.args.points.now in
    let params : List ℤ = c.args.params.now in
    let n : ℕ = c.loop-n.n in
    let objects : List (List ℤ) = c.loop-n.objects.items in
    let within : n < length p.instrs =
    subst (λ (xs : List Instr). n < length xs) c.items-instrs.ensures c.loop-n-test.true in
    let figures = figures_before p n points params in
    let made : AreMade d c.items.result.now c.deref.result.now figures =
    subst (λ (ss : List ℕ). AreMade d ss c.deref.result.now figures) (sym c.items.ensures)
    (subst (λ (os : List (List ℤ)). AreMade d p.steps os figures) (sym c.deref.ensures.value)
    (so_far_made p points params n objects (omega arith) c.loop-n.invariant)) in
    let i : Instr = get_or c.items-instrs.result.now n (Free 0) in
    let same : coordinates_of Limited d (instr_in_order (WithinLimit points params) d figures i)
    ≡ coordinates_of Limited d (instr_in_order (WithinLimit points params) d figures (get_or p.instrs n (Free 0))) =
    ap (λ (xs : List Instr). coordinates_of Limited d
    (instr_in_order (WithinLimit points params) d figures (get_or xs n (Free 0))))
    c.items-instrs.ensures in
    let numbers : map (λ z. Some z) c.in-Some.coordinates.items
    ≡ coordinates_of Limited d (instr_in_order (WithinLimit points params) d figures i) =
    subst (λ m. AreNumbers (coordinates_of Limited d (instr_in_order (WithinLimit points params) d figures i))
    (option_map (λ v. v.items) m))
    c.in-Some.is (c.in_ok-made.ensures figures made) in
    subst (AreSoFar p points params (n + 1)) (sym c.in_ok-push.ensures.items)
    (so_far_next p points params n objects c.of.result (Free 0) within
    (ap (λ (zs : List ℤ). map (λ z. Some z) zs) c.of.ensures ∙ numbers ∙ same) c.loop-n.invariant)

pub returns-clause-within : goal.returns-clause-within
returns-clause-within c =
    let p : Program = c.args.program.now in
    let points : List (List ℤ) = map (λ v. v.items) c.args.points.now in
    let params : List ℤ = c.args.params.now in
    let past : length p.instrs ≤ c.loop-n.n =
    subst (λ (xs : List Instr). length xs ≤ c.loop-n.n) c.items-instrs.ensures c.loop-n-test.false in
    stays_within p points params c.loop-n.objects.items
    (so_far_all p points params c.loop-n.n c.loop-n.objects.items past c.loop-n.invariant)

pub returns-clause-values : goal.returns-clause-values
returns-clause-values c =
    let p : Program = c.args.program.now in
    let points : List (List ℤ) = map (λ v. v.items) c.args.points.now in
    let params : List ℤ = c.args.params.now in
    let objects : List (List ℤ) = c.loop-n.objects.items in
    let past : length p.instrs ≤ c.loop-n.n =
    subst (λ (xs : List Instr). length xs ≤ c.loop-n.n) c.items-instrs.ensures c.loop-n-test.false in
    let all = so_far_all p points params c.loop-n.n objects past c.loop-n.invariant in
    let some : 0 < length objects = some_object p points params objects all in
    let long : vec_len c.loop-n.objects ≡ length objects = search rules in
    let last : List ℤ = get_or objects (length objects - 1) [] in
    let popped : c.pop.result ≡ Some last =
    c.pop.ensures.value [] (subst (λ n. 0 < n) (sym long) some)
    ∙ ap (λ n. Some (get_or objects (n - 1) [])) long in
    let rest : c.of-2.result ≡ take (length objects - 1) objects =
    c.of-2.ensures ∙ c.pop.ensures.rest ∙ ap (λ n. take (n - 1) objects) long in
    elim c.match-pop.branch [
      | in-Some-pop w ↦
          let same : w.in-Some-pop.last ≡ last =
          some_same w.in-Some-pop.last last (sym w.in-Some-pop.is ∙ popped) in
          let fits : SFits w128 w.sole-conclusion.result = search rules in
          let value : to_z w128 c.match-pop.conclusion-bits ≡ get_or last 0 (pos 0) =
          w.conclusion-is ∙ to_z-of_z w128 w.sole-conclusion.result fits ∙ w.sole-conclusion.ensures
          ∙ ap (λ (l : List ℤ). get_or l 0 (pos 0)) same in
          subst (λ (os : List (List ℤ)). HasValues p points params os (to_z w128 c.match-pop.conclusion-bits))
          (sym rest)
          (has_values p points params objects (take (length objects - 1) objects) last
          (to_z w128 c.match-pop.conclusion-bits) all (parted p points params objects [] some) value)
      | in-None w ↦ none_left last (sym popped ∙ w.in-None.is)
    ]
