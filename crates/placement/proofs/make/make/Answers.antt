use Rattle.std.proofs.Common.{◌≡◌, sym, ap, ap₂, ◌∙◌, subst, ℕ, ◌<◌, List, [], ◌∷◌, map, length, get_or, rules, ℤ}
use Rattle.std.proofs.Common.{pos, Some, to_z, of_z}
use Rattle.std.specs.Prelude.{Option, IfOk, slice_index_or}
use Rattle.std.specs.Option.{option_map}
use Rattle.std.proofs.lemmas.Int.{to_z-of_z}
use Rattle.std.proofs.lemmas.List.{get_or-map, get_or_default, length-map}
use mir.Syntax.{w128}
use mir.Val.{SFits}
use Rattle.cayley_terms.specs.declared.instr.Instr.TheVariants.{Free, Join, Meet, On, Conic}
use Rattle.placement.specs.Numbers.{AreNumbers, Holds, combinations_of, conic_of}
use Rattle.placement.specs.Ready.{CanMake, step_at}
use Rattle.placement.specs.Placed.{IsGiven}
use Rattle.placement.proofs.Makes.{free_made, coords, made_of, join_is, meet_is, mixed_is, conic_is}
use Rattle.placement.proofs.make.make.Goals as goal

pub returns-in_ok-from_slice-in-Free : goal.returns-in_ok-from_slice-in-Free
returns-in_ok-from_slice-in-Free c = λ figures m.
    let d : ℕ = c.args.rank in
    let i : ℕ = c.in-Free.i in
    let points : List (List ℤ) = map (λ v. v.items) c.args.numbers.now.points.now in
    let params : List ℤ = c.args.numbers.now.params.now in
    let given : IsGiven d points params (Free i) =
    subst (IsGiven d points params) c.in-Free.is c.requires.given in
    let p : List ℤ = slice_index_or points i [] in
    let named = subst (λ n. i < n) (length-map c.args.numbers.now.points.now (λ v. v.items)) given.0 in
    let copied : c.in_ok-from_slice-in-Free.field-0.items ≡ p =
    c.in_ok-from_slice-in-Free.ensures.items ∙ c.deref.ensures.value
    ∙ sym (get_or-map (λ v. v.items) c.args.numbers.now.points.now i c.index-numbers-i.result [] named) in
    ap (λ (zs : List ℤ). map (λ z. Some z) zs) copied
    ∙ free_made d c.requires.rank p given.1
    ∙ ap (made_of d c.args.steps.now c.args.objects.now figures m points params) (sym c.in-Free.is)

pub returns-in-Join : goal.returns-in-Join
returns-in-Join c = λ figures m.
    let d : ℕ = c.args.rank in
    let steps : List ℕ = c.args.steps.now in
    let objects : List (List ℤ) = c.args.objects.now in
    let points : List (List ℤ) = map (λ v. v.items) c.args.numbers.now.points.now in
    let params : List ℤ = c.args.numbers.now.params.now in
    let a : ℕ = c.in-Join.a in
    let b : ℕ = c.in-Join.b in
    let ready : CanMake d steps (length objects) (Join a b) =
    subst (CanMake d steps (length objects)) c.in-Join.is c.requires.ready in
    let x : List ℤ = c.index-objects-a.result in
    let y : List ℤ = c.index-objects-b.result in
    let first : c.items.result.now ≡ get_or objects a [] =
    c.items.ensures ∙ c.index-objects-a.is ∙ get_or_default objects a x [] ready.0.earlier in
    let second : c.items-in-Join.result.now ≡ get_or objects b [] =
    c.items-in-Join.ensures ∙ c.index-objects-b.is ∙ get_or_default objects b y [] ready.1.earlier in
    let A = coords d steps objects figures m points params a in
    let B = coords d steps objects figures m points params b in
    subst (λ (xs : List (Option ℤ)). IfOk c.joined.result (λ made. AreNumbers xs (option_map (λ v. v.items) made)))
    (join_is d steps objects figures m points params a b ready.0.earlier ready.1.earlier
    ∙ ap (made_of d steps objects figures m points params) (sym c.in-Join.is))
    (c.joined.ensures A B (subst (Holds d (step_at steps a) A) (sym first) (m.coordinates a ready.0.earlier))
    (subst (Holds d (step_at steps b) B) (sym second) (m.coordinates b ready.1.earlier)))

pub returns-in-Meet : goal.returns-in-Meet
returns-in-Meet c = λ figures m.
    let d : ℕ = c.args.rank in
    let steps : List ℕ = c.args.steps.now in
    let objects : List (List ℤ) = c.args.objects.now in
    let points : List (List ℤ) = map (λ v. v.items) c.args.numbers.now.points.now in
    let params : List ℤ = c.args.numbers.now.params.now in
    let a : ℕ = c.in-Meet.a in
    let b : ℕ = c.in-Meet.b in
    let ready : CanMake d steps (length objects) (Meet a b) =
    subst (CanMake d steps (length objects)) c.in-Meet.is c.requires.ready in
    let x : List ℤ = c.index-objects-a-in-Meet.result in
    let y : List ℤ = c.index-objects-b-in-Meet.result in
    let first : c.items-in-Meet.result.now ≡ get_or objects a [] =
    c.items-in-Meet.ensures ∙ c.index-objects-a-in-Meet.is ∙ get_or_default objects a x [] ready.0.earlier in
    let second : c.items-in-Meet-2.result.now ≡ get_or objects b [] =
    c.items-in-Meet-2.ensures ∙ c.index-objects-b-in-Meet.is ∙ get_or_default objects b y [] ready.1.earlier in
    let A = coords d steps objects figures m points params a in
    let B = coords d steps objects figures m points params b in
    subst (λ (xs : List (Option ℤ)). IfOk c.met.result (λ made. AreNumbers xs (option_map (λ v. v.items) made)))
    (meet_is d steps objects figures m points params a b ready.0.earlier ready.1.earlier
    ∙ ap (made_of d steps objects figures m points params) (sym c.in-Meet.is))
    (c.met.ensures A B (subst (Holds d (step_at steps a) A) (sym first) (m.coordinates a ready.0.earlier))
    (subst (Holds d (step_at steps b) B) (sym second) (m.coordinates b ready.1.earlier)))

pub returns-in-On : goal.returns-in-On
returns-in-On c = λ figures m.
    let d : ℕ = c.args.rank in
    let steps : List ℕ = c.args.steps.now in
    let objects : List (List ℤ) = c.args.objects.now in
    let points : List (List ℤ) = map (λ v. v.items) c.args.numbers.now.points.now in
    let params : List ℤ = c.args.numbers.now.params.now in
    let a : ℕ = c.in-On.a in
    let b : ℕ = c.in-On.b in
    let s : ℕ = c.in-On.s in
    let t : ℕ = c.in-On.t in
    let ready : CanMake d steps (length objects) (On a b s t) =
    subst (CanMake d steps (length objects)) c.in-On.is c.requires.ready in
    let x : List ℤ = c.index-objects-a-in-On.result in
    let y : List ℤ = c.index-objects-b-in-On.result in
    let first : c.items-in-On.result.now ≡ get_or objects a [] =
    c.items-in-On.ensures ∙ c.index-objects-a-in-On.is ∙ get_or_default objects a x [] ready.0.0 in
    let second : c.items-in-On-2.result.now ≡ get_or objects b [] =
    c.items-in-On-2.ensures ∙ c.index-objects-b-in-On.is ∙ get_or_default objects b y [] ready.1.0 in
    let u : ℤ = get_or params s (pos 0) in
    let v : ℤ = get_or params t (pos 0) in
    let u_fits : SFits w128 u = search rules in
    let v_fits : SFits w128 v = search rules in
    let made : combinations_of (to_z w128 (of_z w128 u)) (to_z w128 (of_z w128 v)) c.items-in-On.result.now
    c.items-in-On-2.result.now
    ≡ combinations_of u v (get_or objects a []) (get_or objects b []) =
    ap₂ (λ y z. combinations_of y z c.items-in-On.result.now c.items-in-On-2.result.now) (to_z-of_z w128 u u_fits)
    (to_z-of_z w128 v v_fits)
    ∙ ap₂ (combinations_of u v) first second in
    subst (λ (xs : List (Option ℤ)). IfOk c.mixed.result (λ made. AreNumbers xs (option_map (λ v. v.items) made)))
    (made ∙ mixed_is d steps objects figures m points params a b s t ready.0 ready.1
    ∙ ap (made_of d steps objects figures m points params) (sym c.in-On.is))
    c.mixed.ensures

pub returns-in-Conic : goal.returns-in-Conic
returns-in-Conic c = λ figures m.
    let d : ℕ = c.args.rank in
    let steps : List ℕ = c.args.steps.now in
    let objects : List (List ℤ) = c.args.objects.now in
    let points : List (List ℤ) = map (λ v. v.items) c.args.numbers.now.points.now in
    let params : List ℤ = c.args.numbers.now.params.now in
    let ready : CanMake d steps (length objects)
    (Conic c.in-Conic.p1 c.in-Conic.p2 c.in-Conic.p3 c.in-Conic.p4 c.in-Conic.p5 c.in-Conic.p6) =
    subst (CanMake d steps (length objects)) c.in-Conic.is c.requires.ready in
    let r1 = ready.1 in
    let r2 = r1.1 in
    let r3 = r2.1 in
    let r4 = r3.1 in
    let r5 = r4.1 in
    let e1 : c.point.result ≡ get_or objects c.in-Conic.p1 [] =
    c.point.ensures ∙ c.index-objects-p1.is
    ∙ get_or_default objects c.in-Conic.p1 c.index-objects-p1.result [] r1.0.0 in
    let e2 : c.point-in-Conic.result ≡ get_or objects c.in-Conic.p2 [] =
    c.point-in-Conic.ensures ∙ c.index-objects-p2.is
    ∙ get_or_default objects c.in-Conic.p2 c.index-objects-p2.result [] r2.0.0 in
    let e3 : c.point-in-Conic-2.result ≡ get_or objects c.in-Conic.p3 [] =
    c.point-in-Conic-2.ensures ∙ c.index-objects-p3.is
    ∙ get_or_default objects c.in-Conic.p3 c.index-objects-p3.result [] r3.0.0 in
    let e4 : c.point-in-Conic-3.result ≡ get_or objects c.in-Conic.p4 [] =
    c.point-in-Conic-3.ensures ∙ c.index-objects-p4.is
    ∙ get_or_default objects c.in-Conic.p4 c.index-objects-p4.result [] r4.0.0 in
    let e5 : c.point-in-Conic-4.result ≡ get_or objects c.in-Conic.p5 [] =
    c.point-in-Conic-4.ensures ∙ c.index-objects-p5.is
    ∙ get_or_default objects c.in-Conic.p5 c.index-objects-p5.result [] r5.0.0 in
    let e6 : c.point-in-Conic-5.result ≡ get_or objects c.in-Conic.p6 [] =
    c.point-in-Conic-5.ensures ∙ c.index-objects-p6.is
    ∙ get_or_default objects c.in-Conic.p6 c.index-objects-p6.result [] r5.1.0.0 in
    let value : c.six_points-value.result ≡ conic_of (get_or objects c.in-Conic.p1 []) (get_or objects c.in-Conic.p2 [])
    (get_or objects c.in-Conic.p3 []) (get_or objects c.in-Conic.p4 []) (get_or objects c.in-Conic.p5 [])
    (get_or objects c.in-Conic.p6 []) =
    c.six_points-value.ensures
    ∙ ap (λ p. conic_of p c.point-in-Conic.result c.point-in-Conic-2.result c.point-in-Conic-3.result
    c.point-in-Conic-4.result c.point-in-Conic-5.result) e1
    ∙ ap (λ p. conic_of (get_or objects c.in-Conic.p1 []) p c.point-in-Conic-2.result c.point-in-Conic-3.result
    c.point-in-Conic-4.result c.point-in-Conic-5.result) e2
    ∙ ap (λ p. conic_of (get_or objects c.in-Conic.p1 [])
    (get_or objects c.in-Conic.p2 []) p c.point-in-Conic-3.result c.point-in-Conic-4.result
    c.point-in-Conic-5.result) e3
    ∙ ap (λ p. conic_of (get_or objects c.in-Conic.p1 []) (get_or objects c.in-Conic.p2 [])
    (get_or objects c.in-Conic.p3 []) p c.point-in-Conic-4.result c.point-in-Conic-5.result) e4
    ∙ ap (λ p. conic_of (get_or objects c.in-Conic.p1 []) (get_or objects c.in-Conic.p2 [])
    (get_or objects c.in-Conic.p3 []) (get_or objects c.in-Conic.p4 []) p c.point-in-Conic-5.result) e5
    ∙ ap (λ p. conic_of (get_or objects c.in-Conic.p1 []) (get_or objects c.in-Conic.p2 [])
    (get_or objects c.in-Conic.p3 []) (get_or objects c.in-Conic.p4 []) (get_or objects c.in-Conic.p5 []) p) e6 in
    subst (λ (xs : List (Option ℤ)). IfOk c.single.result (λ made. AreNumbers xs (option_map (λ v. v.items) made)))
    (ap (λ (z : Option ℤ). z ∷ []) value
    ∙ conic_is d steps objects figures m points params c.in-Conic.p1 c.in-Conic.p2 c.in-Conic.p3 c.in-Conic.p4
    c.in-Conic.p5 c.in-Conic.p6 ready
    ∙ ap (made_of d steps objects figures m points params) (sym c.in-Conic.is))
    c.single.ensures
