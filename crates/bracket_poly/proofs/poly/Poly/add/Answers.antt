use Rattle.std.proofs.Common.{rules, arith, sym, ap, ◌∙◌, ◌≡◌, refl, inl, inr, ◌<◌, length}
use Rattle.std.specs.Prelude.{true}
use mir.Syntax.{w128}
use mir.Val.{SFits, to_z, of_z}
use Rattle.std.proofs.lemmas.Int.{to_z-of_z}
use Rattle.indexmap.specs.IndexSet.{spare}
use Rattle.coordinate_model.specs.Sums.{coefficient}
use Rattle.bracket_poly.specs.Tracked.{meet_key, has_met, met_limit}
use Rattle.bracket_poly.specs.Kept.{TrackedOf, same_tracked}
use Rattle.bracket_poly.specs.Entries.{with_coefficient}
use Rattle.bracket_poly.proofs.TrackedLaws.{MayAdd, may_add, no_limit, kept_after, same_after, seen_terms, seen_met}
use Rattle.bracket_poly.proofs.TrackedLaws.{still_kept, kept_either, from_ok, passed_sum, same_lists, met_already}
use Rattle.bracket_poly.proofs.poly.Poly.add.Goals as goal

pub invariant_of-self-inside : goal.invariant_of-self-inside
invariant_of-self-inside g c =
    let v : TrackedOf g.row.D = c.args.self.now in
    let e = seen_terms _ _ _ c.self.inside.kept v c.self.view_is in
    let m = seen_met _ _ _ c.self.inside.kept v c.self.view_is in
    let is_met : has_met v.tracked.met c.args.key ≡ true = sym c.has_met-is_met.ensures ∙ c.if-is_met.true in
    let fits_sum : SFits w128 c.in-Some.sum = search rules in
    let s = passed_sum _ c.args.c c.in-Some.sum (coefficient v.tracked.sum c.args.key) (record { sfits = c.known_coefficient.type_inv })
    c.ranges.c c.in-Some.ensures.0 c.known_coefficient.ensures in
    let may : MayAdd v.tracked (c.args.key, c.args.c) =
    may_add v.tracked c.args.key c.args.c _ c.requires.not_zero c.requires.small c.in-Some.ensures.1 s (inl is_met) in
    let after = kept_after _ v c.args.key c.args.c _ c.keys.ensures may (to_z-of_z w128 _ fits_sum ∙ s) in (
      kept_either c.write_term.result _ _ _ _ _ c.write_term.ensures.written c.write_term.ensures.unchanged
          (λ f. after _ _ (f ∙ ap (with_coefficient c.args.key _) e) (m ∙ met_already _ _ is_met))
          (λ f. still_kept _ v _ _ (f ∙ e) m),
      tt,
    )

pub returns-in_default-write_term-clause-unchanged : goal.returns-in_default-write_term-clause-unchanged
returns-in_default-write_term-clause-unchanged g c =
    same_tracked g.row.D _ _ (same_lists _ _ c.in_default-write_term.ensures.unchanged refl) ∙ c.self.view_is

pub returns-then-is_met-clause-added : goal.returns-then-is_met-clause-added
returns-then-is_met-clause-added g c =
    let v : TrackedOf g.row.D = c.args.self.now in
    let e = seen_terms _ _ _ c.self.inside.kept v c.self.view_is in
    let m = seen_met _ _ _ c.self.inside.kept v c.self.view_is in
    let is_met : has_met v.tracked.met c.args.key ≡ true = sym c.has_met-is_met.ensures ∙ c.if-is_met.true in
    let fits_sum : SFits w128 c.in-Some.sum = search rules in
    let s = passed_sum _ c.args.c c.in-Some.sum (coefficient v.tracked.sum c.args.key) (record { sfits = c.known_coefficient.type_inv })
    c.ranges.c c.in-Some.ensures.0 c.known_coefficient.ensures in
    let may : MayAdd v.tracked (c.args.key, c.args.c) =
    may_add v.tracked c.args.key c.args.c _ c.requires.not_zero c.requires.small c.in-Some.ensures.1 s (inl is_met) in
    same_after _ v c.args.key c.args.c _ c.keys.ensures may (to_z-of_z w128 _ fits_sum ∙ s) _
    (c.in-Ok.ensures.written ∙ ap (with_coefficient c.args.key _) e) (m ∙ met_already _ _ is_met)

pub returns-in_default-reserve-clause-unchanged : goal.returns-in_default-reserve-clause-unchanged
returns-in_default-reserve-clause-unchanged g c =
    same_tracked g.row.D _ _ (same_lists _ _ refl c.in_default-reserve.ensures.keys) ∙ c.self.view_is

pub returns-in_default-write_term-2-clause-unchanged : goal.returns-in_default-write_term-2-clause-unchanged
returns-in_default-write_term-2-clause-unchanged g c =
    same_tracked g.row.D _ _
    (same_lists _ _ c.in_default-write_term-2.ensures.unchanged c.in-Ok-reserve.ensures.keys) ∙ c.self.view_is

pub invariant_of-self-inside-2 : goal.invariant_of-self-inside-2
invariant_of-self-inside-2 g c =
    let v : TrackedOf g.row.D = c.args.self.now in
    let e = seen_terms _ _ _ c.self.inside.kept v c.self.view_is in
    let m = seen_met _ _ _ c.self.inside.kept v c.self.view_is in
    let room : length v.tracked.met < met_limit = omega (arith, ap length m) in
    let fits_sum : SFits w128 c.in-Some.sum = search rules in
    let s = passed_sum _ c.args.c c.in-Some.sum (coefficient v.tracked.sum c.args.key) (record { sfits = c.known_coefficient.type_inv })
    c.ranges.c c.in-Some.ensures.0 c.known_coefficient.ensures in
    let may : MayAdd v.tracked (c.args.key, c.args.c) =
    may_add v.tracked c.args.key c.args.c _ c.requires.not_zero c.requires.small c.in-Some.ensures.1 s (inr room) in
    let after = kept_after _ v c.args.key c.args.c _ c.keys.ensures may (to_z-of_z w128 _ fits_sum ∙ s) in
    let spare_one : 0 < spare c.reserve.new.self = c.in-Ok-reserve.ensures.ok in (
      after _ _
          (c.in-Ok-write_term.ensures.written ∙ ap (λ k. with_coefficient k (to_z w128 (of_z w128 c.in-Some.sum)) c.self.inside.terms.entries) c.in-Ok-copy.ensures
          ∙ ap (with_coefficient c.args.key _) e)
          (from_ok c.insert.result _ (c.insert.ensures.succeeds spare_one) c.insert.ensures.keys
          ∙ ap (λ ks. meet_key ks c.args.key) (c.in-Ok-reserve.ensures.keys ∙ m)),
      tt,
    )

pub returns-clause-answer : goal.returns-clause-answer
returns-clause-answer g c =
    let v : TrackedOf g.row.D = c.args.self.now in
    let m = seen_met _ _ _ c.self.inside.kept v c.self.view_is in
    let room : length v.tracked.met < met_limit = omega (arith, ap length m) in
    let s = passed_sum _ c.args.c c.in-Some.sum (coefficient v.tracked.sum c.args.key) (record { sfits = c.known_coefficient.type_inv })
    c.ranges.c c.in-Some.ensures.0 c.known_coefficient.ensures in
    no_limit v.tracked (c.args.key, c.args.c)
    (may_add v.tracked c.args.key c.args.c _ c.requires.not_zero c.requires.small c.in-Some.ensures.1 s (inr room))

pub returns-clause-added : goal.returns-clause-added
returns-clause-added g c =
    let v : TrackedOf g.row.D = c.args.self.now in
    let e = seen_terms _ _ _ c.self.inside.kept v c.self.view_is in
    let m = seen_met _ _ _ c.self.inside.kept v c.self.view_is in
    let room : length v.tracked.met < met_limit = omega (arith, ap length m) in
    let fits_sum : SFits w128 c.in-Some.sum = search rules in
    let s = passed_sum _ c.args.c c.in-Some.sum (coefficient v.tracked.sum c.args.key) (record { sfits = c.known_coefficient.type_inv })
    c.ranges.c c.in-Some.ensures.0 c.known_coefficient.ensures in
    let may : MayAdd v.tracked (c.args.key, c.args.c) =
    may_add v.tracked c.args.key c.args.c _ c.requires.not_zero c.requires.small c.in-Some.ensures.1 s (inr room) in
    let spare_one : 0 < spare c.reserve.new.self = c.in-Ok-reserve.ensures.ok in
    same_after _ v c.args.key c.args.c _ c.keys.ensures may (to_z-of_z w128 _ fits_sum ∙ s) _
    (c.in-Ok-write_term.ensures.written ∙ ap (λ k. with_coefficient k (to_z w128 (of_z w128 c.in-Some.sum)) c.self.inside.terms.entries) c.in-Ok-copy.ensures
    ∙ ap (with_coefficient c.args.key _) e)
    (from_ok c.insert.result _ (c.insert.ensures.succeeds spare_one) c.insert.ensures.keys
    ∙ ap (λ ks. meet_key ks c.args.key) (c.in-Ok-reserve.ensures.keys ∙ m))
