use Rattle.std.proofs.Common.{rules, sym, ap, ◌∙◌, ◌≡◌, Some, slice_get, ℤ, ◌+ℤ◌}
use mir.Syntax.{w128}
use mir.Val.{SFits, to_z, of_z}
use Rattle.std.proofs.lemmas.Int.{to_z-of_z}
use Rattle.coordinate_model.specs.Sums.{Terms, coefficient, is_zero}
use Rattle.coordinate_model.specs.Key.{Key}
use Rattle.bracket_poly.specs.Arena.{key_of, seen}
use Rattle.bracket_poly.specs.Kept.{TrackedOf}
use Rattle.bracket_poly.specs.Tracked.{fits, limit_at, plus_term}
use Rattle.bracket_poly.proofs.TrackedLaws.{no_limit}
use Rattle.bracket_poly.proofs.ArenaSteps.{keys, entry_key, its_coefficient, may_at, after_at, formed_at, store_at, sum_limit}
use Rattle.bracket_poly.proofs.arena_adding.ArenaTable+D.add_at.Goals as goal

pub returns-in_default-sum_within-clause-answer : goal.returns-in_default-sum_within-clause-answer
returns-in_default-sum_within-clause-answer g c =
    let k : Key = key_of c.args.params.now c.args.rows.now in
    let entries : Terms Key = c.self.inside.met.entries in
    let old : ℤ = c.in-Some.old.now in
    let old_fits : SFits w128 old = search rules in
    let there : slice_get (keys entries) c.args.place ≡ Some k =
    ap (λ (p : TrackedOf g.row.D). slice_get p.tracked.met c.args.place) c.self.view_is ∙ c.requires.there in
    let was = its_coefficient g.row.D entries c.self.inside.formed c.args.place k _ old c.args.c there (sym c.in-Some.ensures.entry) in
    ap (λ (p : TrackedOf g.row.D). limit_at p.tracked (k, c.args.c)) (sym c.self.view_is)
    ∙ sum_limit (seen entries) k c.args.c c.requires.small
    (ap (λ z. fits (z +ℤ c.args.c)) was
    ∙ ap (λ z. fits (z +ℤ c.args.c)) (sym (to_z-of_z w128 _ old_fits))
    ∙ ap (λ z. fits (to_z w128 (of_z w128 old) +ℤ z)) (sym (to_z-of_z w128 _ c.ranges.c))
    ∙ c.in_default-sum_within.ensures)

pub invariant_of-self-inside : goal.invariant_of-self-inside
invariant_of-self-inside g c =
    let k : Key = key_of c.args.params.now c.args.rows.now in
    let entries : Terms Key = c.self.inside.met.entries in
    let old : ℤ = c.in-Some.old.now in
    let old_fits : SFits w128 old = search rules in
    let sum_fits : SFits w128 c.in-Some-sum_within.sum = search rules in
    let there : slice_get (keys entries) c.args.place ≡ Some k =
    ap (λ (p : TrackedOf g.row.D). slice_get p.tracked.met c.args.place) c.self.view_is ∙ c.requires.there in
    let sum : to_z w128 (of_z w128 c.in-Some-sum_within.sum) ≡ old +ℤ c.args.c =
    to_z-of_z w128 _ sum_fits ∙ c.in-Some-sum_within.ensures.0 ∙ ap (λ z. z +ℤ to_z w128 (of_z w128 c.args.c)) (to_z-of_z w128 _ old_fits)
    ∙ ap (λ z. old +ℤ z) (to_z-of_z w128 _ c.ranges.c) in (
      formed_at g.row.D entries c.self.inside.formed c.args.place k _ old c.args.c there (sym c.in-Some.ensures.entry)
          (to_z w128 (of_z w128 c.in-Some-sum_within.sum)) sum c.requires.not_zero c.requires.small
          (ap fits (to_z-of_z w128 _ sum_fits) ∙ c.in-Some-sum_within.ensures.1) _ c.set_at.ensures c.requires.key,
      tt,
    )

pub invariant_of-self : goal.invariant_of-self
invariant_of-self g c =
    let k : Key = key_of c.args.params.now c.args.rows.now in
    let entries : Terms Key = c.self.inside.met.entries in
    let there : slice_get (keys entries) c.args.place ≡ Some k =
    ap (λ (p : TrackedOf g.row.D). slice_get p.tracked.met c.args.place) c.self.view_is ∙ c.requires.there in
    store_at g.row.D entries c.self.inside.formed c.args.place k _ c.in-Some.old.now c.args.c there (sym c.in-Some.ensures.entry)
    c.self.inside.store _ (to_z w128 (of_z w128 c.in-Some-sum_within.sum)) c.set_at.ensures c.self.invariant

pub returns-clause-answer : goal.returns-clause-answer
returns-clause-answer g c =
    let k : Key = key_of c.args.params.now c.args.rows.now in
    let entries : Terms Key = c.self.inside.met.entries in
    let old : ℤ = c.in-Some.old.now in
    let old_fits : SFits w128 old = search rules in
    let sum_fits : SFits w128 c.in-Some-sum_within.sum = search rules in
    let there : slice_get (keys entries) c.args.place ≡ Some k =
    ap (λ (p : TrackedOf g.row.D). slice_get p.tracked.met c.args.place) c.self.view_is ∙ c.requires.there in
    let sum : to_z w128 (of_z w128 c.in-Some-sum_within.sum) ≡ old +ℤ c.args.c =
    to_z-of_z w128 _ sum_fits ∙ c.in-Some-sum_within.ensures.0 ∙ ap (λ z. z +ℤ to_z w128 (of_z w128 c.args.c)) (to_z-of_z w128 _ old_fits)
    ∙ ap (λ z. old +ℤ z) (to_z-of_z w128 _ c.ranges.c) in
    ap (λ (p : TrackedOf g.row.D). limit_at p.tracked (k, c.args.c)) (sym c.self.view_is)
    ∙ no_limit (seen entries) (k, c.args.c)
    (may_at g.row.D entries c.self.inside.formed c.args.place k _ old c.args.c there (sym c.in-Some.ensures.entry)
    (to_z w128 (of_z w128 c.in-Some-sum_within.sum)) sum c.requires.not_zero c.requires.small
    (ap fits (to_z-of_z w128 _ sum_fits) ∙ c.in-Some-sum_within.ensures.1))

pub returns-clause-added : goal.returns-clause-added
returns-clause-added g c =
    let k : Key = key_of c.args.params.now c.args.rows.now in
    let entries : Terms Key = c.self.inside.met.entries in
    let old : ℤ = c.in-Some.old.now in
    let old_fits : SFits w128 old = search rules in
    let sum_fits : SFits w128 c.in-Some-sum_within.sum = search rules in
    let there : slice_get (keys entries) c.args.place ≡ Some k =
    ap (λ (p : TrackedOf g.row.D). slice_get p.tracked.met c.args.place) c.self.view_is ∙ c.requires.there in
    let sum : to_z w128 (of_z w128 c.in-Some-sum_within.sum) ≡ old +ℤ c.args.c =
    to_z-of_z w128 _ sum_fits ∙ c.in-Some-sum_within.ensures.0 ∙ ap (λ z. z +ℤ to_z w128 (of_z w128 c.args.c)) (to_z-of_z w128 _ old_fits)
    ∙ ap (λ z. old +ℤ z) (to_z-of_z w128 _ c.ranges.c) in
    after_at g.row.D entries c.self.inside.formed c.args.place k _ old c.args.c there (sym c.in-Some.ensures.entry)
    (to_z w128 (of_z w128 c.in-Some-sum_within.sum)) sum c.requires.not_zero c.requires.small
    (ap fits (to_z-of_z w128 _ sum_fits) ∙ c.in-Some-sum_within.ensures.1) _ c.set_at.ensures
    ∙ ap (λ (p : TrackedOf g.row.D). plus_term p.tracked (k, c.args.c)) c.self.view_is

pub returns-clause-fresh : goal.returns-clause-fresh
returns-clause-fresh g c =
    let k : Key = key_of c.args.params.now c.args.rows.now in
    let entries : Terms Key = c.self.inside.met.entries in
    let old : ℤ = c.in-Some.old.now in
    let old_fits : SFits w128 old = search rules in
    let there : slice_get (keys entries) c.args.place ≡ Some k =
    ap (λ (p : TrackedOf g.row.D). slice_get p.tracked.met c.args.place) c.self.view_is ∙ c.requires.there in
    c.is_zero.ensures ∙ ap is_zero (to_z-of_z w128 _ old_fits)
    ∙ ap is_zero (sym (its_coefficient g.row.D entries c.self.inside.formed c.args.place k _ old c.args.c there (sym c.in-Some.ensures.entry))
    ∙ ap (λ (p : TrackedOf g.row.D). coefficient p.tracked.sum k) c.self.view_is)

pub returns-clause-placed : goal.returns-clause-placed
returns-clause-placed g c =
    let k : Key = key_of c.args.params.now c.args.rows.now in
    let entries : Terms Key = c.self.inside.met.entries in
    let there : slice_get (keys entries) c.args.place ≡ Some k =
    ap (λ (p : TrackedOf g.row.D). slice_get p.tracked.met c.args.place) c.self.view_is ∙ c.requires.there in
    c.rows-view.ensures
    ∙ ap (λ (l : Key). l.rows) (entry_key entries c.args.place k _ c.in-Some.old.now there (sym c.in-Some.ensures.entry))
