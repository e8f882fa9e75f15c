use Rattle.std.proofs.Common.{arith, sym, ap, ◌∙◌, ◌≡◌, length, ◌<◌}
use Rattle.std.specs.Prelude.{false}
use mir.Syntax.{w128}
use mir.Val.{to_z, of_z}
use Rattle.std.proofs.lemmas.Int.{to_z-of_z}
use Rattle.std.proofs.lemmas.List.{length-map}
use Rattle.indexmap.specs.IndexMap.{spare, insert_entry}
use Rattle.coordinate_model.specs.Sums.{Terms, coefficient, is_zero}
use Rattle.coordinate_model.specs.Key.{Key}
use Rattle.term_arena.specs.Stores.{interned}
use Rattle.bracket_poly.specs.Arena.{seen}
use Rattle.bracket_poly.specs.Kept.{TrackedOf, same_tracked}
use Rattle.bracket_poly.specs.Tracked.{has_met, met_limit, limit_at, plus_term}
use Rattle.bracket_poly.proofs.KeyParts.{same_parts}
use Rattle.bracket_poly.proofs.TrackedLaws.{no_limit, from_ok}
use Rattle.bracket_poly.proofs.ArenaLaws.{same}
use Rattle.bracket_poly.proofs.ArenaSteps.{keys, no_coefficient, full_at, may_new, after_new, formed_new, store_new}
use Rattle.bracket_poly.proofs.arena_adding.ArenaTable+D.add_placed.Goals as goal

pub returns-then-len-ge-MET_LIMIT-clause-answer : goal.returns-then-len-ge-MET_LIMIT-clause-answer
returns-then-len-ge-MET_LIMIT-clause-answer g c =
    let k : Key = c.args.key.now in
    let entries : Terms Key = c.self.inside.met.entries in
    let new : has_met (keys entries) k ≡ false =
    ap (λ (p : TrackedOf g.row.D). has_met p.tracked.met k) c.self.view_is ∙ c.requires.new in
    ap (λ (p : TrackedOf g.row.D). limit_at p.tracked (k, c.args.c)) (sym c.self.view_is)
    ∙ full_at g.row.D entries c.self.inside.formed k c.args.c new c.requires.small
    (let n : length (keys entries) ≡ length entries = length-map entries (λ e. e.0) in omega arith)

pub returns-in_default-clause-unchanged : goal.returns-in_default-clause-unchanged
returns-in_default-clause-unchanged g c = same_tracked g.row.D _ _ (ap seen c.in_default.ensures.entries) ∙ c.self.view_is

pub returns-in_default-intern_placed-clause-unchanged : goal.returns-in_default-intern_placed-clause-unchanged
returns-in_default-intern_placed-clause-unchanged g c = same_tracked g.row.D _ _ (ap seen c.in-Ok.ensures.entries) ∙ c.self.view_is

pub invariant_of-self-inside-2 : goal.invariant_of-self-inside-2
invariant_of-self-inside-2 g c =
    let k : Key = c.args.key.now in
    let entries : Terms Key = c.self.inside.met.entries in
    let new : has_met (keys entries) k ≡ false =
    ap (λ (p : TrackedOf g.row.D). has_met p.tracked.met k) c.self.view_is ∙ c.requires.new in
    let key_is : c.of.result ≡ k = c.of.ensures ∙ same_parts _ k c.params.ensures c.rows-2.ensures in
    let spare_one : 0 < spare c.reserve.new.self = c.in-Ok.ensures.ok in
    let more : c.insert.new.self.entries ≡ insert_entry same entries k c.args.c =
    from_ok c.insert.result _ (c.insert.ensures.succeeds spare_one) c.insert.ensures.entries
    ∙ ap (λ es. insert_entry same es c.of.result (to_z w128 (of_z w128 c.args.c))) c.in-Ok.ensures.entries
    ∙ ap (λ l. insert_entry same entries l (to_z w128 (of_z w128 c.args.c))) key_is
    ∙ ap (λ z. insert_entry same entries k z) (to_z-of_z w128 _ c.ranges.c) in
    let n : length (keys entries) ≡ length entries = length-map entries (λ e. e.0) in
    let room : length (keys entries) < met_limit = omega arith in
    (formed_new g.row.D entries c.self.inside.formed k c.args.c new c.requires.not_zero c.requires.small room _ more c.requires.key, tt)

pub invariant_of-self-2 : goal.invariant_of-self-2
invariant_of-self-2 g c =
    let k : Key = c.args.key.now in
    let entries : Terms Key = c.self.inside.met.entries in
    let new : has_met (keys entries) k ≡ false =
    ap (λ (p : TrackedOf g.row.D). has_met p.tracked.met k) c.self.view_is ∙ c.requires.new in
    let key_is : c.of.result ≡ k = c.of.ensures ∙ same_parts _ k c.params.ensures c.rows-2.ensures in
    let spare_one : 0 < spare c.reserve.new.self = c.in-Ok.ensures.ok in
    let more : c.insert.new.self.entries ≡ insert_entry same entries k c.args.c =
    from_ok c.insert.result _ (c.insert.ensures.succeeds spare_one) c.insert.ensures.entries
    ∙ ap (λ es. insert_entry same es c.of.result (to_z w128 (of_z w128 c.args.c))) c.in-Ok.ensures.entries
    ∙ ap (λ l. insert_entry same entries l (to_z w128 (of_z w128 c.args.c))) key_is
    ∙ ap (λ z. insert_entry same entries k z) (to_z-of_z w128 _ c.ranges.c) in
    store_new g.row.D entries c.self.inside.formed k c.args.c new c.self.inside.store c.intern_placed.new.self _ more c.self.invariant
    (c.in-Ok-intern_placed.ensures.list ∙ ap (λ rows. interned c.self.inside.store rows) c.rows.ensures)

pub returns-clause-answer : goal.returns-clause-answer
returns-clause-answer g c =
    let k : Key = c.args.key.now in
    let entries : Terms Key = c.self.inside.met.entries in
    let new : has_met (keys entries) k ≡ false =
    ap (λ (p : TrackedOf g.row.D). has_met p.tracked.met k) c.self.view_is ∙ c.requires.new in
    let n : length (keys entries) ≡ length entries = length-map entries (λ e. e.0) in
    let room : length (keys entries) < met_limit = omega arith in
    ap (λ (p : TrackedOf g.row.D). limit_at p.tracked (k, c.args.c)) (sym c.self.view_is)
    ∙ no_limit (seen entries) (k, c.args.c)
    (may_new g.row.D entries c.self.inside.formed k c.args.c new c.requires.not_zero c.requires.small room)

pub returns-clause-added : goal.returns-clause-added
returns-clause-added g c =
    let k : Key = c.args.key.now in
    let entries : Terms Key = c.self.inside.met.entries in
    let new : has_met (keys entries) k ≡ false =
    ap (λ (p : TrackedOf g.row.D). has_met p.tracked.met k) c.self.view_is ∙ c.requires.new in
    let key_is : c.of.result ≡ k = c.of.ensures ∙ same_parts _ k c.params.ensures c.rows-2.ensures in
    let spare_one : 0 < spare c.reserve.new.self = c.in-Ok.ensures.ok in
    let more : c.insert.new.self.entries ≡ insert_entry same entries k c.args.c =
    from_ok c.insert.result _ (c.insert.ensures.succeeds spare_one) c.insert.ensures.entries
    ∙ ap (λ es. insert_entry same es c.of.result (to_z w128 (of_z w128 c.args.c))) c.in-Ok.ensures.entries
    ∙ ap (λ l. insert_entry same entries l (to_z w128 (of_z w128 c.args.c))) key_is
    ∙ ap (λ z. insert_entry same entries k z) (to_z-of_z w128 _ c.ranges.c) in
    after_new g.row.D entries c.self.inside.formed k c.args.c new _ more
    ∙ ap (λ (p : TrackedOf g.row.D). plus_term p.tracked (k, c.args.c)) c.self.view_is

pub returns-clause-fresh : goal.returns-clause-fresh
returns-clause-fresh g c =
    let k : Key = c.args.key.now in
    let entries : Terms Key = c.self.inside.met.entries in
    let new : has_met (keys entries) k ≡ false =
    ap (λ (p : TrackedOf g.row.D). has_met p.tracked.met k) c.self.view_is ∙ c.requires.new in
    sym (ap is_zero (ap (λ (p : TrackedOf g.row.D). coefficient p.tracked.sum k) (sym c.self.view_is)
    ∙ no_coefficient g.row.D entries c.self.inside.formed k c.args.c new))
