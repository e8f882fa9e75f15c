use Rattle.std.proofs.Common.{◌≡◌, rules, sym, ap, subst, ◌∙◌}
use Rattle.std.specs.Prelude.{true, T}
use mir.Syntax.{w128}
use Rattle.std.proofs.lemmas.Int.{to_z-of_z}
use Rattle.coordinate_model.specs.Key.{Key, IsKey}
use Rattle.bracket_poly.specs.Arena.{key_of}
use Rattle.bracket_poly.specs.Kept.{TrackedOf}
use Rattle.bracket_poly.specs.Tracked.{fits, has_met}
use Rattle.bracket_poly.proofs.ArenaOrder.{all_after_new}
use Rattle.bracket_poly.proofs.KeyParts.{same_parts}
use Rattle.bracket_poly.proofs.arena_poly.ArenaPoly+D.add_new.Goals as goal

pub add_placed-requires : goal.add_placed-requires
add_placed-requires g c = (
  search rules,
  (
    search rules,
    (
      search rules,
      (
        subst (λ (k : Key). IsKey g.row.D 64 k) (sym c.in-Ok.ensures) c.requires.key,
        (
          ap (λ k. has_met c.self.inside.table.tracked.met k) c.in-Ok.ensures
              ∙ ap (λ (p : TrackedOf g.row.D). has_met p.tracked.met (key_of c.args.params.now c.args.rows.now)) c.self.view_is
              ∙ c.requires.new,
          (
            λ h. c.requires.not_zero (sym (to_z-of_z w128 _ c.ranges.c) ∙ h),
            subst T (sym (ap fits (to_z-of_z w128 _ c.ranges.c))) c.requires.small,
          ),
        ),
      ),
    ),
  ),
)

pub invariant_of-self : goal.invariant_of-self
invariant_of-self g c = λ q m. c.in_default-insert.ensures.others q (c.self.invariant q m)

pub invariant_of-self-2 : goal.invariant_of-self-2
invariant_of-self-2 g c =
    all_after_new c.add_placed.result c.self.inside.table c.add_placed.new.self _ _ c.self.inside.order c.self.invariant
    c.add_placed.ensures.added c.add_placed.ensures.unchanged c.insert.new.self c.in-Ok-insert.ensures.others
    (subst (λ (k : Key). has_met c.insert.new.self k ≡ true)
    (c.of.ensures ∙ same_parts _ c.in-Ok.key c.params.ensures c.rows.ensures) c.in-Ok-insert.ensures.there)
