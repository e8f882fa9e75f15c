use Rattle.std.proofs.Common.{rules, sym, ap, subst, ◌∙◌}
use Rattle.std.specs.Prelude.{T}
use mir.Syntax.{w128}
use Rattle.std.proofs.lemmas.Int.{to_z-of_z}
use Rattle.coordinate_model.specs.Key.{Key, IsKey}
use Rattle.bracket_poly.specs.Tracked.{fits, has_met}
use Rattle.bracket_poly.proofs.arena_adding.ArenaTable+D.add_new.Goals as goal

pub add_placed-requires : goal.add_placed-requires
add_placed-requires g c = (
  search rules,
  (
    search rules,
    (
      search rules,
      (
        subst (λ (k : Key). IsKey g.row.D 64 k) (sym c.in-Ok.ensures) c.requires.key,
        (
          ap (λ k. has_met c.args.self.now.tracked.met k) c.in-Ok.ensures ∙ c.requires.new,
          (
            λ h. c.requires.not_zero (sym (to_z-of_z w128 _ c.ranges.c) ∙ h),
            subst T (sym (ap fits (to_z-of_z w128 _ c.ranges.c))) c.requires.small,
          ),
        ),
      ),
    ),
  ),
)
