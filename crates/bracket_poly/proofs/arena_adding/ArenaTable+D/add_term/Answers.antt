use Rattle.std.proofs.Common.{rules, sym, ap, subst, ◌∙◌}
use Rattle.std.specs.Prelude.{T}
use mir.Syntax.{w128}
use Rattle.std.proofs.lemmas.Int.{to_z-of_z}
use Rattle.bracket_poly.specs.Tracked.{fits}
use Rattle.bracket_poly.proofs.arena_adding.ArenaTable+D.add_term.Goals as goal

pub add_at-requires : goal.add_at-requires
add_at-requires g c = (
  search rules,
  (
    search rules,
    (
      c.parts.ensures,
      (
        c.in-Some.ensures.there,
        (
          λ h. c.requires.not_zero (sym (to_z-of_z w128 _ c.ranges.c) ∙ h),
          subst T (sym (ap fits (to_z-of_z w128 _ c.ranges.c))) c.requires.small,
        ),
      ),
    ),
  ),
)

pub add_new-requires : goal.add_new-requires
add_new-requires g c = (
  search rules,
  (
    search rules,
    (
      c.parts.ensures,
      (
        c.in-None.ensures.none,
        (
          λ h. c.requires.not_zero (sym (to_z-of_z w128 _ c.ranges.c) ∙ h),
          subst T (sym (ap fits (to_z-of_z w128 _ c.ranges.c))) c.requires.small,
        ),
      ),
    ),
  ),
)
