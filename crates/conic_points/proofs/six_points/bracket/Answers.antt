use Rattle.std.proofs.Common.{rules, subst, sym, lit≤, ◌+◌, ◌≤◌, [], ◌∷◌, List, ℕ}
use Rattle.bracket_poly.specs.Answers.{Answers}
use Rattle.bracket_poly.proofs.Makings.{if_made}
use Rattle.conic_points.specs.Makings.{made_bracket}
use Rattle.conic_points.specs.Points.{values_of}
use Rattle.conic_points.proofs.Degrees.{bracket_degree}
use Rattle.conic_points.proofs.Sixes.{three_is_rank, none_behind}
use Rattle.conic_points.proofs.six_points.bracket.Goals as goal

pub of_three-requires : goal.of_three-requires
of_three-requires g c = (
  search rules,
  (
    search rules,
    (
      search rules,
      (
        three_is_rank g.row.D c.requires.rank,
        (subst (λ (d : ℕ). 0 + 3 ≤ d) (sym c.requires.rank) (lit≤ tt), c.requires.points),
      ),
    ),
  ),
)

pub returns-clause-made : goal.returns-clause-made
returns-clause-made g c =
    subst (λ (behind : List ℕ). Answers (λ poly. poly.tracked) c.of_three.result
    (made_bracket [] (values_of (c.args.first.now ∷ c.args.second.now ∷ c.args.third.now ∷ [])) behind))
    (none_behind g.row.D c.requires.rank) c.of_three.ensures

pub returns-clause-degree : goal.returns-clause-degree
returns-clause-degree g c =
    if_made _ _ c.of_three.result _ (returns-clause-made g c)
    (λ poly e. bracket_degree c.args.first.now c.args.second.now c.args.third.now poly.tracked c.requires.points e)
