use Rattle.std.proofs.Common.{rules, ◌≡◌, ◌∙◌, ℕ, List, length, subst, sym}
use Rattle.std.specs.List.{AllByRecursion}
use Rattle.bracket_poly.specs.declared.value.Value.{Value}
use Rattle.conic_points.specs.Points.{IsSmall, values_of}
use Rattle.log_checker.specs.Seen.{steps_in}
use Rattle.log_checker.proofs.SixValues.{as_many, copies_are_points, copies_are_small}
use Rattle.log_checker.proofs.starts.conic_starts.Goals as goal

pub conic-requires : goal.conic-requires
conic-requires g c =
    let numbers : List ℕ = c.args.numbers.now in
    let values : List (Value g.row.D) = c.args.values.now in
    let six : List (Value g.row.D) = c.in_ok-six.six.items in
    let same : six ≡ c.deref.result.now = sym c.deref.ensures.value in (
      search rules,
      (
        search rules,
        (
          c.requires.points.rank,
          (
            subst (λ (vs : List (Value g.row.D)). length vs ≡ 6) same
                (as_many (steps_in values) six numbers c.in_ok-six.ensures.steps ∙ c.requires.six),
            (
              subst (λ (vs : List (Value g.row.D)). AllByRecursion (λ v. v.step ≡ 1) vs) same
                  (copies_are_points (steps_in values) six numbers c.in_ok-six.ensures.steps c.requires.points.points),
              subst (λ (vs : List (Value g.row.D)). AllByRecursion (λ v. AllByRecursion IsSmall v.entries) vs) same
                  (copies_are_small (values_of values) six numbers c.in_ok-six.ensures.entries c.requires.small),
            ),
          ),
        ),
      ),
    )
