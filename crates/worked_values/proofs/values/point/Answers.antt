use Rattle.std.proofs.Common.{rules, refl, [], ◌∷◌, ◌++◌, ◌∙◌, ◌≤◌, ap, List, arith, lit≤}
use Rattle.bracket_terms.specs.declared.extensor.Extensor.{Extensor}
use Rattle.bracket_poly.specs.Kept.{TrackedOf}
use Rattle.worked_values.proofs.Scaled.{numbers_small, point_value, point_within}
use Rattle.worked_values.proofs.values.point.Goals as goal

pub invariant_of-result : goal.invariant_of-result
invariant_of-result g c =
    let entry : Extensor × TrackedOf g.row.D = (c.of_point-extensor.result, c.in_ok-number.number) in
    record {
      formed =
          point_value c.of_point-extensor.result c.in_ok-number.number c.of.result
          (c.of.ensures ∙ c.in_ok-push.ensures.items
          ∙ ap (λ (es : List (Extensor × TrackedOf g.row.D)). es ++ entry ∷ []) c.new-entries.ensures.items)
          c.in_ok-number.ensures c.requires.rank c.of_point-extensor.ensures.size;
    }

pub returns : goal.returns
returns g c =
    let entry : Extensor × TrackedOf g.row.D = (c.of_point-extensor.result, c.in_ok-number.number) in
    let low : 2 ≤ g.row.D = c.requires.rank.0 in
    let within =
    point_within c.of_point-extensor.result c.in_ok-number.number c.of.result
    (c.of.ensures ∙ c.in_ok-push.ensures.items
    ∙ ap (λ (es : List (Extensor × TrackedOf g.row.D)). es ++ entry ∷ []) c.new-entries.ensures.items)
    c.in_ok-number.ensures c.args.i c.of_point-extensor.ensures.points (search rules) in
    let small = numbers_small c.of.result within in
    record {
      scaled = record { least = lit≤ tt; below = omega arith; numbers = within };
      of_step = refl;
      small = small;
      point = record { one = refl; small = small };
    }
