use Rattle.std.proofs.Common.{◌∙◌, ap, ap₂, Some, rules, true}
use Rattle.std.proofs.lemmas.Int.{to_z-of_z}
use mir.Syntax.{w128}
use mir.Val.{SFits}
use Rattle.coordinate_model.specs.Limited.{limited_sum, limited_negative, signed_number}
use Rattle.placement.proofs.total.six_points.Goals as goal

pub returns : goal.returns
returns c =
    let first : SFits w128 c.in_ok-first.first = search rules in
    let second : SFits w128 c.in_ok-second.second = search rules in
    let negated : SFits w128 c.signed.result = search rules in
    c.limited_sum.ensures.sum
    ∙ ap₂ (λ x y. limited_sum (Some x) (Some y)) (to_z-of_z w128 c.in_ok-first.first first)
    (to_z-of_z w128 c.signed.result negated ∙ c.signed.ensures
    ∙ ap (signed_number true) (to_z-of_z w128 c.in_ok-second.second second))
    ∙ ap₂ (λ x y. limited_sum x (limited_negative y)) c.in_ok-first.ensures.value c.in_ok-second.ensures.value
