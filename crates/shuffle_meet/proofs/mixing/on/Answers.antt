use Rattle.std.proofs.Common.{rules, ◌∙◌, refl}
use Rattle.std.specs.Prelude.{⊤}
use Rattle.shuffle_meet.specs.Objects.{mixed}
use Rattle.shuffle_meet.proofs.Answered.{if_ok, handed_back, answer_entries, limits_answered, error_answered, is_mixed}
use Rattle.shuffle_meet.proofs.MixSteps.{point_sizes, factors_fit, mixed_added, first_stopped, second_stopped}
use Rattle.shuffle_meet.proofs.ObjectSizes.{mix_sizes}
use Rattle.shuffle_meet.proofs.mixing.on.Goals as goal

pub add_scaled-requires : goal.add_scaled-requires
add_scaled-requires g c = (
  search rules,
  (
    search rules,
    (
      point_sizes g.row.D c.args.a.now c.items.result.now c.items.ensures c.new-starts.result.step c.requires.steps.first
          c.new-starts.ensures.step,
      factors_fit g.row.D c.args.a.now c.items.result.now c.items.ensures c.args.s c.in_ok-first.first.tracked.sum
          c.in_ok-first.ensures.parameter c.requires.first_exponents,
    ),
  ),
)

pub returns-in_err-add_scaled-clause-limits : goal.returns-in_err-add_scaled-clause-limits
returns-in_err-add_scaled-clause-limits g c =
    error_answered {Y = ⊤} _ _ (mixed c.args.s c.args.t c.args.a.now c.args.b.now) c.from_residual-in_err-add_scaled.result
    c.in_err-add_scaled.field-0.0 c.new-starts.ensures.none
    (handed_back c.from_residual-in_err-add_scaled.result c.in_err-add_scaled.field-0.0
    c.from_residual-in_err-add_scaled.ensures.1)
    (first_stopped g.row.D c.args.s c.args.t c.args.a.now c.args.b.now c.in_ok-first.first.tracked.sum
    c.in_ok-second.second.tracked.sum c.items.result.now _ c.in_ok-first.ensures.parameter c.in_ok-second.ensures.parameter
    c.items.ensures refl _ _ c.in_err-add_scaled.field-0.0 c.in_err-add_scaled.ensures.added)

pub add_scaled-requires-2 : goal.add_scaled-requires-2
add_scaled-requires-2 g c = (
  search rules,
  (
    search rules,
    (
      point_sizes g.row.D c.args.b.now c.items-2.result.now c.items-2.ensures c.add_scaled.new.starts.step
          c.requires.steps.second (c.add_scaled.ensures.step ∙ c.new-starts.ensures.step),
      factors_fit g.row.D c.args.b.now c.items-2.result.now c.items-2.ensures c.args.t c.in_ok-second.second.tracked.sum
          c.in_ok-second.ensures.parameter c.requires.second_exponents,
    ),
  ),
)

pub returns-in_err-add_scaled-2-clause-limits : goal.returns-in_err-add_scaled-2-clause-limits
returns-in_err-add_scaled-2-clause-limits g c =
    error_answered {Y = ⊤} _ _ (mixed c.args.s c.args.t c.args.a.now c.args.b.now)
    c.from_residual-in_err-add_scaled-2.result c.in_err-add_scaled-2.field-0.0 c.new-starts.ensures.none
    (handed_back c.from_residual-in_err-add_scaled-2.result c.in_err-add_scaled-2.field-0.0
    c.from_residual-in_err-add_scaled-2.ensures.1)
    (second_stopped g.row.D c.args.s c.args.t c.args.a.now c.args.b.now c.in_ok-first.first.tracked.sum
    c.in_ok-second.second.tracked.sum c.items.result.now c.items-2.result.now c.in_ok-first.ensures.parameter
    c.in_ok-second.ensures.parameter c.items.ensures c.items-2.ensures _ _ _ _ c.in_err-add_scaled-2.field-0.0
    c.in_ok-add_scaled.ensures.added c.in_err-add_scaled-2.ensures.added)

pub returns-clause-limits : goal.returns-clause-limits
returns-clause-limits g c =
    limits_answered _ _ (mixed c.args.s c.args.t c.args.a.now c.args.b.now) c.finish.result c.new-starts.ensures.none
    (mixed_added g.row.D c.args.s c.args.t c.args.a.now c.args.b.now c.in_ok-first.first.tracked.sum
    c.in_ok-second.second.tracked.sum c.items.result.now c.items-2.result.now c.in_ok-first.ensures.parameter
    c.in_ok-second.ensures.parameter c.items.ensures c.items-2.ensures _ _ _ _ _ c.in_ok-add_scaled.ensures.added
    c.in_ok-add_scaled-2.ensures.added)
    c.finish.ensures.memory

pub returns-clause-entries : goal.returns-clause-entries
returns-clause-entries g c =
    answer_entries (mixed c.args.s c.args.t c.args.a.now c.args.b.now) _ c.add_scaled-2.new.starts.polys.entries
    c.finish.result c.new-starts.ensures.none
    (mixed_added g.row.D c.args.s c.args.t c.args.a.now c.args.b.now c.in_ok-first.first.tracked.sum
    c.in_ok-second.second.tracked.sum c.items.result.now c.items-2.result.now c.in_ok-first.ensures.parameter
    c.in_ok-second.ensures.parameter c.items.ensures c.items-2.ensures _ _ _ _ _ c.in_ok-add_scaled.ensures.added
    c.in_ok-add_scaled-2.ensures.added)
    c.finish.ensures.entries

pub returns-clause-coordinates : goal.returns-clause-coordinates
returns-clause-coordinates g c =
    if_ok _ _ c.finish.result (returns-clause-entries g c)
    (λ v e. is_mixed g.row.D c.args.s c.args.t c.args.a.now c.args.b.now v c.requires.first_parameter
    c.requires.second_parameter e)

pub returns-clause-sizes : goal.returns-clause-sizes
returns-clause-sizes g c =
    if_ok _ _ c.finish.result (returns-clause-entries g c)
    (λ v e. mix_sizes g.row.D c.args.s c.args.t c.args.a.now c.args.b.now v e)
