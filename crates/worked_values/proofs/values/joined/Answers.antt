use Rattle.std.proofs.Common.{rules, ◌+◌, ◌<◌, arith}
use Rattle.worked_values.proofs.Scaled.{are_joined, numbers_fit, scaled_join}
use Rattle.worked_values.proofs.values.joined.Goals as goal

pub join-requires : goal.join-requires
join-requires g c =
    let a = c.args.a.now in
    let b = c.args.b.now in
    let few : a.step + b.step < g.row.D = c.requires.few in (
      search rules,
      (
        c.requires.rank,
        (
          are_joined a b c.requires.first c.requires.second (omega arith),
          numbers_fit a b c.requires.first c.requires.second,
        ),
      ),
    )

pub returns : goal.returns
returns g c =
    scaled_join c.args.a.now c.args.b.now c.requires.first c.requires.second c.in_ok-join.field-0 c.requires.few
    c.in_ok-join.ensures.step c.in_ok-join.ensures.sizes
