use Rattle.std.proofs.Common.{rules}
use Rattle.worked_values.proofs.Scaled.{are_joined, numbers_fit}
use Rattle.worked_values.proofs.values.put_join.Goals as goal

pub join-requires : goal.join-requires
join-requires g c =
    let a = c.args.a.now in
    let b = c.args.b.now in (
      search rules,
      (
        c.requires.rank,
        (
          are_joined a b c.requires.first c.requires.second c.requires.few,
          numbers_fit a b c.requires.first c.requires.second,
        ),
      ),
    )
