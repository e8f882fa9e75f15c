use Rattle.std.proofs.Common.{rules}
use Rattle.worked_values.proofs.Scaled.{are_met, numbers_fit}
use Rattle.worked_values.proofs.values.put_meet.Goals as goal

pub meet-requires : goal.meet-requires
meet-requires g c =
    let a = c.args.a.now in
    let b = c.args.b.now in (
      search rules,
      (
        c.requires.rank,
        (
          are_met a b c.requires.first c.requires.second c.requires.many,
          numbers_fit a b c.requires.first c.requires.second,
        ),
      ),
    )
