use Rattle.std.proofs.Common.{rules, lit<}
use Rattle.worked_values.proofs.Scaled.{parameter_fits_number}
use Rattle.worked_values.proofs.values.put_on.Goals as goal

pub on-requires : goal.on-requires
on-requires g c =
    let a = c.args.a.now in
    let b = c.args.b.now in (
      search rules,
      (
        c.requires.rank,
        (
          record { first = c.requires.one; second = c.requires.other },
          (
            lit< tt,
            (
              c.requires.few,
              (
                parameter_fits_number 0 a c.requires.first,
                parameter_fits_number c.args.t b c.requires.second,
              ),
            ),
          ),
        ),
      ),
    )
