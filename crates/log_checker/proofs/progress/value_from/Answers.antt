use Rattle.std.proofs.Common.{rules}
use Rattle.log_checker.specs.Claims.{claims_of}
use Rattle.log_checker.proofs.Paired.{scalars_kept}
use Rattle.log_checker.proofs.progress.value_from.Goals as goal

pub ended_value-requires : goal.ended_value-requires
ended_value-requires g c = (
  search rules,
  (
    search rules,
    (
      c.requires.rank,
      (
        scalars_kept c.args.step c.args.starts.now (claims_of c.args.sections.now) c.requires.formed
            c.in_ok-check_object.ensures.accepted,
        c.requires.checkable,
      ),
    ),
  ),
)
