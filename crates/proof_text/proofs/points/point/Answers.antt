use Rattle.std.proofs.Common.{arith}
use Rattle.construction_reader.specs.Words.{◌is◌}
use Rattle.construction_reader.proofs.Places.{position_in}
use Rattle.proof_text.proofs.points.point.Goals as goal

pub overflow_cast-result : goal.overflow_cast-result
overflow_cast-result c =
    omega (arith, c.place_or_len.ensures, position_in (λ other. other is c.args.word.now) c.args.names.now, c.requires)
