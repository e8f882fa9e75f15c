use Rattle.std.proofs.Common.{length, ap, ◌∙◌}
use Rattle.std.specs.Option.{unwrap_or}
use Rattle.construction_reader.specs.Words.{◌is◌}
use Rattle.construction_reader.proofs.Places.{unwrap_position}
use Rattle.proof_text.proofs.points.place_or_len.Goals as goal

pub returns : goal.returns
returns c =
    c.unwrap_or.ensures ∙ ap (λ o. unwrap_or o (length c.args.names.now)) c.place.ensures
    ∙ unwrap_position (λ other. other is c.args.word.now) c.args.names.now
