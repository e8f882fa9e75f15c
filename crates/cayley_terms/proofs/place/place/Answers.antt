use Rattle.std.proofs.Common.{ℕ, length, Option, ◌∙◌, ap}
use Rattle.std.specs.Prelude.{unwrap_or}
use Rattle.construction_reader.specs.Words.{◌is◌}
use Rattle.cayley_terms.proofs.Params.{position_or}
use Rattle.cayley_terms.proofs.place.place.Goals as goal

pub returns : goal.returns
returns c =
    c.unwrap_or.ensures ∙ ap (λ (o : Option ℕ). unwrap_or o (length c.args.names.now)) c.found.ensures
    ∙ position_or (λ other. other is c.args.name.now) c.args.names.now
