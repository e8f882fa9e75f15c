use Rattle.std.proofs.Common.{◌≡◌, ap, ◌∙◌, Err}
use Rattle.bracket_poly.specs.declared.error.PolyError.TheVariants.{Memory}
use Rattle.shuffle_meet.proofs.Answered.{handed_back}
use Rattle.shuffle_meet.proofs.MixSteps.{only_memory, on_error, parameter_is}
use Rattle.shuffle_meet.proofs.mixing.parameter.Goals as goal

pub returns-in_err-add-clause-memory : goal.returns-in_err-add-clause-memory
returns-in_err-add-clause-memory g c =
    on_error (c.from_residual-in_err-add.result ≡ Err Memory) c.from_residual-in_err-add.result
    (handed_back c.from_residual-in_err-add.result c.in_err-add.field-0.0 c.from_residual-in_err-add.ensures.1
    ∙ ap Err (only_memory c.new-poly.result.tracked _ c.in_err-add.field-0.0 c.new-poly.ensures c.in_err-add.ensures.answer))

pub returns-clause-parameter : goal.returns-clause-parameter
returns-clause-parameter g c =
    parameter_is c.args.i c.new-poly.result.tracked c.add.new.self.tracked c.single-params.result c.in_ok-tableau.tableau
    c.new-poly.ensures c.single-params.ensures c.in_ok-tableau.ensures.rows c.in_ok-add.ensures.added
