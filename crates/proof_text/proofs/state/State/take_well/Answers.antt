use Rattle.std.proofs.lemmas.Result.{err_from_is_err_and}
use Rattle.proof_text.specs.Seen.{spelt_seen}
use Rattle.proof_text.specs.StateSeen.{state_seen}
use Rattle.proof_text.proofs.TakenSteps.{use_lost}
use Rattle.proof_text.proofs.state.State.take_well.Goals as goal

pub returns-in_err-log_use-in-Use-clause-taken : goal.returns-in_err-log_use-in-Use-clause-taken
returns-in_err-log_use-in-Use-clause-taken g c =
    let p = err_from_is_err_and c.from_residual.result c.from_residual.ensures.1 in
    rw (p.1, p.2, c.in-Use.is)
    (use_lost c.in_err-log_use-in-Use.field-0.0 c.args.names.now (state_seen c.args.self.now) (spelt_seen c.in-Use.term)
    c.in-Use.alpha c.in-Use.beta c.in-Use.gamma c.in_err-log_use-in-Use.ensures)
