use Rattle.std.proofs.Common.{sym, subst}
use Rattle.prover.specs.declared.mode.Mode.TheVariants as mode
use Rattle.prover.specs.declared.status.Status.{Status}
use Rattle.prover.specs.Outcome.{Tells}
use Rattle.prover.proofs.Outcomes.{put_tells}
use Rattle.prover.proofs.modes.same.same.Goals as goal

pub returns : goal.returns
returns g c =
    subst (λ (s : Status). Tells (mode.Same c.args.options) c.args.input.now s
    (g.K.Sink.held c.args.sink.now) (g.K.Sink.held c.put_answer.new.sink) (g.K.Sink.faults c.args.sink.now)
    (g.K.Sink.faults c.put_answer.new.sink)) (sym c.status_of.ensures)
    (put_tells (mode.Same c.args.options) c.args.input.now _ _ _ _ _ c.put_answer.ensures)
