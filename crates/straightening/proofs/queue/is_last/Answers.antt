use Rattle.std.proofs.Common.{◌∙◌, sym, ap}
use Rattle.std.specs.Prelude.{Some}
use Rattle.straightening.proofs.QueueLaws.{same_keys}
use Rattle.straightening.proofs.queue.is_last.Goals as goal

pub returns-in-Some : goal.returns-in-Some
returns-in-Some g c = λ t.
    c.in-Some.ensures.last ∙ ap Some (same_keys c.in-Some.last.now c.args.key.now (sym c.eq.ensures ∙ t))
