use Rattle.cayley_run.proofs.MetSections.{straight_met}
use Rattle.cayley_run.proofs.rewriting.straightened.Goals as goal

pub returns-in-Ok-clause-met : goal.returns-in-Ok-clause-met
returns-in-Ok-clause-met g c =
    straight_met c.in-Ok.field-0 c.args.budget c.args.start.now.tracked c.in-Ok.ensures.run
