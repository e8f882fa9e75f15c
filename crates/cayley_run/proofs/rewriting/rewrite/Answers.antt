use Rattle.std.proofs.Common.{refl}
use Rattle.cayley_run.proofs.RewritingLaws.{plain_result}
use Rattle.cayley_run.proofs.rewriting.rewrite.Goals as goal

pub returns-else-contract-clause-work : goal.returns-else-contract-clause-work
returns-else-contract-clause-work g c =
    plain_result c.straightened.result c.args.contract c.args.budget c.args.start.now c.args.start.now
    c.if-contract.false refl c.straightened.ensures.run
