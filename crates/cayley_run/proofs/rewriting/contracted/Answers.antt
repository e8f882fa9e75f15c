use Rattle.std.proofs.Common.{refl, subst, ap, ◌∙◌}
use Rattle.bracket_poly.specs.Tracked.{coefficient_limit, keys_limit}
use Rattle.straightening.specs.declared.straight.Partial.{Partial}
use Rattle.contraction.specs.Passes.{contracted}
use Rattle.contraction.specs.Results.{IsStopOf}
use Rattle.contraction.specs.declared.contracted.ContractError.{ContractError}
use Rattle.cayley_run.specs.declared.answer.StopKind.TheVariants.{Coefficient, Keys}
use Rattle.cayley_run.proofs.MetSections.{behind_met, stopped_met}
use Rattle.cayley_run.proofs.RewritingLaws.{contracted_result, stopped_work}
use Rattle.cayley_run.proofs.rewriting.contracted.Goals as goal

pub returns-in_ok-turned-in-Ok-clause-work : goal.returns-in_ok-turned-in-Ok-clause-work
returns-in_ok-turned-in-Ok-clause-work g c =
    contracted_result c.args.budget c.args.start.tracked c.behind.result c.in_ok-turned-in-Ok.turned c.in-Ok.done
    c.in-Ok.ensures.run c.in_ok-turned-in-Ok.ensures.run c.behind.ensures

pub returns-in_ok-turned-in-Ok-clause-met : goal.returns-in_ok-turned-in-Ok-clause-met
returns-in_ok-turned-in-Ok-clause-met g c =
    behind_met c.args.start.tracked c.behind.result c.in_ok-turned-in-Ok.turned c.in-Ok.done c.in-Ok.ensures.run
    c.in_ok-turned-in-Ok.ensures.met c.behind.ensures

pub returns-in-Err-Coefficient-clause-met : goal.returns-in-Err-Coefficient-clause-met
returns-in-Err-Coefficient-clause-met g c =
    stopped_met c.args.start.tracked c.stopped.result c.stopped.ensures.end

pub returns-in-Err-Coefficient-clause-work : goal.returns-in-Err-Coefficient-clause-work
returns-in-Err-Coefficient-clause-work g c =
    stopped_work c.args.budget c.args.start.tracked c.stopped.result _ coefficient_limit Coefficient
    (subst (λ (e : ContractError g.row.D). IsStopOf e (contracted c.args.start.tracked)) c.in-Err-Coefficient.field-0-is
    c.in-Err-Coefficient.ensures.run)
    refl (c.stopped.ensures.uses ∙ ap (λ (q : Partial g.row.D). q.uses) c.in-Err-Coefficient.done-is)
    (c.stopped.ensures.turns ∙ ap (λ (q : Partial g.row.D). q.turns) c.in-Err-Coefficient.done-is)
    c.stopped.ensures.end c.stopped.ensures.stop

pub returns-in-Err-Keys-clause-met : goal.returns-in-Err-Keys-clause-met
returns-in-Err-Keys-clause-met g c =
    stopped_met c.args.start.tracked c.stopped-in-Err-Keys.result c.stopped-in-Err-Keys.ensures.end

pub returns-in-Err-Keys-clause-work : goal.returns-in-Err-Keys-clause-work
returns-in-Err-Keys-clause-work g c =
    stopped_work c.args.budget c.args.start.tracked c.stopped-in-Err-Keys.result _ keys_limit Keys
    (subst (λ (e : ContractError g.row.D). IsStopOf e (contracted c.args.start.tracked)) c.in-Err-Keys.field-0-is
    c.in-Err-Keys.ensures.run)
    refl (c.stopped-in-Err-Keys.ensures.uses ∙ ap (λ (q : Partial g.row.D). q.uses) c.in-Err-Keys.done-is)
    (c.stopped-in-Err-Keys.ensures.turns ∙ ap (λ (q : Partial g.row.D). q.turns) c.in-Err-Keys.done-is)
    c.stopped-in-Err-Keys.ensures.end c.stopped-in-Err-Keys.ensures.stop
