use Rattle.std.proofs.Common.{◌∙◌, sym, ap}
use Rattle.proof_text.specs.Shapes.{powers_of}
use Rattle.proof_text.proofs.FormSteps.{no_powers, powers_some, powers_stop}
use Rattle.proof_text.proofs.powers.behind_powers.Goals as goal

pub loop-word-preserved : goal.loop-word-preserved
loop-word-preserved c = record {
  same = c.again-behind-in-Some-power.ensures.same;
  left =
      sym (ap (λ x. x.1) (ap powers_of c.in-Some.ensures.steps
      ∙ powers_some c.in-Some.word c.next.new.self _ (sym c.in-Some-power.ensures)))
      ∙ c.loop-word.invariant.left;
}

pub returns-in_default : goal.returns-in_default
returns-in_default c =
    c.loop-word.invariant.same ∙ c.in_default.ensures.steps.0
    ∙ sym (ap (λ x. x.1) (ap powers_of c.in_default.ensures.steps.0 ∙ no_powers)) ∙ c.loop-word.invariant.left

pub returns-in-None : goal.returns-in-None
returns-in-None c =
    c.loop-word.invariant.same ∙ c.in-Some.ensures.steps
    ∙ sym (ap (λ x. x.1) (ap powers_of c.in-Some.ensures.steps
    ∙ powers_stop c.in-Some.word c.next.new.self (sym c.in-None.ensures))) ∙ c.loop-word.invariant.left
