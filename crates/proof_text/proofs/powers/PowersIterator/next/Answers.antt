use Rattle.std.proofs.Common.{rules, ◌∙◌, sym, ap, length}
use Rattle.proof_text.specs.Seen.{power_seen}
use Rattle.proof_text.specs.Shapes.{powers_of}
use Rattle.proof_text.proofs.FormSteps.{powers_some, powers_stop, no_powers}
use Rattle.proof_text.proofs.powers.PowersIterator.next.Goals as goal
use Rattle.proof_text.proofs.powers.PowersIterator.next.Goals.{in-Some+in_default-power, in_default}

pub returns-in-Some-power-clause-steps : goal.returns-in-Some-power-clause-steps
returns-in-Some-power-clause-steps c =
    ap (λ x. x.0) (ap powers_of c.in-Some.ensures.steps
    ∙ powers_some c.in-Some.word c.next.new.self (power_seen c.in-Some-power.power) (sym c.in-Some-power.ensures))

pub returns-in-Some-power-clause-goes : goal.returns-in-Some-power-clause-goes
returns-in-Some-power-clause-goes c =
    let shorter = ap (λ x. length x.0) (ap powers_of c.in-Some.ensures.steps
    ∙ powers_some c.in-Some.word c.next.new.self (power_seen c.in-Some-power.power) (sym c.in-Some-power.ensures)) in
    search rules

pub returns-clause-steps : goal.returns-clause-steps
returns-clause-steps c = elim c.match-next.branch [
  | in-Some+in_default-power w ↦
      rw w.self-is (
        ap (λ x. x.0) (ap powers_of w.in-Some.ensures.steps
            ∙ powers_stop w.in-Some.word c.next.new.self (sym w.in_default-power.ensures)),
        ap (λ ws. (powers_of ws).0) w.front-self.ensures ∙ ap (λ x. x.0) no_powers,
      )
  | in_default w ↦
      rw w.self-is (
        ap (λ ws. (powers_of ws).0) w.in_default.ensures.steps.0 ∙ ap (λ x. x.0) no_powers,
        ap (λ ws. (powers_of ws).0) w.in_default.ensures.steps.1 ∙ ap (λ x. x.0) no_powers,
      )
]
