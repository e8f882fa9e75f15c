use Rattle.prover.proofs.Programs.{step_there, steps_go_on}
use Rattle.prover.proofs.steps.program_steps.Goals as goal

pub bounds-steps-number : goal.bounds-steps-number
bounds-steps-number c =
    step_there c.args.program.now c.loop-number.number c.items-instr-items.result.now c.items-steps.result.now
    c.items-instr-items.ensures c.items-steps.ensures c.loop-number-test.true

pub loop-number-preserved : goal.loop-number-preserved
loop-number-preserved c =
    steps_go_on c.args.program.now c.loop-number.number c.items-instr-items.result.now c.items-steps.result.now
    c.items-instr-items.ensures c.items-steps.ensures c.loop-number-test.true c.loop-number.objects.items
    c.add_step.new.objects.items c.loop-number.invariant c.in_ok-add_step.ensures
