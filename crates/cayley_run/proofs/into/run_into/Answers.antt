use Rattle.std.proofs.Common.{rules, ◌≤◌, List, length, refl, subst}
use Rattle.coordinate_model.specs.Sequences.{IsRank}
use Rattle.cayley_terms.specs.declared.instr.Instr.{Instr}
use Rattle.cayley_run.specs.Seen.{steps_in}
use Rattle.cayley_run.proofs.CourseLaws.{writes_then_none}
use Rattle.cayley_run.proofs.IntoLaws.{into_begins, into_ready, into_room, into_named, into_goes_on, into_stops}
use Rattle.cayley_run.proofs.IntoLaws.{into_stop_wrote, into_failed, answers_failure, into_wrote, into_summary}
use Rattle.cayley_run.proofs.RunBounds.{run_is_within}
use Rattle.cayley_run.proofs.RunMeaning.{run_means}
use Rattle.cayley_run.proofs.RunSteps.{step_below}
use Rattle.cayley_run.proofs.RunTurns.{run_takes_few_turns}
use Rattle.cayley_run.proofs.into.run_into.Goals as goal

pub loop-number-init : goal.loop-number-init
loop-number-init g c =
    into_begins c.args.names.now c.args.options c.args.program.now c.new-course.result _ _ c.new-course.ensures.course
    c.new-course.ensures.steps

pub bounds-steps-number : goal.bounds-steps-number
bounds-steps-number g c =
    step_below c.args.options c.args.program.now g.row.D c.requires.rank c.loop-number.invariant.log
    (steps_in c.loop-number.course.values.items) c.loop-number.number c.items-instr-items.result.now
    c.items-steps.result.now c.items-instr-items.ensures c.items-steps.ensures c.loop-number-test.true
    c.loop-number.invariant.from

pub run-requires : goal.run-requires
run-requires g c = (
  search rules,
  (
    subst IsRank c.requires.rank c.args.program.now.formed.rank,
    (
      into_ready c.args.names.now c.args.options c.args.program.now c.requires.rank c.loop-number.course
          c.loop-number.number
          c.items-instr-items.result.now c.items-steps.result.now c.items-instr-items.ensures c.items-steps.ensures
          c.loop-number-test.true _ _ _ _ c.loop-number.invariant,
      (
        into_room c.args.names.now c.args.options c.args.program.now c.requires.rank c.loop-number.course
            c.loop-number.number
            c.items-instr-items.result.now c.items-steps.result.now c.items-instr-items.ensures c.items-steps.ensures
            c.loop-number-test.true _ _ _ _ c.loop-number.invariant,
        into_named c.args.names.now c.args.options c.args.program.now c.requires.rank c.loop-number.course
            c.loop-number.number
            c.items-instr-items.result.now c.items-steps.result.now c.items-instr-items.ensures c.items-steps.ensures
            c.loop-number-test.true _ _ _ _ c.loop-number.invariant c.requires.named,
      ),
    ),
  ),
)

pub returns-in-Err-clause-writes : goal.returns-in-Err-clause-writes
returns-in-Err-clause-writes g c =
    into_failed c.args.names.now c.args.options c.args.program.now c.requires.rank c.loop-number.course
    c.loop-number.number
    c.items-instr-items.result.now c.items-steps.result.now c.items-instr-items.ensures c.items-steps.ensures
    c.loop-number-test.true _ _ _ _ c.loop-number.invariant _ _ c.in-Err.error c.from.result c.from.ensures
    c.in-Err.ensures.writes

pub returns-in-Err-clause-answers : goal.returns-in-Err-clause-answers
returns-in-Err-clause-answers g c = answers_failure g.row.D c.in-Err.error c.from.result c.args.program.now _
    c.from.ensures

pub returns-in-Some-clause-writes : goal.returns-in-Some-clause-writes
returns-in-Some-clause-writes g c =
    into_stop_wrote c.args.names.now c.args.options c.args.program.now c.requires.rank c.loop-number.course
    c.loop-number.number
    c.items-instr-items.result.now c.items-steps.result.now c.items-instr-items.ensures c.items-steps.ensures
    c.loop-number-test.true _ _ _ _ c.loop-number.invariant _ _
    c.run.new.self c.in_default.ensures.course c.in_default.ensures.steps c.in_default.ensures.writes
    c.in-Some.kind c.in-Some.is

pub returns-in-Some-clause-answers : goal.returns-in-Some-clause-answers
returns-in-Some-clause-answers g c =
    into_stops c.args.names.now c.args.options c.args.program.now c.requires.rank c.loop-number.course
    c.loop-number.number
    c.items-instr-items.result.now c.items-steps.result.now c.items-instr-items.ensures c.items-steps.ensures
    c.loop-number-test.true _ _ _ _ c.loop-number.invariant _ _
    c.run.new.self c.in_default.ensures.course c.in_default.ensures.steps c.in_default.ensures.writes
    c.in-Some.kind c.in-Some.is

pub loop-number-preserved : goal.loop-number-preserved
loop-number-preserved g c =
    into_goes_on c.args.names.now c.args.options c.args.program.now c.requires.rank c.loop-number.course
    c.loop-number.number
    c.items-instr-items.result.now c.items-steps.result.now c.items-instr-items.ensures c.items-steps.ensures
    c.loop-number-test.true _ _ _ _ c.loop-number.invariant _ _
    c.run.new.self c.in_default.ensures.course c.in_default.ensures.steps c.in_default.ensures.writes
    c.in_default-stop.is

pub returns-in-Ok-clause-writes : goal.returns-in-Ok-clause-writes
returns-in-Ok-clause-writes g c =
    into_wrote c.args.names.now c.args.options c.args.program.now c.loop-number.course c.loop-number.number _ _ _ _
    c.loop-number.invariant
    (subst (λ (xs : List Instr). length xs ≤ c.loop-number.number) c.items-instr-items.ensures c.loop-number-test.false)

pub returns-in-Ok-clause-answers : goal.returns-in-Ok-clause-answers
returns-in-Ok-clause-answers g c =
    into_summary c.args.names.now c.args.options c.args.program.now c.loop-number.course c.loop-number.number _ _ _ _
    c.loop-number.invariant
    (subst (λ (xs : List Instr). length xs ≤ c.loop-number.number) c.items-instr-items.ensures c.loop-number-test.false)
    c.in-Ok.summary c.in-Ok.ensures.turns c.in-Ok.ensures.end

pub returns-clause-writes : goal.returns-clause-writes
returns-clause-writes g c =
    writes_then_none _ _ _ _ _ _
    (into_wrote c.args.names.now c.args.options c.args.program.now c.loop-number.course c.loop-number.number _ _ _ _
    c.loop-number.invariant
    (subst (λ (xs : List Instr). length xs ≤ c.loop-number.number) c.items-instr-items.ensures
    c.loop-number-test.false)) refl

pub returns-in-Err-clause-means : goal.returns-in-Err-clause-means
returns-in-Err-clause-means g c = run_means c.args.options c.args.program.now

pub returns-in-Err-clause-within : goal.returns-in-Err-clause-within
returns-in-Err-clause-within g c = run_is_within c.args.options c.args.program.now

pub returns-in-Err-clause-turns : goal.returns-in-Err-clause-turns
returns-in-Err-clause-turns g c = run_takes_few_turns c.args.options c.args.program.now

pub returns-in-Some-clause-means : goal.returns-in-Some-clause-means
returns-in-Some-clause-means g c = run_means c.args.options c.args.program.now

pub returns-in-Some-clause-within : goal.returns-in-Some-clause-within
returns-in-Some-clause-within g c = run_is_within c.args.options c.args.program.now

pub returns-in-Some-clause-turns : goal.returns-in-Some-clause-turns
returns-in-Some-clause-turns g c = run_takes_few_turns c.args.options c.args.program.now

pub returns-in-Ok-clause-means : goal.returns-in-Ok-clause-means
returns-in-Ok-clause-means g c = run_means c.args.options c.args.program.now

pub returns-in-Ok-clause-within : goal.returns-in-Ok-clause-within
returns-in-Ok-clause-within g c = run_is_within c.args.options c.args.program.now

pub returns-in-Ok-clause-turns : goal.returns-in-Ok-clause-turns
returns-in-Ok-clause-turns g c = run_takes_few_turns c.args.options c.args.program.now

pub returns-clause-means : goal.returns-clause-means
returns-clause-means g c = run_means c.args.options c.args.program.now

pub returns-clause-within : goal.returns-clause-within
returns-clause-within g c = run_is_within c.args.options c.args.program.now

pub returns-clause-turns : goal.returns-clause-turns
returns-clause-turns g c = run_takes_few_turns c.args.options c.args.program.now
