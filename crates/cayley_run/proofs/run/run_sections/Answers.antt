use Rattle.std.proofs.Common.{rules, ◌≤◌, List, drop, length, zip, sym, ap, subst}
use Rattle.std.proofs.Math.ListN.{drop_of_length-le}
use Rattle.std.specs.Prelude.{Option}
use Rattle.std.specs.Option.{option_map}
use Rattle.coordinate_model.specs.Sequences.{IsRank}
use Rattle.bracket_poly.specs.declared.section.ObjectLog.{ObjectLog}
use Rattle.cayley_terms.specs.declared.instr.Instr.{Instr}
use Rattle.cayley_run.specs.declared.answer.StopKind.{StopKind}
use Rattle.cayley_run.specs.Results.{stop_of}
use Rattle.cayley_run.specs.Seen.{log_of, steps_of}
use Rattle.cayley_run.specs.MetKeys.{AllHaveMet, starts_of_run}
use Rattle.cayley_run.specs.Runs.{Log}
use Rattle.cayley_run.proofs.MetSections.{met_begins, met_goes_on, met_stops, met_ends}
use Rattle.cayley_run.proofs.RunMeaning.{run_means}
use Rattle.cayley_run.proofs.RunBounds.{run_is_within}
use Rattle.cayley_run.proofs.RunTurns.{run_takes_few_turns}
use Rattle.cayley_run.proofs.RunSteps.{run_begins, step_below, next_ready, next_room, next_there, run_goes_on}
use Rattle.cayley_run.proofs.run.run_sections.Goals as goal

pub loop-number-init : goal.loop-number-init
loop-number-init g c = (
  run_begins c.args.options c.args.program.now (log_of c.new-progress.result) (steps_of c.new-progress.result)
      c.new-progress.ensures.log c.new-progress.ensures.steps,
  met_begins c.args.options c.args.program.now c.new-progress.result.objects.items (log_of c.new-progress.result)
      (ap (λ (l : Log). l.objects) c.new-progress.ensures.log) c.new-progress.ensures.log,
)

pub bounds-steps-number : goal.bounds-steps-number
bounds-steps-number g c =
    step_below c.args.options c.args.program.now g.row.D c.requires.rank (log_of c.loop-number.progress)
    (steps_of c.loop-number.progress) c.loop-number.number c.items-instr-items.result.now c.items-steps.result.now
    c.items-instr-items.ensures c.items-steps.ensures c.loop-number-test.true c.loop-number.invariant.0

pub run-requires : goal.run-requires
run-requires g c = (
  search rules,
  (
    subst IsRank c.requires.rank c.args.program.now.formed.rank,
    (
      next_ready c.args.options c.args.program.now g.row.D c.requires.rank (log_of c.loop-number.progress)
          (steps_of c.loop-number.progress) c.loop-number.number c.items-instr-items.result.now c.items-steps.result.now
          c.items-instr-items.ensures c.items-steps.ensures c.loop-number-test.true c.loop-number.invariant.0,
      next_room c.args.options c.args.program.now g.row.D c.requires.rank (log_of c.loop-number.progress)
          (steps_of c.loop-number.progress) c.loop-number.number c.items-instr-items.result.now c.items-steps.result.now
          c.items-instr-items.ensures c.items-steps.ensures c.loop-number-test.true c.loop-number.invariant.0,
    ),
  ),
)

pub returns-in_default-clause-means : goal.returns-in_default-clause-means
returns-in_default-clause-means g c = run_means c.args.options c.args.program.now

pub returns-in_default-clause-within : goal.returns-in_default-clause-within
returns-in_default-clause-within g c = run_is_within c.args.options c.args.program.now

pub returns-in_default-clause-turns : goal.returns-in_default-clause-turns
returns-in_default-clause-turns g c = run_takes_few_turns c.args.options c.args.program.now

pub returns-in-Some-clause-means : goal.returns-in-Some-clause-means
returns-in-Some-clause-means g c = run_means c.args.options c.args.program.now

pub returns-in-Some-clause-within : goal.returns-in-Some-clause-within
returns-in-Some-clause-within g c = run_is_within c.args.options c.args.program.now

pub returns-in-Some-clause-turns : goal.returns-in-Some-clause-turns
returns-in-Some-clause-turns g c = run_takes_few_turns c.args.options c.args.program.now

pub loop-number-preserved : goal.loop-number-preserved
loop-number-preserved g c = (
  run_goes_on c.args.options c.args.program.now g.row.D c.requires.rank (log_of c.loop-number.progress)
      (steps_of c.loop-number.progress) c.loop-number.number c.items-instr-items.result.now c.items-steps.result.now
      c.items-instr-items.ensures c.items-steps.ensures c.loop-number-test.true c.loop-number.invariant.0
      (log_of c.run.new.self) (steps_of c.run.new.self) c.in-Ok.ensures.log c.in-Ok.ensures.steps
      (ap (λ (o : Option StopKind). option_map stop_of o) c.in_default-stop.is),
  met_goes_on c.args.options c.args.program.now c.loop-number.progress.objects.items c.run.new.self.objects.items
      (log_of c.loop-number.progress) (log_of c.run.new.self) _ _ _ c.requires.rank c.loop-number.invariant.1
      (next_there c.args.options c.args.program.now g.row.D c.requires.rank (log_of c.loop-number.progress)
      (steps_of c.loop-number.progress) c.loop-number.number c.items-instr-items.result.now c.items-steps.result.now
      c.items-instr-items.ensures c.items-steps.ensures c.loop-number-test.true c.loop-number.invariant.0)
      c.loop-number.invariant.0.running c.in-Ok.ensures.log c.in-Ok.ensures.met,
)

pub returns-in-Some-clause-met : goal.returns-in-Some-clause-met
returns-in-Some-clause-met g c =
    let options = c.args.options in
    let p = c.args.program.now in
    subst (λ (os : List (ObjectLog g.row.D)). AllHaveMet os (starts_of_run options p)) (sym c.of.ensures)
    (met_stops options p c.run.new.self.objects.items (log_of c.run.new.self) _ (stop_of c.in-Some.kind)
    (met_goes_on options p c.loop-number.progress.objects.items c.run.new.self.objects.items
    (log_of c.loop-number.progress) (log_of c.run.new.self) _ _ _ c.requires.rank c.loop-number.invariant.1
    (next_there options p g.row.D c.requires.rank (log_of c.loop-number.progress) (steps_of c.loop-number.progress)
    c.loop-number.number c.items-instr-items.result.now c.items-steps.result.now c.items-instr-items.ensures
    c.items-steps.ensures c.loop-number-test.true c.loop-number.invariant.0)
    c.loop-number.invariant.0.running c.in-Ok.ensures.log c.in-Ok.ensures.met)
    (ap (λ (o : Option StopKind). option_map stop_of o) c.in-Some.is))

pub returns-clause-met : goal.returns-clause-met
returns-clause-met g c =
    let p = c.args.program.now in
    met_ends c.args.options p c.loop-number.progress.objects.items (log_of c.loop-number.progress) _
    c.loop-number.invariant.1
    (ap (λ (xs : List Instr). zip xs (drop c.loop-number.number p.steps))
    (drop_of_length-le p.instrs
    (subst (λ (xs : List Instr). length xs ≤ c.loop-number.number) c.items-instr-items.ensures
    c.loop-number-test.false)))

pub returns-clause-means : goal.returns-clause-means
returns-clause-means g c = run_means c.args.options c.args.program.now

pub returns-clause-within : goal.returns-clause-within
returns-clause-within g c = run_is_within c.args.options c.args.program.now

pub returns-clause-turns : goal.returns-clause-turns
returns-clause-turns g c = run_takes_few_turns c.args.options c.args.program.now
