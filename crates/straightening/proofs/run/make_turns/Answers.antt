use Rattle.std.proofs.Common.{◌≡◌, Some, Ok, Err, option_map, sym, ap, subst, ◌∙◌, refl}
use Rattle.bracket_terms.specs.LogUses.{use_of}
use Rattle.bracket_poly.specs.Kept.{TrackedOf}
use Rattle.straightening.specs.declared.straight.StopError.{StopError}
use Rattle.straightening.specs.declared.straight.StopError.TheVariants as Stops
use Rattle.straightening.specs.declared.straight.Partial.{Partial}
use Rattle.straightening.specs.declared.straight.Straight.{Straight}
use Rattle.straightening.specs.Results.{IsStopOf}
use Rattle.straightening.specs.Runs.{run}
use Rattle.straightening.specs.Turns.{turn}
use Rattle.straightening.proofs.SoFar.{finished, out_of_turns, refused, after_turn}
use Rattle.straightening.proofs.SoFar.{normal_form, in_classes, unchanged}
use Rattle.straightening.proofs.TurnableLaws.{within}
use Rattle.straightening.proofs.run.make_turns.Goals as goal

pub returns-then-turns-budget-clause-run : goal.returns-then-turns-budget-clause-run
returns-then-turns-budget-clause-run g c =
    let part : Partial g.row.D = record { uses = c.of.result; turns = c.loop-uses.turns } in
    let next : turn c.loop-uses.poly.tracked.sum ≡ Some (use_of c.in-Some.log_use) =
    sym c.in_ok-log_use.ensures.next ∙ ap (option_map use_of) c.in-Some.is in
    out_of_turns g.row.D c.args.budget _ _ _ _ c.loop-uses.invariant.0 c.in-Some.log_use next c.if-turns-budget.true part
    c.of.ensures refl

pub returns-then-turns-budget-clause-classes : goal.returns-then-turns-budget-clause-classes
returns-then-turns-budget-clause-classes g c =
    let part : Partial g.row.D = record { uses = c.of.result; turns = c.loop-uses.turns } in
    let next : turn c.loop-uses.poly.tracked.sum ≡ Some (use_of c.in-Some.log_use) =
    sym c.in_ok-log_use.ensures.next ∙ ap (option_map use_of) c.in-Some.is in
    in_classes g.row.D c.args.budget c.args.poly.tracked (Err (Stops.Turns part)) c.args.poly.formed
    (out_of_turns g.row.D c.args.budget _ _ _ _ c.loop-uses.invariant.0 c.in-Some.log_use next c.if-turns-budget.true part
    c.of.ensures refl)

pub returns-then-turns-budget-clause-bound : goal.returns-then-turns-budget-clause-bound
returns-then-turns-budget-clause-bound g c =
    let part : Partial g.row.D = record { uses = c.of.result; turns = c.loop-uses.turns } in
    let next : turn c.loop-uses.poly.tracked.sum ≡ Some (use_of c.in-Some.log_use) =
    sym c.in_ok-log_use.ensures.next ∙ ap (option_map use_of) c.in-Some.is in
    within g.row.D c.args.budget c.args.poly.tracked (Err (Stops.Turns part)) c.args.poly.formed
    (out_of_turns g.row.D c.args.budget _ _ _ _ c.loop-uses.invariant.0 c.in-Some.log_use next c.if-turns-budget.true part
    c.of.ensures refl)

pub returns-in-Err-clause-run : goal.returns-in-Err-clause-run
returns-in-Err-clause-run g c =
    let part : Partial g.row.D = record { uses = c.of-in-Err.result; turns = c.loop-uses.turns } in
    let next : turn c.loop-uses.poly.tracked.sum ≡ Some (use_of c.in-Some.log_use) =
    sym c.in_ok-log_use.ensures.next ∙ ap (option_map use_of) c.in-Some.is in
    subst (λ (error : StopError g.row.D). IsStopOf error (run c.args.budget c.args.poly.tracked)) (sym c.stopped_by.ensures)
    (refused g.row.D c.args.budget _ _ _ _ c.loop-uses.invariant.0 c.in-Some.log_use next c.if-turns-budget.false
    c.in-Err.error part c.of-in-Err.ensures refl c.in-Err.ensures.adds.answer)

pub returns-in-Err-clause-classes : goal.returns-in-Err-clause-classes
returns-in-Err-clause-classes g c =
    in_classes g.row.D c.args.budget c.args.poly.tracked (Err c.stopped_by.result) c.args.poly.formed
    (returns-in-Err-clause-run g c)

pub returns-in-Err-clause-bound : goal.returns-in-Err-clause-bound
returns-in-Err-clause-bound g c =
    within g.row.D c.args.budget c.args.poly.tracked (Err c.stopped_by.result) c.args.poly.formed
    (returns-in-Err-clause-run g c)

pub loop-uses-preserved : goal.loop-uses-preserved
loop-uses-preserved g c =
    let next : turn c.loop-uses.poly.tracked.sum ≡ Some (use_of c.in-Some.log_use) =
    sym c.in_ok-log_use.ensures.next ∙ ap (option_map use_of) c.in-Some.is in (
      after_turn g.row.D c.args.budget _ _ _ _ c.loop-uses.invariant.0 c.in-Some.log_use next c.if-turns-budget.false _ _
          c.loop-uses.poly.formed c.in_default-add_multiple.ensures.adds.answer c.in_default-add_multiple.ensures.adds.all
          c.in_ok-push.ensures.items,
      c.in_default-add_multiple.ensures.covers,
    )

pub returns-clause-run : goal.returns-clause-run
returns-clause-run g c =
    let end : Straight g.row.D =
    record { normal = c.in_ok-normal.normal; uses = c.of-uses.result; turns = c.loop-uses.turns } in
    finished g.row.D c.args.budget _ _ _ _ c.loop-uses.invariant.0
    (sym c.in_ok-log_use.ensures.next ∙ ap (option_map use_of) c.in_default.is) end c.of-uses.ensures refl (ap (λ (p : TrackedOf g.row.D). p.tracked) c.in_ok-normal.ensures.poly)

pub returns-clause-value : goal.returns-clause-value
returns-clause-value g c =
    (normal_form g.row.D c.args.budget c.args.poly.tracked _ c.args.poly.formed (returns-clause-run g c)).value

pub returns-clause-normal : goal.returns-clause-normal
returns-clause-normal g c =
    (normal_form g.row.D c.args.budget c.args.poly.tracked _ c.args.poly.formed (returns-clause-run g c)).normal

pub returns-clause-only : goal.returns-clause-only
returns-clause-only g c =
    (normal_form g.row.D c.args.budget c.args.poly.tracked _ c.args.poly.formed (returns-clause-run g c)).only

pub returns-clause-classes : goal.returns-clause-classes
returns-clause-classes g c =
    let end : Straight g.row.D =
    record { normal = c.in_ok-normal.normal; uses = c.of-uses.result; turns = c.loop-uses.turns } in
    in_classes g.row.D c.args.budget c.args.poly.tracked (Ok end) c.args.poly.formed (returns-clause-run g c)

pub returns-clause-bound : goal.returns-clause-bound
returns-clause-bound g c =
    let end : Straight g.row.D =
    record { normal = c.in_ok-normal.normal; uses = c.of-uses.result; turns = c.loop-uses.turns } in
    within g.row.D c.args.budget c.args.poly.tracked (Ok end) c.args.poly.formed (returns-clause-run g c)

pub returns-clause-unchanged : goal.returns-clause-unchanged
returns-clause-unchanged g c = unchanged g.row.D c.args.budget c.args.poly _ (returns-clause-run g c)
