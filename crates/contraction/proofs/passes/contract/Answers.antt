use Rattle.std.proofs.Common.{◌≡◌, ◌<◌, List, Some, Ok, Err, option_map, length, sym, ap, subst, ◌∙◌, refl, arith}
use Rattle.std.proofs.lemmas.Bool.{lt-ltb, le-ltb}
use Rattle.bracket_poly.specs.Tracked.{Tracked}
use Rattle.bracket_terms.specs.LogUses.{use_of}
use Rattle.bracket_terms.specs.declared.log_use.LogUse.{LogUse}
use Rattle.straightening.specs.declared.straight.Partial.{Partial}
use Rattle.contraction.specs.declared.contracted.Contracted.{Contracted}
use Rattle.contraction.specs.declared.contracted.ContractError.{ContractError}
use Rattle.contraction.specs.Passes.{pass, most_terms, contracted}
use Rattle.contraction.specs.Results.{IsStopOf}
use Rattle.contraction.proofs.PassesSoFar.{SoFar, at_start, finished, refused, after_pass, fewer_terms, too_many}
use Rattle.contraction.proofs.PassesSoFar.{same_value, alike, in_classes, lower}
use Rattle.contraction.proofs.passes.contract.Goals as goal

pub returns-then-len-gt-MOST_TERMS-clause-ends : goal.returns-then-len-gt-MOST_TERMS-clause-ends
returns-then-len-gt-MOST_TERMS-clause-ends g c =
    let end : Contracted g.row.D = record { poly = c.args.poly; uses = c.of-uses.result } in
    alike g.row.D c.args.poly end
    (too_many g.row.D c.args.poly end
    (lt-ltb most_terms (length c.args.poly.tracked.sum.terms)
    (omega (arith, c.if-len-gt-MOST_TERMS.true, c.len.ensures)))
    (c.of-uses.ensures ∙ c.new-uses.ensures.items) refl)

pub returns-then-len-gt-MOST_TERMS-clause-classes : goal.returns-then-len-gt-MOST_TERMS-clause-classes
returns-then-len-gt-MOST_TERMS-clause-classes g c =
    let end : Contracted g.row.D = record { poly = c.args.poly; uses = c.of-uses.result } in
    in_classes g.row.D c.args.poly (Ok end)
    (too_many g.row.D c.args.poly end
    (lt-ltb most_terms (length c.args.poly.tracked.sum.terms)
    (omega (arith, c.if-len-gt-MOST_TERMS.true, c.len.ensures)))
    (c.of-uses.ensures ∙ c.new-uses.ensures.items) refl)

pub loop-uses-init : goal.loop-uses-init
loop-uses-init g c =
    subst (λ (us : List (LogUse g.row.D)). SoFar c.args.poly.tracked c.args.poly.tracked us)
    (sym c.new-uses.ensures.items)
    (at_start g.row.D c.args.poly.tracked c.requires.degree
    (le-ltb most_terms (length c.args.poly.tracked.sum.terms)
    (omega (arith, c.if-len-gt-MOST_TERMS.false, c.len.ensures))))

pub returns-in-Err-clause-run : goal.returns-in-Err-clause-run
returns-in-Err-clause-run g c =
    let part : Partial g.row.D = record { uses = c.of-uses-in-Err.result; turns = 0 } in
    let next : pass c.loop-uses.poly.tracked.sum ≡ Some (use_of c.in-Some.log_use) =
    sym c.in_ok-log_use.ensures ∙ ap (option_map use_of) c.in-Some.is in
    subst (λ (error : ContractError g.row.D). IsStopOf error (contracted c.args.poly.tracked))
    (sym c.stopped_by.ensures)
    (refused g.row.D _ _ _ c.loop-uses.invariant c.in-Some.log_use next c.in-Err.error part c.of-uses-in-Err.ensures
    refl c.in-Err.ensures.answer)

pub returns-in-Err-clause-classes : goal.returns-in-Err-clause-classes
returns-in-Err-clause-classes g c =
    in_classes g.row.D c.args.poly (Err c.stopped_by.result) (returns-in-Err-clause-run g c)

pub returns-in-Err-clause-fewer : goal.returns-in-Err-clause-fewer
returns-in-Err-clause-fewer g c = lower g.row.D c.args.poly (Err c.stopped_by.result) (returns-in-Err-clause-run g c)

pub loop-uses-smaller : goal.loop-uses-smaller
loop-uses-smaller g c =
    let next : pass c.loop-uses.poly.tracked.sum ≡ Some (use_of c.in-Some.log_use) =
    sym c.in_ok-log_use.ensures ∙ ap (option_map use_of) c.in-Some.is in
    subst (λ (q : Tracked). length q.sum.terms < length c.loop-uses.poly.tracked.sum.terms)
    (sym c.in_default-add_multiple.ensures.all)
    (fewer_terms g.row.D _ _ _ c.loop-uses.invariant c.in-Some.log_use next c.loop-uses.poly.formed)

pub loop-uses-preserved : goal.loop-uses-preserved
loop-uses-preserved g c =
    let next : pass c.loop-uses.poly.tracked.sum ≡ Some (use_of c.in-Some.log_use) =
    sym c.in_ok-log_use.ensures ∙ ap (option_map use_of) c.in-Some.is in
    after_pass g.row.D _ _ _ c.loop-uses.invariant c.in-Some.log_use next c.loop-uses.poly.formed _ _
    c.in_default-add_multiple.ensures.answer c.in_default-add_multiple.ensures.all c.in_ok-push.ensures.items

pub returns-clause-run : goal.returns-clause-run
returns-clause-run g c =
    let end : Contracted g.row.D = record { poly = c.loop-uses.poly; uses = c.of-uses-2.result } in
    finished g.row.D _ _ _ c.loop-uses.invariant (sym c.in_ok-log_use.ensures ∙ ap (option_map use_of) c.in_default.is)
    end c.of-uses-2.ensures refl

pub returns-clause-value : goal.returns-clause-value
returns-clause-value g c = same_value g.row.D c.args.poly _ (returns-clause-run g c)

pub returns-clause-ends : goal.returns-clause-ends
returns-clause-ends g c = alike g.row.D c.args.poly _ (returns-clause-run g c)

pub returns-clause-classes : goal.returns-clause-classes
returns-clause-classes g c =
    let end : Contracted g.row.D = record { poly = c.loop-uses.poly; uses = c.of-uses-2.result } in
    in_classes g.row.D c.args.poly (Ok end) (returns-clause-run g c)

pub returns-clause-fewer : goal.returns-clause-fewer
returns-clause-fewer g c =
    let end : Contracted g.row.D = record { poly = c.loop-uses.poly; uses = c.of-uses-2.result } in
    lower g.row.D c.args.poly (Ok end) (returns-clause-run g c)
