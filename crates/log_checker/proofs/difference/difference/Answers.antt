use Rattle.std.proofs.Common.{rules, sym, ap, ◌∙◌}
use Rattle.std.proofs.lemmas.Int.{to_z-of_z}
use Rattle.std.specs.Prelude.{pos}
use Rattle.coordinate_model.specs.BracketPolynomial.{BracketPolynomial}
use mir.Syntax.{w128}
use mir.Val.{SFits, to_z, of_z}
use Rattle.log_checker.proofs.LeastKeys.{same_left, same_goes_on, same_ends, differs_alone, other_alone, differs_before}
use Rattle.log_checker.proofs.LeastKeys.{other_before, differs_there, least_is}
use Rattle.log_checker.proofs.difference.difference.Goals as goal

pub returns-in_default : goal.returns-in_default
returns-in_default g c =
    let fits : SFits w128 c.in-Some.c = search rules in
    let f : BracketPolynomial = c.args.computed.now.tracked.sum in
    let h : BracketPolynomial = c.args.written.now.tracked.sum in
    let found = c.in_ok-found.ensures in
    least_is f h c.in-Some.key.now c.in_ok-found.field-0.key c.in-Some.c c.in_ok-found.field-0.computed (pos 0)
    c.in_ok-found.field-0.written
    (differs_alone f h c.in-Some.key.now c.in-Some.c c.next.new.self
    (same_left f.terms h.terms c.loop-key.key-iterator c.loop-key.others _ _ c.loop-key.invariant
    c.in-Some.ensures.steps
    c.in_default.ensures.steps.0))
    found.key (found.computed ∙ to_z-of_z w128 _ fits) found.written

pub returns-in-Less : goal.returns-in-Less
returns-in-Less g c =
    let fits : SFits w128 c.in-Some.c = search rules in
    let f : BracketPolynomial = c.args.computed.now.tracked.sum in
    let h : BracketPolynomial = c.args.written.now.tracked.sum in
    let found = c.in_ok-found-in-Less.ensures in
    least_is f h c.in-Some.key.now c.in_ok-found-in-Less.field-0.key c.in-Some.c
    c.in_ok-found-in-Less.field-0.computed (pos 0)
    c.in_ok-found-in-Less.field-0.written
    (differs_before f h c.in-Some.key.now c.in-Some-next.other.now c.in-Some.c c.in-Some-next.w c.next.new.self
    c.next-in-loop-key.new.self
    (same_left f.terms h.terms c.loop-key.key-iterator c.loop-key.others _ _ c.loop-key.invariant
    c.in-Some.ensures.steps
    c.in-Some-next.ensures.steps)
    (sym c.cmp.ensures ∙ c.in-Less.is))
    found.key (found.computed ∙ to_z-of_z w128 _ fits) found.written

pub returns-in-Greater : goal.returns-in-Greater
returns-in-Greater g c =
    let fits : SFits w128 c.in-Some-next.w = search rules in
    let f : BracketPolynomial = c.args.computed.now.tracked.sum in
    let h : BracketPolynomial = c.args.written.now.tracked.sum in
    let found = c.in_ok-found-in-Greater.ensures in
    least_is f h c.in-Some-next.other.now c.in_ok-found-in-Greater.field-0.key (pos 0)
    c.in_ok-found-in-Greater.field-0.computed c.in-Some-next.w c.in_ok-found-in-Greater.field-0.written
    (other_before f h c.in-Some.key.now c.in-Some-next.other.now c.in-Some.c c.in-Some-next.w c.next.new.self
    c.next-in-loop-key.new.self
    (same_left f.terms h.terms c.loop-key.key-iterator c.loop-key.others _ _ c.loop-key.invariant
    c.in-Some.ensures.steps
    c.in-Some-next.ensures.steps)
    (sym c.cmp.ensures ∙ c.in-Greater.is))
    found.key found.computed (found.written ∙ to_z-of_z w128 _ fits)

pub returns-then-c-w : goal.returns-then-c-w
returns-then-c-w g c =
    let fits : SFits w128 c.in-Some.c = search rules in
    let more : SFits w128 c.in-Some-next.w = search rules in
    let f : BracketPolynomial = c.args.computed.now.tracked.sum in
    let h : BracketPolynomial = c.args.written.now.tracked.sum in
    let found = c.in_ok-found-2.ensures in
    least_is f h c.in-Some.key.now c.in_ok-found-2.field-0.key c.in-Some.c c.in_ok-found-2.field-0.computed
    c.in-Some-next.w
    c.in_ok-found-2.field-0.written
    (differs_there f h c.in-Some.key.now c.in-Some-next.other.now c.in-Some.c c.in-Some-next.w c.next.new.self
    c.next-in-loop-key.new.self
    (same_left f.terms h.terms c.loop-key.key-iterator c.loop-key.others _ _ c.loop-key.invariant
    c.in-Some.ensures.steps
    c.in-Some-next.ensures.steps)
    (sym c.cmp.ensures ∙ c.in-Equal.is) (λ e. c.if-c-w.true (ap (of_z w128) e)))
    found.key (found.computed ∙ to_z-of_z w128 _ fits) (found.written ∙ to_z-of_z w128 _ more)

pub loop-key-preserved : goal.loop-key-preserved
loop-key-preserved g c =
    let fits : SFits w128 c.in-Some.c = search rules in
    let more : SFits w128 c.in-Some-next.w = search rules in
    let f : BracketPolynomial = c.args.computed.now.tracked.sum in
    let h : BracketPolynomial = c.args.written.now.tracked.sum in
    same_goes_on f.terms h.terms c.next.new.self c.next-in-loop-key.new.self c.in-Some.key.now c.in-Some-next.other.now
    c.in-Some.c c.in-Some-next.w
    (same_left f.terms h.terms c.loop-key.key-iterator c.loop-key.others _ _ c.loop-key.invariant
    c.in-Some.ensures.steps
    c.in-Some-next.ensures.steps)
    (sym c.cmp.ensures ∙ c.in-Equal.is)
    (sym (to_z-of_z w128 _ fits) ∙ ap (to_z w128) c.if-c-w.false ∙ to_z-of_z w128 _ more)

pub returns-in_ok-found-in-Some-next-2 : goal.returns-in_ok-found-in-Some-next-2
returns-in_ok-found-in-Some-next-2 g c =
    let fits : SFits w128 c.in-Some-next-2.w = search rules in
    let f : BracketPolynomial = c.args.computed.now.tracked.sum in
    let h : BracketPolynomial = c.args.written.now.tracked.sum in
    let found = c.in_ok-found-in-Some-next-2.ensures in
    least_is f h c.in-Some-next-2.other.now c.in_ok-found-in-Some-next-2.field-0.key (pos 0)
    c.in_ok-found-in-Some-next-2.field-0.computed c.in-Some-next-2.w c.in_ok-found-in-Some-next-2.field-0.written
    (other_alone f h c.in-Some-next-2.other.now c.in-Some-next-2.w c.next-2.new.self
    (same_left f.terms h.terms c.loop-key.key-iterator c.loop-key.others _ _ c.loop-key.invariant
    c.in-None.ensures.steps.0
    c.in-Some-next-2.ensures.steps))
    found.key found.computed (found.written ∙ to_z-of_z w128 _ fits)

pub returns-in-None-next : goal.returns-in-None-next
returns-in-None-next g c =
    let f : BracketPolynomial = c.args.computed.now.tracked.sum in
    let h : BracketPolynomial = c.args.written.now.tracked.sum in
    same_ends f h
    (same_left f.terms h.terms c.loop-key.key-iterator c.loop-key.others _ _ c.loop-key.invariant
    c.in-None.ensures.steps.0
    c.in-None-next.ensures.steps.0)
