use Rattle.std.proofs.Common.{◌∙◌, sym, ap, subst, length, arith}
use Rattle.proof_text.proofs.WordSteps.{LackSemicolons, front_more, whole_more, lack_more, cut_some, cut_none}
use Rattle.proof_text.proofs.line_words.cut.Goals as goal

pub returns-then-is-clause-some : goal.returns-then-is-clause-some
returns-then-is-clause-some c =
    let so_far = c.loop-word.invariant in
    rw c.front.ensures
    (cut_some c.loop-word.before c.args.words.now c.loop-word.rest c.in-Some.word c.next.new.self so_far.whole so_far.none
    c.in-Some.ensures.steps (sym c.is.ensures ∙ c.if-is.true))

pub loop-word-preserved : goal.loop-word-preserved
loop-word-preserved c =
    let so_far = c.loop-word.invariant in
    let words = c.args.words.now in
    let n = c.loop-word.before in
    let front = front_more n words c.loop-word.rest c.in-Some.word c.next.new.self so_far.whole so_far.count
    c.in-Some.ensures.steps in
    record {
      whole = whole_more n words c.loop-word.rest c.in-Some.word c.next.new.self so_far.whole so_far.count c.in-Some.ensures.steps;
      count = omega (arith, so_far.count, ap length c.in-Some.ensures.steps);
      none = subst LackSemicolons (sym front) (lack_more _ c.in-Some.word so_far.none (sym c.is.ensures ∙ c.if-is.false));
    }

pub returns-clause-none : goal.returns-clause-none
returns-clause-none c = λ _.
    cut_none c.loop-word.before c.args.words.now c.loop-word.rest c.loop-word.invariant.whole c.loop-word.invariant.none
    c.in_default.ensures.steps.0
