use Rattle.std.proofs.Common.{rules, ◌≡◌, suc, ◌+◌, ◌-◌, take, drop, length, sym, ap, ◌∙◌, arith}
use Rattle.proof_text.specs.Shapes.{words_of}
use Rattle.proof_text.proofs.WordSteps.{word_found, word_left, rest_behind}
use Rattle.proof_text.proofs.line_words.WordsIterator.next.Goals as goal

pub returns-in-Some-clause-steps : goal.returns-in-Some-clause-steps
returns-in-Some-clause-steps c =
    let text = c.self.inside.text.now in
    sym c.self.view_is
    ∙ rw (c.of.ensures, rest_behind text c.in-Some.end)
    (word_found c.self.inside.count text c.in-Some.end (omega (arith, c.if-self-eq0.false)) (sym c.in-Some.ensures))

pub returns-in-Some-clause-goes : goal.returns-in-Some-clause-goes
returns-in-Some-clause-goes c =
    let text = c.self.inside.text.now in
    let n = c.self.inside.count in
    let behind = c.in-Some.end + 1 in
    let shorter : length c.args.self.now
    ≡ suc (length (take (n - 1) (words_of (take (length text - behind) (drop behind text))))) =
    rw (rest_behind text c.in-Some.end)
    (ap length (sym c.self.view_is
    ∙ word_found n text c.in-Some.end (omega (arith, c.if-self-eq0.false)) (sym c.in-Some.ensures))) in
    search rules

pub returns-in-None-clause-steps : goal.returns-in-None-clause-steps
returns-in-None-clause-steps c =
    sym c.self.view_is
    ∙ rw c.of-in-None.ensures
    (word_left c.self.inside.count c.self.inside.text.now (omega (arith, c.if-self-eq0.false)) (sym c.in-None.ensures))

pub returns-in-None-clause-goes : goal.returns-in-None-clause-goes
returns-in-None-clause-goes c =
    let shorter = ap length (sym c.self.view_is
    ∙ word_left c.self.inside.count c.self.inside.text.now (omega (arith, c.if-self-eq0.false)) (sym c.in-None.ensures)) in
    search rules
