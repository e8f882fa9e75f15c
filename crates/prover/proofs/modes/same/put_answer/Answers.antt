use Rattle.prover.specs.Answer.{IsVerdict}
use Rattle.prover.specs.Modes.Same.{IsTextsAnswer, IsSameAnswer, TextsDecide, SameDecides, AreTexts}
use Rattle.prover.proofs.Differences.{separates}
use Rattle.prover.proofs.Puts.{puts_so}
use Rattle.prover.proofs.modes.same.put_answer.Goals as goal

pub cut-requires : goal.cut-requires
cut-requires g c = separates

pub returns : goal.returns
returns g c =
    let input = c.args.input.now in
    let first = c.cut.result.0.now in
    let second = c.behind_separator.result.now in
    let texts : AreTexts input first second =
    record { rest = c.cut.result.1.now; cut = c.cut.ensures; behind = c.behind_separator.ensures } in
    puts_so (IsTextsAnswer c.args.options first second) (IsSameAnswer c.args.options input) IsVerdict
    (TextsDecide first second) (SameDecides input) _ _ _ _ c.put_texts.result
    (λ a is. record { first = first; second = second; texts = texts; is = is })
    (λ a decides. record { first = first; second = second; texts = texts; decides = decides }) c.put_texts.ensures
