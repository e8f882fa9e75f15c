use Rattle.prover.specs.Answer.{IsVerdict}
use Rattle.prover.specs.Modes.Check.{IsTextAnswer, IsCheckAnswer, TextDecides, CheckDecides}
use Rattle.prover.proofs.CheckLaws.{is_separator}
use Rattle.prover.proofs.Outcomes.{puts_as}
use Rattle.prover.proofs.modes.check.put_answer.Goals as goal

pub cut-requires : goal.cut-requires
cut-requires g c = is_separator

pub returns : goal.returns
returns g c =
    let input = c.args.input.now in
    let text = c.cut.result.0.now in
    let bytes = c.cut.result.1.now in
    puts_as (IsTextAnswer text bytes) (IsCheckAnswer input) (TextDecides text bytes) (CheckDecides input) IsVerdict
    c.put_text_answer.result _ _ _ _
    (λ a right. record { text = text; bytes = bytes; cut = c.cut.ensures; answers = right })
    (λ a decides. record { text = text; bytes = bytes; cut = c.cut.ensures; decides = decides }) c.put_text_answer.ensures
