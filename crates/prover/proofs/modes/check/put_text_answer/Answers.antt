use Rattle.std.proofs.Common.{inl, inr, [], codes, refl, arith}
use Rattle.construction_reader.specs.Said.{Account}
use Rattle.prover.specs.Answer.{IsVerdict, refused}
use Rattle.prover.specs.Parts.{IsPart}
use Rattle.prover.specs.Modes.Check.{IsBytesAnswer, IsTextAnswer, TextDecides}
use Rattle.prover.proofs.Outcomes.{puts_as, puts_undecided}
use Rattle.prover.proofs.Proofs.{refused_is_none}
use Rattle.prover.proofs.modes.check.put_text_answer.Goals as goal

pub returns-then-text-gt-LONGEST_TEXT : goal.returns-then-text-gt-LONGEST_TEXT
returns-then-text-gt-LONGEST_TEXT g c =
    let text = c.args.text.now in
    let bytes = c.args.bytes.now in
    puts_undecided (IsTextAnswer text bytes) (TextDecides text bytes) IsVerdict (refused (codes "long")) c.put_long.result _ _ _ _
    (inl (omega arith, refl)) (refused_is_none _ refl) c.put_long.ensures.status c.put_long.ensures.written

pub returns-else-text-gt-LONGEST_TEXT : goal.returns-else-text-gt-LONGEST_TEXT
returns-else-text-gt-LONGEST_TEXT g c =
    let text = c.args.text.now in
    let bytes = c.args.bytes.now in
    puts_as (IsPart [] text (IsBytesAnswer bytes)) (IsTextAnswer text bytes) (TextDecides text bytes) (TextDecides text bytes)
    IsVerdict c.put_part_answer.result _ _ _ _ (λ a right. inr (omega arith, right)) (λ a decides. decides)
    c.put_part_answer.ensures
