use Rattle.std.proofs.Common.{ap, sym, ◌∙◌}
use Rattle.std.specs.Ordering.{is_lt}
use Rattle.proof_text.specs.Kinds.{is_behind_terms}
use Rattle.proof_text.proofs.BehindSteps.{behind_last, tests_less}
use Rattle.proof_text.proofs.adding.is_behind.Goals as goal

pub returns-in-Some : goal.returns-in-Some
returns-in-Some g c =
    let last = ap (is_behind_terms c.args.key.now) (sym c.terms.ensures ∙ c.in-Some.ensures.steps) in
    (c.eq.ensures ∙ tests_less c.cmp.result ∙ ap is_lt c.cmp.ensures)
    ∙ sym (last ∙ behind_last c.args.key.now c.next_back.new.self (c.in-Some.last.now, c.in-Some.field-0-1))
