use Rattle.std.proofs.Common.{Err, refl, inl, inr, sym, ap, ◌∙◌}
use Rattle.prover.proofs.Calls.{unread_told, long_answers, fault_answers}
use Rattle.prover.proofs.running.run_mode.Goals as goal

pub returns-in-Err-TooLong-clause-answers : goal.returns-in-Err-TooLong-clause-answers
returns-in-Err-TooLong-clause-answers g c =
    long_answers c.args.mode _ _ _ _ _ _ _ (sym c.longest_input.ensures ∙ c.in-Some.is)
    (c.in-Err-TooLong.ensures.too_long (ap Err c.in-Err-TooLong.field-0-is))
    c.refuse_long.ensures.written

pub returns-in-Err-Read-clause-answers : goal.returns-in-Err-Read-clause-answers
returns-in-Err-Read-clause-answers g c = fault_answers c.args.mode _ _ _ (inl refl)

pub returns-in-Err-Memory-clause-answers : goal.returns-in-Err-Memory-clause-answers
returns-in-Err-Memory-clause-answers g c = fault_answers c.args.mode _ _ _ (inr refl)

pub returns-in_default-clause-answers : goal.returns-in_default-clause-answers
returns-in_default-clause-answers g c =
    unread_told c.args.mode _ _ _ _ _ _ (sym c.longest_input.ensures ∙ c.in_default.is) c.tell.ensures
