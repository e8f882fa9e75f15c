use Rattle.std.proofs.Common.{◌==◌, ◌∷◌, [], codes}
use Rattle.proof_text.specs.Forms.{verdict_word}
use Rattle.prover.specs.Modes.Sample.{counted}
use Rattle.prover.proofs.Outcomes.{puts_more, puts_less, puts_error}
use Rattle.prover.proofs.modes.sample.put_summary.Goals as goal

pub returns-in_err-put_count-clause-written : goal.returns-in_err-put_count-clause-written
returns-in_err-put_count-clause-written g c =
    puts_less _ _ _ _ _ c.from_residual.result (counted (codes "turns") c.args.turns ∷ [])
    (counted (codes "terms") c.args.terms ∷ verdict_word (c.args.terms == 0) ∷ []) c.from_residual.ensures.1
    c.in_err-put_count.ensures

pub returns-in_err-put_count-2-clause-written : goal.returns-in_err-put_count-2-clause-written
returns-in_err-put_count-2-clause-written g c =
    puts_more _ _ _ _ _ _ c.from_residual-in_err-put_count-2.result (counted (codes "turns") c.args.turns ∷ [])
    (counted (codes "terms") c.args.terms ∷ verdict_word (c.args.terms == 0) ∷ []) c.in_ok-put_count.ensures
    (puts_less _ _ _ _ _ c.from_residual-in_err-put_count-2.result (counted (codes "terms") c.args.terms ∷ [])
    (verdict_word (c.args.terms == 0) ∷ []) c.from_residual-in_err-put_count-2.ensures.1 c.in_err-put_count-2.ensures)

pub returns-in_err-write_verdict-clause-written : goal.returns-in_err-write_verdict-clause-written
returns-in_err-write_verdict-clause-written g c =
    puts_more _ _ _ _ _ _ c.from_residual-in_err-write_verdict.result (counted (codes "turns") c.args.turns ∷ [])
    (counted (codes "terms") c.args.terms ∷ verdict_word (c.args.terms == 0) ∷ []) c.in_ok-put_count.ensures
    (puts_more _ _ _ _ _ _ c.from_residual-in_err-write_verdict.result (counted (codes "terms") c.args.terms ∷ [])
    (verdict_word (c.args.terms == 0) ∷ []) c.in_ok-put_count-2.ensures
    (puts_error _ _ _ _ _ c.from_residual-in_err-write_verdict.result _ c.from_residual-in_err-write_verdict.ensures.1
    c.in_err-write_verdict.ensures))
