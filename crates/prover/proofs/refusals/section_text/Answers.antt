use Rattle.std.proofs.Common.{◌≡◌, ◌∷◌, codes, sym, subst, IfOk}
use Rattle.proof_text.specs.Lines.{spaced}
use Rattle.log_checker.specs.declared.fault.CheckKind.{CheckKind}
use Rattle.prover.specs.Refusals.{kind_words, section_words}
use Rattle.prover.proofs.refusals.section_text.Goals as goal

pub returns-in-Coefficient : goal.returns-in-Coefficient
returns-in-Coefficient g c =
    subst (λ (k : CheckKind g.row.D). IfOk c.use_text.result (λ line. line.items ≡ spaced (codes "refused"
    ∷ section_words c.args.section (kind_words c.args.names.now c.args.fault.now.use_number k)))) (sym c.in-Coefficient.is)
    c.use_text.ensures
