use Rattle.std.proofs.Common.{◌+◌, ◌∙◌, ap, subst, sym}
use Rattle.std.specs.Prelude.{Ok, IfErr}
use Rattle.shuffle_meet.specs.Seen.{seen}
use Rattle.log_checker.specs.Checked.{UnlessMemory}
use Rattle.log_checker.specs.Claims.{claims_of}
use Rattle.log_checker.specs.ProofRefused.{IsObjectRefused}
use Rattle.log_checker.proofs.progress.checked_value.Goals as goal

pub returns-in-Ok-clause-refused : goal.returns-in-Ok-clause-refused
returns-in-Ok-clause-refused g c =
    subst (λ made. IfErr c.value_from.result
    (UnlessMemory (IsObjectRefused made (claims_of c.args.sections.now) c.args.object (c.args.before + 1))))
    (ap (λ es. Ok (seen {d = g.row.D} es)) c.items.ensures ∙ sym c.in-Ok.ensures.starts) c.value_from.ensures.refused
