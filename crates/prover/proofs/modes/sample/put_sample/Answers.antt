use Rattle.std.proofs.Common.{◌≡◌, ◌∷◌, [], ◌∙◌, ℕ, Some, Err, codes, rules, refl, sym, ap, subst}
use Rattle.std.specs.List.{AllByRecursion}
use Rattle.construction_reader.specs.Said.{Account}
use Rattle.construction_reader.specs.Seen.{account}
use Rattle.step_types.specs.declared.names.Names.{Names}
use Rattle.cayley_terms.specs.Kept.{IsNamed}
use Rattle.cayley_run.specs.declared.answer.IntoError.{IntoError}
use Rattle.cayley_run.specs.Results.{stop_of}
use Rattle.cayley_run.specs.Runs.{run_of}
use Rattle.cayley_run.specs.Written.{AnswersSummary}
use Rattle.proof_text.proofs.Writing.{same_lines}
use Rattle.prover.specs.Modes.Sample.{counted, sample_options}
use Rattle.prover.proofs.Samples.{no_memory, first_failed, run_failed, same_run, stopped, ended}
use Rattle.prover.proofs.modes.sample.put_sample.Goals as goal

pub returns-in_err-program : goal.returns-in_err-program
returns-in_err-program g c =
    no_memory c.args.number c.args.budget _ _ c.from_residual-in_err-program.result c.from_residual-in_err-program.ensures.1

pub returns-in_err-put_count : goal.returns-in_err-put_count
returns-in_err-put_count g c =
    first_failed c.args.number c.args.budget _ _ _ _ c.from_residual-in_err-put_count.result _
    c.from_residual-in_err-put_count.ensures.1
    (same_lines _ _ _ _ _ _ _ (ap (λ (n : ℕ). counted (codes "sample") n ∷ []) c.from.ensures) c.in_err-put_count.ensures)

pub run_into-requires : goal.run_into-requires
run_into-requires g c =
    let rank = c.in_ok-program.ensures.names.0 ∙ ap (λ (x : Account). x.rank) c.in_ok-checked.ensures in
    let named = subst (λ (n : Names). AllByRecursion (IsNamed n) c.in_ok-program.program.instrs) (sym c.names.ensures)
    c.in_ok-program.ensures.names.1 in
    search (rules, rank, named)

pub returns-in-Ok : goal.returns-in-Ok
returns-in-Ok g c =
    let answers = c.in-Ok.ensures.answers in
    ended c.args.number c.args.budget (account c.in_ok-checked.checked) c.in_ok-program.program _ _ _ _ _ _
    c.in-Ok.summary.turns c.len.result c.put_summary.result c.in-Ok.summary.end.tracked.sum c.in_ok-checked.ensures
    c.in_ok-program.ensures.names c.in_ok-program.ensures.conclusion
    (same_run c.args.number c.args.budget (account c.in_ok-checked.checked) c.in_ok-program.program c.in_ok-checked.ensures
    c.in_ok-program.ensures.shape c.in_ok-program.ensures.names.0) answers.no_stop answers.turns answers.ends answers.normal
    answers.same_value c.len.ensures
    (same_lines _ _ _ _ _ _ _ (ap (λ (n : ℕ). counted (codes "sample") n ∷ []) c.from.ensures) c.in_ok-put_count.ensures)
    c.put_summary.ensures.written c.put_summary.ensures.status

pub returns-in-Err-Stop : goal.returns-in-Err-Stop
returns-in-Err-Stop g c =
    let log = run_of (sample_options c.args.budget) c.in_ok-program.program in
    let is : log.stop ≡ Some (stop_of c.in-Err-Stop.kind) =
    subst (λ (e : IntoError). AnswersSummary {d = 3} (Err e) c.in_ok-program.program log) c.in-Err-Stop.field-0-is
    c.in-Err-Stop.ensures.answers in
    stopped c.args.number c.args.budget c.in_ok-program.program _ _ _ _ _ _ c.put_stop.result (stop_of c.in-Err-Stop.kind)
    (same_run c.args.number c.args.budget (account c.in_ok-checked.checked) c.in_ok-program.program c.in_ok-checked.ensures
    c.in_ok-program.ensures.shape c.in_ok-program.ensures.names.0) is
    (same_lines _ _ _ _ _ _ _ (ap (λ (n : ℕ). counted (codes "sample") n ∷ []) c.from.ensures) c.in_ok-put_count.ensures)
    c.put_stop.ensures.written c.put_stop.ensures.status

pub returns : goal.returns
returns g c =
    run_failed c.args.number c.args.budget _ _ _ _
    (same_lines _ _ _ _ _ _ _ (ap (λ (n : ℕ). counted (codes "sample") n ∷ []) c.from.ensures) c.in_ok-put_count.ensures)
