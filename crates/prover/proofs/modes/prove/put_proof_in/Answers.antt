use Rattle.std.proofs.Common.{◌≡◌, ◌==◌, ◌∙◌, ℕ, Some, Err, rules, refl, sym, ap, subst}
use Rattle.std.specs.Prelude.{⊤}
use Rattle.std.specs.List.{AllByRecursion}
use Rattle.construction_reader.specs.Said.{sentences_of}
use Rattle.construction_reader.specs.Seen.{account}
use Rattle.construction_reader.proofs.ConclusionLaws.{one_conclusion}
use Rattle.step_types.specs.declared.names.Names.{Names}
use Rattle.cayley_terms.specs.Kept.{IsNamed}
use Rattle.cayley_run.specs.Results.{stop_of}
use Rattle.cayley_run.specs.Runs.{run_of}
use Rattle.proof_text.specs.Proofs.{head_lines}
use Rattle.proof_text.specs.Writes.{Writes}
use Rattle.proof_text.proofs.Writing.{same_lines}
use Rattle.cayley_run.specs.declared.answer.IntoError.{IntoError}
use Rattle.cayley_run.specs.declared.answer.Summary.{Summary}
use Rattle.cayley_run.specs.Written.{run_lines, written_of, AnswersSummary}
use Rattle.prover.proofs.Proofs.{no_proof, head_failed, body_failed, put_stopped, put_ended}
use Rattle.prover.proofs.modes.prove.put_proof_in.Goals as goal

pub lower-requires : goal.lower-requires
lower-requires g c =
    record { one = one_conclusion (sentences_of (account c.args.checked.now).rows) c.args.checked.now.given.good.ends }

pub returns-in_err-program : goal.returns-in_err-program
returns-in_err-program g c =
    no_proof c.args.options (account c.args.checked.now) _ _ c.from_residual.result c.requires.good c.from_residual.ensures.1

pub returns-in_err-write_head : goal.returns-in_err-write_head
returns-in_err-write_head g c =
    head_failed c.args.options (account c.args.checked.now) c.in_ok-program.program c.requires.good
    c.in_ok-program.ensures.shape c.in_ok-program.ensures.names _ _ _ _ c.from_residual-in_err-write_head.result _
    c.from_residual-in_err-write_head.ensures.1
    (same_lines _ _ _ _ _ _ _ (ap head_lines c.names.ensures) c.in_err-write_head.ensures)

pub run_into-requires : goal.run_into-requires
run_into-requires g c =
    let rank = c.in_ok-program.ensures.names.0 ∙ c.requires.rank in
    let named = subst (λ (n : Names). AllByRecursion (IsNamed n) c.in_ok-program.program.instrs) (sym c.names-2.ensures)
    c.in_ok-program.ensures.names.1 in
    search (rules, rank, named)

pub returns-in-Ok : goal.returns-in-Ok
returns-in-Ok g c =
    let log = run_of c.args.options c.in_ok-program.program in
    put_ended c.args.options (account c.args.checked.now) c.in_ok-program.program c.requires.good
    c.in_ok-program.ensures.shape c.in_ok-program.ensures.names _ _ _ _ _ _ _ _ c.put_verdict.result _ _
    c.in_ok-program.ensures.conclusion c.run_into.ensures.means c.in-Ok.ensures.answers.no_stop c.in-Ok.ensures.answers.ends
    (ap (λ (n : ℕ). n == 0) c.len.ensures)
    (same_lines _ _ _ _ _ _ _ (ap head_lines c.names.ensures) c.in_ok-write_head.ensures)
    (same_lines _ _ _ _ _ _ _ (ap (λ (n : Names). run_lines n log) c.names-2.ensures) c.in-Ok.ensures.writes)
    c.put_verdict.ensures.written c.put_verdict.ensures.status

pub returns-in-Err-Stop : goal.returns-in-Err-Stop
returns-in-Err-Stop g c =
    let log = run_of c.args.options c.in_ok-program.program in
    let stopped : log.stop ≡ Some (stop_of c.in-Err-Stop.kind) =
    subst (λ (e : IntoError). AnswersSummary {d = g.row.D} (Err e) c.in_ok-program.program log) c.in-Err-Stop.field-0-is c.in-Err-Stop.ensures.answers in
    put_stopped c.args.options (account c.args.checked.now) c.in_ok-program.program c.requires.good
    c.in_ok-program.ensures.shape c.in_ok-program.ensures.names _ _ _ _ _ _ _ _ c.put_stop.result (stop_of c.in-Err-Stop.kind) stopped
    (same_lines _ _ _ _ _ _ _ (ap head_lines c.names.ensures) c.in_ok-write_head.ensures)
    (same_lines _ _ _ _ _ _ _ (ap (λ (n : Names). run_lines n log) c.names-2.ensures)
    (subst (λ (e : IntoError). Writes {T = ⊤} (g.K.Sink.held c.write_head.new.sink) (g.K.Sink.held c.run_into.new.sink)
    (g.K.Sink.faults c.write_head.new.sink) (g.K.Sink.faults c.run_into.new.sink) (written_of {d = g.row.D} (Err e))
    (run_lines c.names-2.result.now log)) c.in-Err-Stop.field-0-is c.in-Err-Stop.ensures.writes))
    c.put_stop.ensures.written c.put_stop.ensures.status

pub returns-in-Err-Write : goal.returns-in-Err-Write
returns-in-Err-Write g c =
    let log = run_of c.args.options c.in_ok-program.program in
    body_failed c.args.options (account c.args.checked.now) c.in_ok-program.program c.requires.good
    c.in_ok-program.ensures.shape c.in_ok-program.ensures.names _ _ _ _ _ _ _
    (same_lines _ _ _ _ _ _ _ (ap head_lines c.names.ensures) c.in_ok-write_head.ensures)
    (same_lines _ _ _ _ _ _ _ (ap (λ (n : Names). run_lines n log) c.names-2.ensures)
    (subst (λ (e : IntoError). Writes {T = ⊤} (g.K.Sink.held c.write_head.new.sink) (g.K.Sink.held c.run_into.new.sink)
    (g.K.Sink.faults c.write_head.new.sink) (g.K.Sink.faults c.run_into.new.sink) (written_of {d = g.row.D} (Err e))
    (run_lines c.names-2.result.now log)) c.in-Err-Write.field-0-is c.in-Err-Write.ensures.writes))

pub returns : goal.returns
returns g c =
    let log = run_of c.args.options c.in_ok-program.program in
    body_failed c.args.options (account c.args.checked.now) c.in_ok-program.program c.requires.good
    c.in_ok-program.ensures.shape c.in_ok-program.ensures.names _ _ _ _ _ _ _
    (same_lines _ _ _ _ _ _ _ (ap head_lines c.names.ensures) c.in_ok-write_head.ensures)
    (same_lines _ _ _ _ _ _ _ (ap (λ (n : Names). run_lines n log) c.names-2.ensures)
    (subst (λ (e : IntoError). Writes {T = ⊤} (g.K.Sink.held c.write_head.new.sink) (g.K.Sink.held c.run_into.new.sink)
    (g.K.Sink.faults c.write_head.new.sink) (g.K.Sink.faults c.run_into.new.sink) (written_of {d = g.row.D} (Err e))
    (run_lines c.names-2.result.now log)) c.in-Err-Memory.field-0-is c.in-Err-Memory.ensures.writes))
