use Rattle.std.proofs.Common.{◌≡◌, ◌∙◌, Some, Err, rules, sym, ap, subst}
use Rattle.std.specs.List.{AllByRecursion}
use Rattle.construction_reader.specs.Said.{sentences_of}
use Rattle.construction_reader.specs.Seen.{account}
use Rattle.construction_reader.proofs.ConclusionLaws.{one_conclusion}
use Rattle.step_types.specs.declared.names.Names.{Names}
use Rattle.cayley_terms.specs.Kept.{IsNamed}
use Rattle.cayley_run.specs.declared.answer.IntoError.{IntoError}
use Rattle.cayley_run.specs.Results.{stop_of}
use Rattle.cayley_run.specs.Runs.{Log, run_of}
use Rattle.cayley_run.specs.Written.{AnswersSummary}
use Rattle.prover.proofs.Proofs.{runs_alike}
use Rattle.prover.proofs.RunEnds.{ends_with}
use Rattle.prover.proofs.ends.end_of.Goals as goal

pub lower-requires : goal.lower-requires
lower-requires g c =
    record { one = one_conclusion (sentences_of (account c.args.checked.now).rows) c.args.checked.now.given.good.ends }

pub run_into-requires : goal.run_into-requires
run_into-requires g c =
    let rank = c.in_ok-program.ensures.names.0 ∙ c.requires in
    let named = subst (λ (n : Names). AllByRecursion (IsNamed n) c.in_ok-program.program.instrs) (sym c.names.ensures)
    c.in_ok-program.ensures.names.1 in
    search (rules, rank, named)

pub returns-in-Ok : goal.returns-in-Ok
returns-in-Ok g c =
    let answers = c.in-Ok.ensures.answers in
    ends_with c.args.options (account c.args.checked.now) c.in_ok-program.program c.in-Ok.summary.end.tracked.sum
    c.in_ok-program.ensures.shape c.in_ok-program.ensures.names c.in_ok-program.ensures.conclusion
    c.run_into.ensures.within answers.no_stop answers.ends answers.normal answers.same_value

pub returns-in-Err-Stop : goal.returns-in-Err-Stop
returns-in-Err-Stop g c =
    let p = c.in_ok-program.program in
    let log = run_of c.args.options p in
    let is : log.stop ≡ Some (stop_of c.in-Err-Stop.kind) =
    subst (λ (e : IntoError). AnswersSummary {d = g.row.D} (Err e) p log) c.in-Err-Stop.field-0-is
    c.in-Err-Stop.ensures.answers in
    ap (λ (l : Log). l.stop)
    (sym (runs_alike c.args.options (account c.args.checked.now) p c.in_ok-program.ensures.shape
    c.in_ok-program.ensures.names.0)) ∙ is
