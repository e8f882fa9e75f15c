use Rattle.std.proofs.Common.{◌≡◌, ◌∷◌, [], List, ℕ, rules, sym, ap, subst, ◌∙◌}
use Rattle.construction_reader.specs.Seen.{account}
use Rattle.step_types.specs.Checks.{names_of}
use Rattle.step_types.specs.declared.names.Names.{Names}
use Rattle.proof_text.proofs.Writing.{same_lines, writes_more}
use Rattle.prover.specs.Ends.{IsEndNamed, lines_of}
use Rattle.prover.specs.Modes.Same.{run_lines}
use Rattle.prover.specs.Runs.{log_of}
use Rattle.prover.proofs.RunLines.{end_lines, end_has_names}
use Rattle.prover.proofs.Outcomes.{puts_less, puts_more, puts_none, puts_error, puts_ok}
use Rattle.prover.proofs.modes.same.put_run.Goals as goal

pub returns-in_err-put_line-clause-written : goal.returns-in_err-put_line-clause-written
returns-in_err-put_line-clause-written g c =
    let d = account c.args.checked.now in
    puts_less _ _ _ _ _ c.from_residual.result (c.args.title.now ∷ []) (run_lines (names_of d) (log_of c.args.options d))
    c.from_residual.ensures.1 c.in_err-put_line.ensures

pub returns-in_err-end-clause-written : goal.returns-in_err-end-clause-written
returns-in_err-end-clause-written g c =
    let d = account c.args.checked.now in
    let lines : List (List ℕ) = run_lines (names_of d) (log_of c.args.options d) in
    puts_more _ _ _ _ _ _ c.from_residual-in_err-end.result (c.args.title.now ∷ []) lines c.in_ok-put_line.ensures
    (puts_none _ _ c.from_residual-in_err-end.result lines c.from_residual-in_err-end.ensures.1)

pub put_end-requires : goal.put_end-requires
put_end-requires g c =
    let named = subst (λ (n : Names). IsEndNamed n c.in_ok-end.end) (sym c.names.ensures)
    (end_has_names c.args.options (account c.args.checked.now) c.in_ok-end.end c.in_ok-end.ensures) in
    search (rules, named)

pub returns-in_err-put_end-clause-written : goal.returns-in_err-put_end-clause-written
returns-in_err-put_end-clause-written g c =
    let d = account c.args.checked.now in
    let lines : List (List ℕ) = run_lines (names_of d) (log_of c.args.options d) in
    let are : lines_of c.names.result.now c.in_ok-end.end ≡ lines =
    ap (λ (n : Names). lines_of n c.in_ok-end.end) c.names.ensures ∙ end_lines c.args.options d c.in_ok-end.end c.in_ok-end.ensures in
    puts_more _ _ _ _ _ _ c.from_residual-in_err-put_end.result (c.args.title.now ∷ []) lines c.in_ok-put_line.ensures
    (puts_error _ _ _ _ _ c.from_residual-in_err-put_end.result lines c.from_residual-in_err-put_end.ensures.1
    (same_lines _ _ _ _ _ _ _ are c.in_err-put_end.ensures))

pub returns-clause-written : goal.returns-clause-written
returns-clause-written g c =
    let d = account c.args.checked.now in
    let lines : List (List ℕ) = run_lines (names_of d) (log_of c.args.options d) in
    let are : lines_of c.names.result.now c.in_ok-end.end ≡ lines =
    ap (λ (n : Names). lines_of n c.in_ok-end.end) c.names.ensures ∙ end_lines c.args.options d c.in_ok-end.end c.in_ok-end.ensures in
    puts_ok _ _ _ _ c.in_ok-end.end (c.args.title.now ∷ lines)
    (writes_more _ _ _ _ _ _ _ (c.args.title.now ∷ []) lines c.in_ok-put_line.ensures
    (same_lines _ _ _ _ _ _ _ are c.in_ok-put_end.ensures))
