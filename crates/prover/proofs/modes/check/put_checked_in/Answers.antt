use Rattle.std.proofs.Common.{◌≡◌, ◌∙◌, ℕ, List, inl, refl, sym, ap, subst, rules}
use Rattle.std.specs.List.{AllByRecursion}
use Rattle.construction_reader.specs.Said.{Account, sentences_of}
use Rattle.construction_reader.specs.Seen.{account}
use Rattle.construction_reader.proofs.ConclusionLaws.{one_conclusion}
use Rattle.coordinate_model.specs.Sequences.{IsRank}
use Rattle.step_types.specs.Checks.{names_of}
use Rattle.step_types.specs.declared.names.Names.{Names}
use Rattle.proof_text.specs.Faults.{IsFault}
use Rattle.proof_text.specs.Outcome.{AreNames, AreSteps, told_of}
use Rattle.proof_text.specs.Told.{IsProof, TextOf}
use Rattle.cayley_terms.specs.Kept.{IsNamed}
use Rattle.log_checker.specs.Objects.{program_steps}
use Rattle.proof_text.specs.declared.fault.ProofError.{ProofError}
use Rattle.proof_text.specs.Faults.{IsCause}
use Rattle.prover.specs.Answer.{IsVerdict}
use Rattle.prover.specs.Modes.Check.{IsBytesAnswer, BytesDecide, proof_refused}
use Rattle.prover.specs.Refusals.{fault_line}
use Rattle.prover.proofs.CheckDecisions.{for_construction, puts_for, no_verdict}
use Rattle.prover.proofs.CheckLaws.{some_bytes}
use Rattle.prover.proofs.Outcomes.{puts_undecided, puts_nothing}
use Rattle.prover.proofs.Programs.{are_steps}
use Rattle.prover.proofs.TextNames.{are_names}
use Rattle.prover.proofs.modes.check.put_checked_in.Goals as goal

pub lower-requires : goal.lower-requires
lower-requires g c =
    record { one = one_conclusion (sentences_of (account c.args.checked.now).rows) c.args.checked.now.given.good.ends }

pub returns-in_err-program : goal.returns-in_err-program
returns-in_err-program g c =
    let a = account c.args.checked.now in
    let bytes = c.args.bytes.now in
    puts_nothing (IsBytesAnswer bytes a) (BytesDecide bytes a) IsVerdict
    (some_bytes bytes a c.requires.good c.args.checked.now.given.good) c.from_residual.result _ _ c.from_residual.ensures.1

pub returns-in_err-steps : goal.returns-in_err-steps
returns-in_err-steps g c =
    let a = account c.args.checked.now in
    let bytes = c.args.bytes.now in
    puts_nothing (IsBytesAnswer bytes a) (BytesDecide bytes a) IsVerdict
    (some_bytes bytes a c.requires.good c.args.checked.now.given.good) c.from_residual-in_err-steps.result _ _
    c.from_residual-in_err-steps.ensures.1

pub read_proof-requires : goal.read_proof-requires
read_proof-requires g c =
    let a = account c.args.checked.now in
    let p = c.in_ok-program.program in
    let rank = c.in_ok-program.ensures.names.0 ∙ c.requires.rank in
    let is_rank : IsRank g.row.D = subst IsRank rank p.formed.rank in
    let names : AreNames g.row.D c.names.result.now =
    subst (λ (n : Names). AreNames g.row.D n) (sym c.names.ensures)
    (subst (λ d. AreNames d (names_of a)) c.requires.rank (are_names a c.requires.good c.args.checked.now.given.good)) in
    let steps : AreSteps g.row.D c.in_ok-steps.steps.items =
    subst (AreSteps g.row.D) (sym c.in_ok-steps.ensures) (subst (λ d. AreSteps d (program_steps p)) rank (are_steps p)) in
    search (rules, is_rank, names, steps)

pub put_verdict-requires : goal.put_verdict-requires
put_verdict-requires g c =
    let a = account c.args.checked.now in
    let p = c.in_ok-program.program in
    let rank = c.in_ok-program.ensures.names.0 ∙ c.requires.rank in
    let named : AllByRecursion (IsNamed c.names-in-Ok.result.now) p.instrs =
    subst (λ (n : Names). AllByRecursion (IsNamed n) p.instrs) (sym c.names-in-Ok.ensures)
    c.in_ok-program.ensures.names.1 in
    let same : c.names-in-Ok.result.now.rank ≡ g.row.D =
    ap (λ (n : Names). n.rank) c.names-in-Ok.ensures ∙ c.requires.rank in
    let told : IsProof c.names-in-Ok.result.now (program_steps p) (told_of c.in-Ok.proof) =
    subst (λ (n : Names). IsProof n (program_steps p) (told_of c.in-Ok.proof))
    (c.names.ensures ∙ sym c.names-in-Ok.ensures)
    (subst (λ (ss : List ℕ). IsProof c.names.result.now ss (told_of c.in-Ok.proof))
    (c.deref.ensures.value ∙ c.in_ok-steps.ensures) c.in-Ok.ensures.found.good) in
    search (rules, rank, named, same, told, c.in-Ok.ensures.met, c.in-Ok.ensures.countable)

pub returns-in-Ok : goal.returns-in-Ok
returns-in-Ok g c =
    let a = account c.args.checked.now in
    let p = c.in_ok-program.program in
    let told = told_of c.in-Ok.proof in
    let bytes = c.args.bytes.now in
    let text = for_construction a p c.in_ok-program.ensures.shape c.in_ok-program.ensures.names.0
    (λ n ss. TextOf n ss bytes told) c.names.result.now c.deref.result.now c.names.ensures
    (c.deref.ensures.value ∙ c.in_ok-steps.ensures)
    c.in-Ok.ensures.found in
    puts_for a p c.in_ok-program.ensures.shape c.in_ok-program.ensures.names.0 told bytes g.row.D c.names-in-Ok.result.now
    c.put_verdict.result _ _ _ _ c.requires.rank c.names-in-Ok.ensures c.in_ok-program.ensures.conclusion text
    c.put_verdict.ensures

pub returns-in-Err-Fault : goal.returns-in-Err-Fault
returns-in-Err-Fault g c =
    let a = account c.args.checked.now in
    let p = c.in_ok-program.program in
    let bytes = c.args.bytes.now in
    let fault = c.in-Err-Fault.fault in
    let cause : IsFault c.names.result.now c.deref.result.now bytes fault =
    subst (λ (e : ProofError). IsCause c.names.result.now c.deref.result.now bytes e) c.in-Err-Fault.field-0-is
    c.in-Err-Fault.ensures.fault in
    let is = for_construction a p c.in_ok-program.ensures.shape c.in_ok-program.ensures.names.0
    (λ n ss. IsFault n ss bytes fault) c.names.result.now c.deref.result.now c.names.ensures
    (c.deref.ensures.value ∙ c.in_ok-steps.ensures)
    cause in
    puts_undecided (IsBytesAnswer bytes a) (BytesDecide bytes a) IsVerdict (proof_refused (fault_line fault))
    c.put_proof_fault.result _ _ _ _ (inl (fault, is, refl)) no_verdict c.put_proof_fault.ensures.status
    c.put_proof_fault.ensures.written

pub returns : goal.returns
returns g c =
    let a = account c.args.checked.now in
    let bytes = c.args.bytes.now in
    puts_nothing (IsBytesAnswer bytes a) (BytesDecide bytes a) IsVerdict
    (some_bytes bytes a c.requires.good c.args.checked.now.given.good) _ _ _ refl
