use Rattle.std.proofs.Common.{◌≡◌, ◌∙◌, Err, length, refl, sym, subst, rules, true≢false}
use Rattle.coordinate_model.specs.Sequences.{IsRank}
use Rattle.proof_text.specs.Outcome.{told_of}
use Rattle.proof_text.specs.declared.error.WriteError.TheVariants.{Memory}
use Rattle.log_checker.specs.Claims.{object_claims}
use Rattle.log_checker.specs.Objects.{program_steps}
use Rattle.prover.specs.Answer.{IsVerdict}
use Rattle.prover.specs.Modes.Check.{IsProgramAnswer, ProgramDecides}
use Rattle.prover.proofs.CheckDecisions.{verdict_put, refusal_put, has_numbers}
use Rattle.prover.proofs.Outcomes.{puts_nothing}
use Rattle.prover.proofs.ReadProofs.{proof_read, some_program_answer}
use Rattle.prover.proofs.modes.check.put_verdict.Goals as goal

pub check_proof-requires : goal.check_proof-requires
check_proof-requires g c =
    let objects = c.readings.ensures.objects g.row.D c.args.names.now c.args.program.now c.args.proof.now c.requires.told in
    search (rules, objects, c.requires.rank, c.requires.countable)

pub put_refusal-requires : goal.put_refusal-requires
put_refusal-requires g c =
    let names = c.args.names.now in
    let p = c.args.program.now in
    let rank : IsRank g.row.D = subst IsRank c.requires.rank p.formed.rank in
    let within = c.in-Err.ensures.within (length names.free) (length names.params)
    (has_numbers names p.instrs c.requires.named)
    (c.readings.ensures.claims g.row.D names (program_steps p) c.args.proof.now c.requires.told) in
    search (rules, rank, within)

pub returns-in-Ok : goal.returns-in-Ok
returns-in-Ok g c =
    let proof = c.args.proof.now in
    verdict_put g.row.D c.args.names.now c.args.program.now (told_of proof) (object_claims proof.objects)
    (proof_read proof c.requires.met) c.put_accepted.result _ _ _ _ c.in-Ok.ensures.accepted c.in-Ok.ensures.concludes
    c.put_accepted.ensures.status c.put_accepted.ensures.written

pub returns-then-is_memory : goal.returns-then-is_memory
returns-then-is_memory g c =
    let names = c.args.names.now in
    let p = c.args.program.now in
    let told = told_of c.args.proof.now in
    puts_nothing (IsProgramAnswer g.row.D names p told) (ProgramDecides p told) IsVerdict
    (some_program_answer g.row.D names p told c.requires.rank c.requires.same c.requires.told) (Err Memory) _ _ refl

pub returns-else-is_memory : goal.returns-else-is_memory
returns-else-is_memory g c =
    let proof = c.args.proof.now in
    refusal_put g.row.D c.args.names.now c.args.program.now (told_of proof) (object_claims proof.objects)
    (proof_read proof c.requires.met) c.in-Err.refusal c.put_refusal.result _ _ _ _
    (λ e. true≢false (sym (c.is_memory.ensures.1 e) ∙ c.if-is_memory.false)) c.in-Err.ensures.refused
    c.put_refusal.ensures.status c.put_refusal.ensures.written
