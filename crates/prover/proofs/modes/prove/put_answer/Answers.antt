use Rattle.construction_reader.specs.Seen.{account}
use Rattle.prover.specs.declared.parts.Part.{Part}
use Rattle.prover.specs.Parts.{IsPartOf, IsFault, Gives}
use Rattle.std.proofs.Common.{subst}
use Rattle.prover.proofs.Proofs.{no_answer, fault_failed, fault_put, good_put}
use Rattle.prover.proofs.modes.prove.put_answer.Goals as goal

pub returns-in_err-checked : goal.returns-in_err-checked
returns-in_err-checked g c =
    no_answer c.args.options c.args.input.now _ _ c.from_residual.result c.from_residual.ensures.1

pub returns-in_err-put_fault-in-Faulty : goal.returns-in_err-put_fault-in-Faulty
returns-in_err-put_fault-in-Faulty g c =
    let is : IsFault c.args.input.now c.in-Faulty.fault =
    subst (λ (part : Part). IsPartOf c.args.input.now part) c.in-Faulty.is c.in_ok-checked.ensures in
    fault_failed c.args.options c.args.input.now c.in-Faulty.fault _ _ _ _ c.from_residual-in_err-put_fault-in-Faulty.result _ is
    c.from_residual-in_err-put_fault-in-Faulty.ensures.1 c.in_err-put_fault-in-Faulty.ensures

pub returns-in-Good : goal.returns-in-Good
returns-in-Good g c =
    let is : Gives c.args.input.now (account c.in-Good.checked) =
    subst (λ (part : Part). IsPartOf c.args.input.now part) c.in-Good.is c.in_ok-checked.ensures in
    good_put c.args.options c.args.input.now (account c.in-Good.checked) _ _ _ _ c.put_proof.result is.gives c.put_proof.ensures

pub returns-in_ok-put_fault-in-Faulty : goal.returns-in_ok-put_fault-in-Faulty
returns-in_ok-put_fault-in-Faulty g c =
    let is : IsFault c.args.input.now c.in-Faulty.fault =
    subst (λ (part : Part). IsPartOf c.args.input.now part) c.in-Faulty.is c.in_ok-checked.ensures in
    fault_put c.args.options c.args.input.now c.in-Faulty.fault _ _ _ _ is c.in_ok-put_fault-in-Faulty.ensures
