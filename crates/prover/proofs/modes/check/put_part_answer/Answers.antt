use Rattle.std.proofs.Common.{◌≡◌, inl, inr, [], Ok, refl, subst}
use Rattle.construction_reader.specs.Seen.{account}
use Rattle.prover.specs.declared.parts.Part.{Part}
use Rattle.prover.specs.declared.status.Status.{Status}
use Rattle.prover.specs.declared.status.Status.TheVariants.{TextRefused}
use Rattle.proof_text.specs.declared.error.WriteError.{WriteError}
use Rattle.prover.specs.Answer.{IsVerdict}
use Rattle.prover.specs.Modes.Check.{IsBytesAnswer, BytesDecide, TextDecides}
use Rattle.prover.specs.Parts.{IsPart, IsPartOf, IsFault, Gives, refused_at}
use Rattle.prover.proofs.CheckLaws.{some_part_answer}
use Rattle.prover.proofs.Outcomes.{puts_as, puts_undecided, puts_nothing, puts_error, puts_ok, at_error}
use Rattle.prover.proofs.Proofs.{refused_is_none}
use Rattle.prover.proofs.modes.check.put_part_answer.Goals as goal

pub returns-in_err-checked : goal.returns-in_err-checked
returns-in_err-checked g c =
    let text = c.args.text.now in
    let bytes = c.args.bytes.now in
    puts_nothing (IsPart [] text (IsBytesAnswer bytes)) (TextDecides text bytes) IsVerdict (some_part_answer text bytes)
    c.from_residual.result _ _ c.from_residual.ensures.1

pub returns-in_err-put_fault-in-Faulty : goal.returns-in_err-put_fault-in-Faulty
returns-in_err-put_fault-in-Faulty g c =
    let text = c.args.text.now in
    let bytes = c.args.bytes.now in
    let fault = c.in-Faulty.fault in
    let result = c.from_residual-in_err-put_fault-in-Faulty.result in
    let is : IsFault text fault = subst (IsPartOf text) c.in-Faulty.is c.in_ok-checked.ensures in
    let failed = c.from_residual-in_err-put_fault-in-Faulty.ensures.1 in
    puts_undecided (IsPart [] text (IsBytesAnswer bytes)) (TextDecides text bytes) IsVerdict (refused_at [] fault) result _ _ _ _
    (inl (fault, is, refl)) (refused_is_none TextRefused refl)
    (at_error (λ (s : Status). s ≡ TextRefused) (λ (e : WriteError). e ≡ _) result failed)
    (puts_error _ _ _ _ _ result (refused_at [] fault).lines failed c.in_err-put_fault-in-Faulty.ensures)

pub returns-in-Good : goal.returns-in-Good
returns-in-Good g c =
    let text = c.args.text.now in
    let bytes = c.args.bytes.now in
    let a = account c.in-Good.checked in
    let is : Gives text a = subst (IsPartOf text) c.in-Good.is c.in_ok-checked.ensures in
    puts_as (IsBytesAnswer bytes a) (IsPart [] text (IsBytesAnswer bytes)) (BytesDecide bytes a) (TextDecides text bytes)
    IsVerdict c.put_checked.result _ _ _ _ (λ answer right. inr (a, is, right))
    (λ answer decides. record { account = a; gives = is; decides = decides }) c.put_checked.ensures

pub returns-in_ok-put_fault-in-Faulty : goal.returns-in_ok-put_fault-in-Faulty
returns-in_ok-put_fault-in-Faulty g c =
    let text = c.args.text.now in
    let bytes = c.args.bytes.now in
    let fault = c.in-Faulty.fault in
    let is : IsFault text fault = subst (IsPartOf text) c.in-Faulty.is c.in_ok-checked.ensures in
    puts_undecided (IsPart [] text (IsBytesAnswer bytes)) (TextDecides text bytes) IsVerdict (refused_at [] fault)
    (Ok TextRefused) _ _ _ _ (inl (fault, is, refl)) (refused_is_none TextRefused refl) refl
    (puts_ok _ _ _ _ TextRefused (refused_at [] fault).lines c.in_ok-put_fault-in-Faulty.ensures)
