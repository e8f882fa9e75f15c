use Rattle.std.proofs.Common.{inl, inr, refl, subst}
use Rattle.std.specs.Prelude.{codes}
use Rattle.construction_reader.specs.Seen.{account}
use Rattle.prover.specs.declared.parts.Part.{Part}
use Rattle.prover.specs.Answer.{IsVerdict}
use Rattle.prover.specs.Modes.Same.{IsSecondAnswer, IsPairAnswer, SecondDecides, PairDecides}
use Rattle.prover.specs.Parts.{IsPartOf, IsFault, Gives, refused_at}
use Rattle.prover.proofs.SameLaws.{some_second}
use Rattle.prover.proofs.Puts.{put, put_nothing, puts_so, refusal_is_none}
use Rattle.prover.proofs.modes.same.put_second.Goals as goal

pub returns-in_err-checked : goal.returns-in_err-checked
returns-in_err-checked g c =
    let d = account c.args.first.now in
    let found = some_second c.args.options d c.args.second.now in
    put_nothing (IsSecondAnswer c.args.options d c.args.second.now) IsVerdict (SecondDecides d c.args.second.now) found.0
    found.1 _ _ c.from_residual.result c.from_residual.ensures.1

pub returns-in-Good : goal.returns-in-Good
returns-in-Good g c =
    let d = account c.args.first.now in
    let e = account c.in-Good.checked in
    let second = c.args.second.now in
    let gives : Gives second e = subst (λ (part : Part). IsPartOf second part) c.in-Good.is c.in_ok-checked.ensures in
    puts_so (IsPairAnswer c.args.options d e) (IsSecondAnswer c.args.options d second) IsVerdict (PairDecides d e)
    (SecondDecides d second) _ _ _ _ c.put_pair.result (λ a is. inr (e, gives, is))
    (λ a decides. record { account = e; gives = gives; pair = decides }) c.put_pair.ensures

pub returns-in-Faulty : goal.returns-in-Faulty
returns-in-Faulty g c =
    let d = account c.args.first.now in
    let f = c.in-Faulty.fault in
    let second = c.args.second.now in
    let is : IsFault second f = subst (λ (part : Part). IsPartOf second part) c.in-Faulty.is c.in_ok-checked.ensures in
    put (IsSecondAnswer c.args.options d second) IsVerdict (SecondDecides d second) (refused_at (codes "second ") f)
    (inl (f, is, refl)) _ _ _ _ c.put_refusal.result c.put_refusal.ensures.status
    (λ decided. absurd (refusal_is_none decided)) c.put_refusal.ensures.written
