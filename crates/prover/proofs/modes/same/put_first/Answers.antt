use Rattle.std.proofs.Common.{inl, inr, refl, subst}
use Rattle.std.specs.Prelude.{codes}
use Rattle.construction_reader.specs.Seen.{account}
use Rattle.prover.specs.declared.parts.Part.{Part}
use Rattle.prover.specs.Answer.{IsVerdict}
use Rattle.prover.specs.Modes.Same.{IsShortAnswer, IsSecondAnswer, SecondDecides, TextsDecide}
use Rattle.prover.specs.Parts.{IsPartOf, IsFault, Gives, refused_at}
use Rattle.prover.proofs.SameLaws.{some_short}
use Rattle.prover.proofs.Puts.{put, put_nothing, puts_so, refusal_is_none}
use Rattle.prover.proofs.modes.same.put_first.Goals as goal

pub returns-in_err-checked : goal.returns-in_err-checked
returns-in_err-checked g c =
    let found = some_short c.args.options c.args.first.now c.args.second.now in
    put_nothing (IsShortAnswer c.args.options c.args.first.now c.args.second.now) IsVerdict
    (TextsDecide c.args.first.now c.args.second.now) found.0 found.1 _ _ c.from_residual.result c.from_residual.ensures.1

pub returns-in-Good : goal.returns-in-Good
returns-in-Good g c =
    let d = account c.in-Good.checked in
    let first = c.args.first.now in
    let second = c.args.second.now in
    let gives : Gives first d = subst (λ (part : Part). IsPartOf first part) c.in-Good.is c.in_ok-checked.ensures in
    puts_so (IsSecondAnswer c.args.options d second) (IsShortAnswer c.args.options first second) IsVerdict
    (SecondDecides d second) (TextsDecide first second) _ _ _ _ c.put_second.result (λ a is. inr (d, gives, is))
    (λ a decides. record { account = d; gives = gives; behind = decides }) c.put_second.ensures

pub returns-in-Faulty : goal.returns-in-Faulty
returns-in-Faulty g c =
    let f = c.in-Faulty.fault in
    let first = c.args.first.now in
    let second = c.args.second.now in
    let is : IsFault first f = subst (λ (part : Part). IsPartOf first part) c.in-Faulty.is c.in_ok-checked.ensures in
    put (IsShortAnswer c.args.options first second) IsVerdict (TextsDecide first second) (refused_at (codes "first ") f)
    (inl (f, is, refl)) _ _ _ _ c.put_refusal.result c.put_refusal.ensures.status
    (λ decided. absurd (refusal_is_none decided)) c.put_refusal.ensures.written
