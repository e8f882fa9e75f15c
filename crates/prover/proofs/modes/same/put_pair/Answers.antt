use Rattle.std.proofs.Common.{◌≡◌, inl, inr, refl, subst}
use Rattle.construction_reader.specs.Seen.{account}
use Rattle.step_types.specs.Checks.{names_of}
use Rattle.step_types.specs.declared.names.Names.{Names}
use Rattle.prover.specs.Alike.{AreAlike, IsFirstDifference}
use Rattle.prover.specs.Answer.{IsVerdict}
use Rattle.prover.specs.Modes.Same.{IsPairAnswer, PairDecides, comparison, unlike}
use Rattle.prover.proofs.Puts.{put, puts_so, unlike_is_none}
use Rattle.prover.proofs.modes.same.put_pair.Goals as goal

pub returns-in-Some : goal.returns-in-Some
returns-in-Some g c =
    let d = account c.args.first.now in
    let e = account c.args.second.now in
    let is : IsFirstDifference (names_of d) (names_of e) c.in-Some.difference =
    subst (λ (n : Names). IsFirstDifference n (names_of e) c.in-Some.difference) c.names.ensures
    (subst (λ (n : Names). IsFirstDifference c.names.result.now n c.in-Some.difference) c.names-2.ensures c.in-Some.ensures) in
    put (IsPairAnswer c.args.options d e) IsVerdict (PairDecides d e) (unlike c.in-Some.difference)
    (inl (c.in-Some.difference, is, refl)) _ _ _ _ c.put_unlike.result c.put_unlike.ensures.status
    (λ decided. absurd (unlike_is_none decided)) c.put_unlike.ensures.written

pub put_comparison-requires : goal.put_comparison-requires
put_comparison-requires g c =
    let d = account c.args.first.now in
    let e = account c.args.second.now in
    subst (λ (n : Names). AreAlike n (names_of e)) c.names.ensures
    (subst (λ (n : Names). AreAlike c.names.result.now n) c.names-2.ensures c.in-None.ensures)

pub returns-in-None : goal.returns-in-None
returns-in-None g c =
    let d = account c.args.first.now in
    let e = account c.args.second.now in
    let alike : AreAlike (names_of d) (names_of e) =
    subst (λ (n : Names). AreAlike n (names_of e)) c.names.ensures
    (subst (λ (n : Names). AreAlike c.names.result.now n) c.names-2.ensures c.in-None.ensures) in
    puts_so (λ a. a ≡ comparison c.args.options d e) (IsPairAnswer c.args.options d e) IsVerdict (PairDecides d e)
    (PairDecides d e) _ _ _ _ c.put_comparison.result (λ a is. inr (alike, is)) (λ a decides. decides)
    c.put_comparison.ensures
