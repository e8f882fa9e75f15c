use Rattle.std.proofs.Common.{◌≡◌, ◌∙◌, ap, List, drop}
use Rattle.std.proofs.Math.ListN.{drop_of_length-le}
use Rattle.bracket_poly.specs.Values.{value_of}
use Rattle.log_checker.specs.Claims.{Claim, claims_of, ended_value}
use Rattle.log_checker.proofs.Ended.{value_done, value_formed}
use Rattle.log_checker.proofs.values.ended_value.Goals as goal

pub invariant_of-result : goal.invariant_of-result
invariant_of-result g c =
    let cs : List Claim = claims_of c.args.sections.now in
    let rest : List Claim = claims_of (drop c.loop-section.section-index c.args.sections.now) in
    let done : value_of c.loop-section.entries.items ≡ ended_value cs =
    value_done (value_of c.loop-section.entries.items) cs rest c.loop-section.invariant
    (ap (λ xs. claims_of xs) (drop_of_length-le c.args.sections.now c.loop-section-test.false)) in
    record {
      formed =
          value_formed g.row.D c.args.step cs c.of.result c.requires.rank c.requires.scalars
          (ap (λ es. value_of es) c.of.ensures ∙ done);
    }
