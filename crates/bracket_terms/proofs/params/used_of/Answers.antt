use Rattle.std.proofs.Common.{◌≤◌, length, ap, arith}
use Rattle.std.proofs.lemmas.List.{take_all}
use Rattle.bracket_terms.specs.Exponents.{in_use}
use Rattle.bracket_terms.proofs.UsedLaws.{used-shorter, used-whole}
use Rattle.bracket_terms.proofs.params.used_of.Goals as goal

pub loop-used-init : goal.loop-used-init
loop-used-init c = (omega arith, ap in_use (take_all 64 c.args.exponents.now (omega (arith, c.told-exponents))))

pub loop-used-preserved : goal.loop-used-preserved
loop-used-preserved c =
    let inside : c.loop-used.used ≤ length c.args.exponents.now = omega (arith, c.told-exponents, c.loop-used.invariant.0) in (
      omega (arith, c.loop-used.invariant.0),
      used-shorter c.args.exponents.now c.loop-used.used c.loop-used-test.true inside c.if-exponents-used-eq0.true
          c.loop-used.invariant.1,
    )

pub returns-else-exponents-used-eq0 : goal.returns-else-exponents-used-eq0
returns-else-exponents-used-eq0 c =
    used-whole c.args.exponents.now c.loop-used.used c.loop-used-test.true
    (omega (arith, c.told-exponents, c.loop-used.invariant.0)) c.if-exponents-used-eq0.false c.loop-used.invariant.1
