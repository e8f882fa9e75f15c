use Rattle.std.proofs.Common.{rules, lit≤, inr, refl}
use Rattle.bracket_poly.proofs.Degrees.{exponents_fit}
use Rattle.worked_values.proofs.polynomials.put_taken.Goals as goal

pub mul_add-requires : goal.mul_add-requires
mul_add-requires g c =
    let a = c.args.a.now.tracked.sum in
    let b = c.args.b.now.tracked.sum in (
      search rules,
      (search rules, (inr refl, exponents_fit 1000 1000 a b (lit≤ tt) c.requires.first c.requires.second)),
    )
