use Rattle.std.proofs.Common.{◌≡◌, Option, pos, refl, subst}
use Rattle.std.specs.Prelude.{MatchOption}
use Rattle.bracket_poly.specs.Arena.{key_of}
use Rattle.bracket_terms.specs.LogUses.{use_of}
use Rattle.bracket_terms.specs.declared.log_use.LogUse.{LogUse}
use Rattle.coordinate_model.specs.BracketPolynomial.{BracketPolynomial}
use Rattle.coordinate_model.specs.Key.{Key}
use Rattle.coordinate_model.specs.Sums.{coefficient}
use Rattle.straightening.specs.Turns.{IsUseAt}
use Rattle.straightening.proofs.turn.found_at.Goals as goal

pub returns-in-Some : goal.returns-in-Some
returns-in-Some g c =
    let f : BracketPolynomial = c.args.poly.now.tracked.sum in
    let key : Key = key_of c.args.key.now.0 c.args.key.now.1.now in (
      subst (λ (o : Option (LogUse g.row.D)). MatchOption o (coefficient f key ≡ pos 0) (λ log_use. IsUseAt f key (use_of log_use)))
          c.in-Some.is c.in_ok-log_use.ensures,
      refl,
    )

pub returns : goal.returns
returns g c =
    let f : BracketPolynomial = c.args.poly.now.tracked.sum in
    let key : Key = key_of c.args.key.now.0 c.args.key.now.1.now in (
      subst (λ (o : Option (LogUse g.row.D)). MatchOption o (coefficient f key ≡ pos 0) (λ log_use. IsUseAt f key (use_of log_use)))
          c.in_default.is c.in_ok-log_use.ensures,
      c.remove.ensures.list,
    )
