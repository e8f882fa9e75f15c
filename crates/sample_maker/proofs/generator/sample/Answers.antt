use Rattle.std.proofs.Common.{sym, ap, subst, ◌∙◌}
use Rattle.std.specs.Prelude.{map}
use Rattle.construction_reader.specs.Said.{row}
use Rattle.construction_reader.specs.Grammar.{IsGiven}
use Rattle.step_types.specs.Checks.{IsGood}
use Rattle.sample_maker.proofs.Good.{good}
use Rattle.sample_maker.proofs.Given.{given}
use Rattle.sample_maker.proofs.generator.sample.Goals as goal

pub invariant_of-result : goal.invariant_of-result
invariant_of-result c =
    let rows = ap (map row) c.of-statements.ensures ∙ c.in_ok-statements.ensures in
    let holds = given c.args.number c.requires.most in
    record { given = subst (λ rows. IsGiven (record { rank = 3; rows = rows })) (sym rows) holds }

pub returns-clause-good : goal.returns-clause-good
returns-clause-good c =
    let rows = ap (map row) c.of-statements.ensures ∙ c.in_ok-statements.ensures in
    subst (λ rows. IsGood (record { rank = 3; rows = rows })) (sym rows) (good c.args.number c.requires.most)
