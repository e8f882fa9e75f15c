use Rattle.bracket_poly.proofs.Degrees.{degree_after}
use Rattle.worked_values.proofs.reading.add_term.Goals as goal

pub returns : goal.returns
returns g c =
    degree_after 1000 c.args.poly.now.tracked _ _ c.in_ok-add.ensures.added c.requires.degree c.params-params.ensures
