use Rattle.std.proofs.Common.{ap₂, ℤ}
use mir.Syntax.{w128}
use Rattle.std.proofs.lemmas.Int.{to_z-of_z}
use Rattle.coordinate_model.specs.Key.{Key}
use Rattle.bracket_poly.proofs.Additions.{adds_one, adds_this, seen_unchanged}
use Rattle.bracket_poly.proofs.poly.Poly.add_copy.Goals as goal

pub returns : goal.returns
returns g c =
    adds_this _ _ _ _ _ (ap₂ (λ (k : Key) (z : ℤ). (k, z)) c.in-Ok.ensures (to_z-of_z w128 c.args.c c.ranges.c))
    (adds_one _ _ _ c.add.result c.add.ensures.answer c.add.ensures.added
    (seen_unchanged g.row.D _ _ c.add.result c.add.ensures.unchanged))
