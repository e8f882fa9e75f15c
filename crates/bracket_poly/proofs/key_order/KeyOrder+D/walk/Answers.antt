use Rattle.std.proofs.Common.{subst}
use Rattle.std.specs.List.Sorted.{IsStrictlySortedBy}
use Rattle.coordinate_model.specs.Key.{key_cmp}
use Rattle.bracket_poly.proofs.OrderLaws.{merged_ascends}
use Rattle.bracket_poly.proofs.key_order.KeyOrder+D.walk.Goals as goal

pub returns-clause-ascending : goal.returns-clause-ascending
returns-clause-ascending g c =
    subst (IsStrictlySortedBy key_cmp) c.self.view_is
    (merged_ascends c.self.inside.long.items c.self.inside.recent.keys c.self.invariant.0 c.of.ensures.ascending)
