use Rattle.std.proofs.Common.{ap, ◌∙◌}
use Rattle.bracket_poly.specs.Orders.{merged}
use Rattle.bracket_poly.proofs.OrderLaws.{merged_alone}
use Rattle.bracket_poly.proofs.key_order.KeyOrder+D.settle.Goals as goal

pub returns : goal.returns
returns g c =
    ap (merged c.in_ok-self-inside.field-0.items) c.clear.ensures.empty ∙ merged_alone c.in_ok-self-inside.field-0.items
    ∙ c.in_ok-self-inside.ensures.keys
