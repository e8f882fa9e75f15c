use Rattle.std.proofs.Common.{◌++◌, ap, ap₂, ◌∙◌}
use Rattle.coordinate_model.specs.Syzygy.{sorted}
use Rattle.contraction.proofs.PointLists.{sorted_by_std}
use Rattle.contraction.proofs.points.further.Goals as goal

pub returns : goal.returns
returns c =
    sorted_by_std _ _ c.in_ok-sort.ensures.permutation c.in_ok-sort.ensures.sorted
    ∙ ap sorted (c.in_ok-points.ensures
    ∙ ap₂ ◌++◌ (c.deref.ensures.value ∙ c.in_ok-first.ensures) (c.deref-2.ensures.value ∙ c.in_ok-second.ensures))
