use Rattle.std.proofs.Common.{sym, ◌∙◌}
use lib.Pointwise.{bytes_decides}
use Rattle.log_checker.proofs.Paired.{equal_sizes, places_same, same_places}
use Rattle.log_checker.proofs.object.same_points.Goals as goal

pub returns-then-first-second : goal.returns-then-first-second
returns-then-first-second c =
    let x = c.args.first.now in
    let y = c.args.second.now in
    let same = bytes_decides x.points y.points in (
      λ t. places_same x y c.if-first-second.true (same.0 (sym c.eq.ensures ∙ t)),
      λ e. c.eq.ensures ∙ same.1 (same_places x y e).1,
    )

pub returns-else-first-second : goal.returns-else-first-second
returns-else-first-second c = (
  λ t. absurd (c.if-first-second.false (equal_sizes c.args.first.now.size c.args.second.now.size t)),
  λ e. absurd (c.if-first-second.false (same_places c.args.first.now c.args.second.now e).0),
)
