use Rattle.std.proofs.Common.{ℕ, ◌∙◌, ap}
use Rattle.cayley_terms.specs.Named.{has_name}
use Rattle.cayley_terms.specs.Straight.{Lowered}
use Rattle.cayley_terms.proofs.StatementSteps.{point_room, point_new}
use Rattle.cayley_terms.proofs.lowering.Lowering.point.Goals as goal

pub push-requires : goal.push-requires
push-requires c =
    rw (ap (λ (s : Lowered). s.points) c.push.view_is)
    (point_room c.args.line c.args.self.now c.args.name.now c.requires)

pub add-requires : goal.add-requires
add-requires c =
    ap (λ name. has_name name c.self.inside.numbers) c.bytes.ensures
    ∙ ap (λ (s : Lowered). has_name c.args.name.now s.numbers)
    (c.self.view_is ∙ ap (λ (r : Lowered × ℕ). r.0) (c.in_ok-number.ensures {u = tt}))
    ∙ point_new c.args.line c.args.self.now c.args.name.now c.requires
