use Rattle.std.proofs.Common.{refl, inl, Contains}
use Rattle.cay_base.specs.Memory.{fitting, half}
use Rattle.cay_base.proofs.Fronts.{front_of_take, front_of_both}
use Rattle.cay_base.proofs.memory.MemSinkSink.put.Goals as goal

pub returns-then-fails-clause-bytes : goal.returns-then-fails-clause-bytes
returns-then-fails-clause-bytes c = (
  fitting c.self.inside.room c.self.inside.bytes.items (half c.args.piece.now),
  front_of_both _ _ c.args.piece.now,
  rw (← c.self.view_is) c.append_fitting.ensures.bytes,
)

pub returns-then-fails-clause-fails : goal.returns-then-fails-clause-fails
returns-then-fails-clause-fails c =
    let here : Contains c.deref.result.now c.self.inside.calls = c.if-fails.ensures.0 refl in
    (λ _. inl (rw (← c.self.view_is, ← c.deref.ensures.value) here), λ _. refl)

pub returns-then-fails-clause-others : goal.returns-then-fails-clause-others
returns-then-fails-clause-others c =
    let here : Contains c.deref.result.now c.self.inside.calls = c.if-fails.ensures.0 refl in
    λ others. absurd (others (rw (← c.self.view_is, ← c.deref.ensures.value) here))

pub returns-then-not-append_fitting-clause-bytes :
    goal.returns-then-not-append_fitting-clause-bytes
returns-then-not-append_fitting-clause-bytes c = (
  fitting c.self.inside.room c.self.inside.bytes.items c.args.piece.now,
  front_of_take _ c.args.piece.now,
  rw (← c.self.view_is) c.append_fitting-2.ensures.bytes,
)
